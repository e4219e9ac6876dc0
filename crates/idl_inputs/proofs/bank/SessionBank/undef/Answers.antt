use Rattle.std.proofs.Common.{◌∙◌, None, Some, ap}
use Rattle.idl_event.specs.declared.asked.key.RootKey.TheVariants as keys
use Rattle.idl_event.specs.Key.{key_eq}
use Rattle.idl_memo.specs.Cause.{changed}
use Rattle.idl_prep.specs.Include.{directories_in}
use Rattle.idl_inputs.specs.Bank.{bank_of}
use Rattle.idl_inputs.specs.Project.{Inputs}
use Rattle.idl_inputs.proofs.BankLemmas.{macros-changed}
use Rattle.idl_inputs.proofs.bank.SessionBank.undef.Goals as goal

pub returns-clause-bank : goal.returns-clause-bank
returns-clause-bank c =
    let inputs : Inputs = record { files = c.self.inside.files; macros = c.self.inside.macros.entries; search = directories_in (Some c.self.inside.search) } in
    macros-changed inputs c.shift_remove.new.self.entries c.args.word.now None c.shift_remove.ensures.updates.0
    ∙ ap (λ (i : Inputs). changed key_eq (bank_of i) (keys.Macro c.args.word.now) None) c.self.view_is
