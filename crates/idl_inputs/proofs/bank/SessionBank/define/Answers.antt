use Rattle.std.proofs.Common.{◌∙◌, ◌∷◌, [], Some, ap}
use Rattle.idl_event.specs.declared.asked.key.RootAnswer.TheVariants as answers
use Rattle.idl_event.specs.declared.asked.key.RootKey.TheVariants as keys
use Rattle.idl_event.specs.Key.{key_eq}
use Rattle.idl_memo.specs.Cause.{changed}
use Rattle.idl_prep.specs.Include.{directories_in}
use Rattle.idl_inputs.specs.Bank.{bank_of}
use Rattle.idl_inputs.specs.Project.{Inputs}
use Rattle.idl_inputs.proofs.BankLemmas.{macros-changed}
use Rattle.idl_inputs.proofs.bank.SessionBank.define.Goals as goal

pub returns-clause-bank : goal.returns-clause-bank
returns-clause-bank c =
    let inputs : Inputs = record { files = c.self.inside.files; macros = c.self.inside.macros.entries; search = directories_in (Some c.self.inside.search) } in
    macros-changed inputs c.insert.new.self.entries c.args.word (Some c.args.body) c.in_ok-insert.ensures.updates.0
    ∙ ap (λ (i : Inputs). changed key_eq (bank_of i) (keys.Macro c.args.word) (Some (answers.Macro (c.args.body ∷ [])))) c.self.view_is
