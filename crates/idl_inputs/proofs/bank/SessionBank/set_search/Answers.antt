use Rattle.std.proofs.Common.{◌∙◌, Some, sym, ap}
use Rattle.idl_event.specs.declared.asked.key.RootAnswer.{RootAnswer}
use Rattle.idl_event.specs.declared.asked.key.RootKey.TheVariants as keys
use Rattle.idl_event.specs.Key.{key_eq}
use Rattle.idl_memo.specs.Cause.{changed}
use Rattle.idl_prep.specs.Include.{directories_in}
use Rattle.idl_inputs.specs.Bank.{bank_of}
use Rattle.idl_inputs.specs.Project.{Inputs}
use Rattle.idl_inputs.proofs.BankLemmas.{search-changed}
use Rattle.idl_inputs.proofs.bank.SessionBank.set_search.Goals as goal

pub returns-clause-bank : goal.returns-clause-bank
returns-clause-bank c =
    let inputs : Inputs = record { files = c.self.inside.files; macros = c.self.inside.macros.entries; search = directories_in (Some c.self.inside.search) } in
    search-changed inputs (directories_in (Some c.args.search))
    ∙ ap (λ (a : RootAnswer). changed key_eq (bank_of inputs) keys.Search (Some a)) (sym c.requires)
    ∙ ap (λ (i : Inputs). changed key_eq (bank_of i) keys.Search (Some c.args.search)) c.self.view_is
