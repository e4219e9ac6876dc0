use Rattle.std.proofs.Common.{ap, ◌∙◌}
use Rattle.idl_memo.specs.Progress.{after_key}
use Rattle.idl_event.specs.Key.{key_eq}
use Rattle.idl_event.specs.declared.asked.key.RootKey.TheVariants.{File}
use Rattle.idl_prep.specs.Include.{file_in}
use Rattle.idl_prep.proofs.directives.find.file_named.Goals as goal

pub returns-clause-file : goal.returns-clause-file
returns-clause-file g c =
    let bank = g.B.Bank.at c.args.bank.now in
    c.file_in.ensures ∙ ap file_in c.in_ok-answer.ensures.answer ∙ ap (λ n. file_in (bank (File n))) c.in_ok-clone.ensures.cases

pub returns-clause-progress : goal.returns-clause-progress
returns-clause-progress g c =
    let bank = g.B.Bank.at c.args.bank.now in
    c.in_ok-answer.ensures.progress ∙ ap (λ n. after_key key_eq bank (File n) c.args.progress.now) c.in_ok-clone.ensures.cases
