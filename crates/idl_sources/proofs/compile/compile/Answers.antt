-- The rows and the absent files are those of the expansion that the result is.
use Rattle.std.proofs.Common.{◌≡◌, ◌∙◌, List, Option, ap, subst}
use Rattle.idl_event.specs.declared.asked.key.RootAnswer.{RootAnswer}
use Rattle.idl_event.specs.declared.asked.key.RootKey.{RootKey}
use Rattle.idl_event.specs.declared.told.event.Event.{Event}
use Rattle.idl_prep.specs.Root.{absent_files}
use Rattle.idl_root.specs.Compile.{compile}
use Rattle.idl_root.specs.Turns.{FitsU64}
use Rattle.idl_sources.specs.Compile.{end_of}
use Rattle.idl_sources.proofs.CompileLemmas.{compile-kept}
use Rattle.idl_sources.proofs.compile.compile.Goals as goal

pub returns-clause-compiled : goal.returns-clause-compiled
returns-clause-compiled g c =
    let bank = g.B.Bank.at c.args.bank.now in
    let kept = c.args.kept.now in
    let rows : c.in_ok-rows.rows ≡ compile (end_of bank kept.text) kept.out =
    c.in_ok-rows.ensures.compiled ∙ (λ i. compile ((c.in_ok-end.ensures ∙ ap (end_of bank) c.root_name.ensures) i) (c.root_expansion.ensures i)) in
    let names : c.from_vec.result ≡ absent_files kept.log = c.from_vec.ensures ∙ c.in_ok-names.ensures in
    (λ i. record { rows = rows i; absent = names i }) ∙ compile-kept bank kept c.requires

pub returns-clause-within : goal.returns-clause-within
returns-clause-within g c =
    let is = c.root_expansion.ensures ∙ ap (λ (p : List Event × List (RootKey × Option RootAnswer)). p.0) c.requires in
    subst FitsU64 is c.in_ok-rows.ensures.within
