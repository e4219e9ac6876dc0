-- What comes of a root is that of the events that its result is.
use Rattle.std.proofs.Common.{◌≡◌, ◌⊎◌, ◌∙◌, ℕ, List, Option, ap, subst}
use Rattle.idl_event.specs.declared.asked.key.RootAnswer.{RootAnswer}
use Rattle.idl_event.specs.declared.asked.key.RootKey.{RootKey}
use Rattle.idl_event.specs.declared.told.event.Event.{Event}
use Rattle.idl_memo.specs.Kept.{Kept}
use Rattle.idl_prep.specs.Root.{absent_files}
use Rattle.idl_sources.specs.idl_root.AsBefore.{IsAsBefore, IsMade}
use Rattle.idl_sources.specs.idl_root.Compile.{compile}
use Rattle.idl_sources.specs.idl_root.Turns.{FitsU64}
use Rattle.idl_sources.specs.idl_root.Results.{root_marks}
use Rattle.idl_sources.specs.Compile.{end_of}
use Rattle.idl_sources.proofs.CompileLemmas.{compile-kept}
use Rattle.idl_project.proofs.KeptLemmas.{IsDrafted-from, none-weaker}
use Rattle.idl_project.proofs.compile.compile_kept.Goals as goal

abbrev KeptRun : Type 0
KeptRun = Kept RootKey (Option RootAnswer) (List ℕ) (List Event)

pub returns-clause-compiled : goal.returns-clause-compiled
returns-clause-compiled g c =
    let bank = g.B.Bank.at c.args.bank.now in
    let kept : KeptRun = c.args.root.0.now.value in
    let name = c.root_name.ensures ∙ ap (λ (k : KeptRun). k.text) c.deref.ensures in
    let rows : c.in_ok-rows.field-0.compiled ≡ compile (end_of bank kept.text) kept.out =
    c.in_ok-rows.ensures.compiled ∙ (λ i. compile ((c.in_ok-end.ensures ∙ ap (end_of bank) name) i) ((c.root_expansion.ensures ∙ ap (λ (k : KeptRun). k.out) c.deref-2.ensures) i)) in
    let names : c.from_vec.result ≡ absent_files kept.log = c.from_vec.ensures ∙ c.in_ok-names.ensures ∙ ap (λ (k : KeptRun). absent_files k.log) c.deref-3.ensures in
    (λ i. record { rows = rows i; absent = names i }) ∙ compile-kept bank kept c.requires.over

pub returns-clause-within : goal.returns-clause-within
returns-clause-within g c =
    let is = c.root_expansion.ensures ∙ ap (λ (k : KeptRun). k.out) c.deref-2.ensures ∙ ap (λ (p : List Event × List (RootKey × Option RootAnswer)). p.0) c.requires.over in
    subst FitsU64 is c.in_ok-rows.ensures.within

pub returns-clause-marks : goal.returns-clause-marks
returns-clause-marks g c =
    let is = c.root_expansion.ensures ∙ ap (λ (k : KeptRun). k.out) c.deref-2.ensures ∙ ap (λ (p : List Event × List (RootKey × Option RootAnswer)). p.0) c.requires.over in
    c.in_ok-rows.ensures.marks ∙ ap root_marks is

pub returns-clause-tasks : goal.returns-clause-tasks
returns-clause-tasks g c = λ was kept.
    let is = c.root_expansion.ensures ∙ ap (λ (k : KeptRun). k.out) c.deref-2.ensures ∙ ap (λ (p : List Event × List (RootKey × Option RootAnswer)). p.0) c.requires.over in
    subst
    (λ (es : List Event). IsAsBefore was es c.args.keeper.now c.compile_kept.new.keeper c.args.meter.now c.compile_kept.new.meter
    ⊎ IsMade es c.args.root.1.at c.args.keeper.now c.compile_kept.new.keeper c.args.meter.now c.compile_kept.new.meter) is
    (c.in_ok-rows.ensures.tasks was kept)

pub returns-clause-first : goal.returns-clause-first
returns-clause-first g c =
    let is = c.root_expansion.ensures ∙ ap (λ (k : KeptRun). k.out) c.deref-2.ensures ∙ ap (λ (p : List Event × List (RootKey × Option RootAnswer)). p.0) c.requires.over in
    none-weaker c.args.root.1.compiled
    (IsDrafted-from (g.B.Bank.at c.args.bank.now) c.args.root.1.at c.args.root.0.now.value.text c.root_expansion.result.now c.args.keeper.now c.compile_kept.new.keeper c.args.meter.now c.compile_kept.new.meter is)
    c.in_ok-rows.ensures.first
