-- The units are as they were, and all that is kept of them holds; or the root is compiled anew.
use Rattle.std.proofs.Common.{◌≡◌, ◌∙◌, None, Some, ap, inl, inr, refl, subst, sym}
use Rattle.std.specs.Option.{unwrap_or}
use Rattle.idl_memo.specs.Meter.{compared_after}
use Rattle.idl_memo.specs.declared.meter.Meter.{Meter}
use Rattle.idl_root.specs.AsBefore.{AreAsBefore}
use Rattle.idl_root.specs.Compared.{root_keys}
use Rattle.idl_root.specs.Results.{RootMarks}
use Rattle.idl_root.proofs.AsBeforeLemmas.{declarations-again, entries-again, keys-again, pieces-again, within-same}
use Rattle.idl_root.proofs.MadeLemmas.{compared-again}
use Rattle.idl_root.proofs.TakenLemmas.{at-some, none-holds, none-weaker, some-there}
use Rattle.idl_unit.specs.Units.{units_of}
use Rattle.idl_root.proofs.compiling.compiled.compile_kept.Goals as goal

pub returns-in-Some-clause-within : goal.returns-in-Some-clause-within
returns-in-Some-clause-within c =
    let was = c.requires.0 in
    let events = c.args.source.1.now in
    let same : AreAsBefore (units_of was) (units_of events) =
    subst (AreAsBefore (units_of was)) (c.as_slice.ensures ∙ c.in_ok-units.ensures)
    (at-some c.in_ok-compiled.field-0 c.in-Some.compiled _ c.in-Some.is c.in_ok-compiled.ensures.same was c.requires.1) in
    let there =
    some-there c.args.before.compiled _
    (none-weaker c.args.before.compiled (λ h. let never : Some c.in-Some.compiled ≡ None = sym c.in-Some.is ∙ h in cc) c.in_ok-compiled.ensures.none) c.requires.2 in
    within-same was events same there.1.within

pub returns-in-Some-clause-marks : goal.returns-in-Some-clause-marks
returns-in-Some-clause-marks c =
    let was = c.requires.0 in
    let events = c.args.source.1.now in
    let same : AreAsBefore (units_of was) (units_of events) =
    subst (AreAsBefore (units_of was)) (c.as_slice.ensures ∙ c.in_ok-units.ensures)
    (at-some c.in_ok-compiled.field-0 c.in-Some.compiled _ c.in-Some.is c.in_ok-compiled.ensures.same was c.requires.1) in
    c.requires.1.marks_are ∙ (λ i. record { marks = sym same.marks i; keys = compared_after 0 (sym (keys-again was events same) i) })

pub returns-in-Some-clause-tasks : goal.returns-in-Some-clause-tasks
returns-in-Some-clause-tasks c = λ was kept.
    let events = c.args.source.1.now in
    let same : AreAsBefore (units_of was) (units_of events) =
    subst (AreAsBefore (units_of was)) (c.as_slice.ensures ∙ c.in_ok-units.ensures)
    (at-some c.in_ok-compiled.field-0 c.in-Some.compiled _ c.in-Some.is c.in_ok-compiled.ensures.same was kept) in
    inl (record {
      declarations_are = declarations-again was events same;
      pieces_are = pieces-again was events same;
      entries_are = entries-again was events same;
      texts = refl;
      entries = refl;
      checked = ap (λ (m : Meter). m.checked) c.compare.ensures;
      printed = ap (λ (m : Meter). m.printed) c.compare.ensures;
      compared =
          let keys : c.keys.result ≡ compared_after 0 (root_keys events) =
          c.keys.ensures ∙ ap (λ (m : RootMarks). m.keys) (c.deref.ensures ∙ kept.marks_are) ∙ ap (compared_after 0) (sym (keys-again was events same)) in
          ap (λ (m : Meter). m.compared) c.compare.ensures ∙ compared-again c.args.meter.now.compared c.keys.result (root_keys events) keys;
    })

pub returns-in-Some-clause-first : goal.returns-in-Some-clause-first
returns-in-Some-clause-first c =
    none-weaker c.args.before.compiled (λ h. let never : Some c.in-Some.compiled ≡ None = sym c.in-Some.is ∙ h in cc) c.in_ok-compiled.ensures.none

pub compile_anew-requires-clause-kept : goal.compile_anew-requires-clause-kept
compile_anew-requires-clause-kept c = (c.requires.0, c.requires.1)

pub returns-clause-marks : goal.returns-clause-marks
returns-clause-marks c = ap (λ m. unwrap_or m c.args.before.marks.now.value) c.in_ok-compile_anew.ensures.marks

pub returns-clause-tasks : goal.returns-clause-tasks
returns-clause-tasks c = λ was kept. inr c.in_ok-compile_anew.ensures.made

pub returns-clause-first : goal.returns-clause-first
returns-clause-first c = none-holds c.args.before.compiled c.in_ok-compile_anew.ensures.made
