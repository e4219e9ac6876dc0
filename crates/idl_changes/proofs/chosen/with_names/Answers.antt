use Rattle.std.proofs.Common.{◌≡◌, ◌∙◌, ◌+◌, [], ℕ, Some, ap, arith, drop, false, get_or, nat_eq, sym, take, true}
use Rattle.std.proofs.lemmas.Bool.Decides.{nat_tests}
use Rattle.idl_changes.specs.Chosen.{with_names}
use Rattle.idl_changes.specs.Rows.{nobody}
use Rattle.idl_changes.specs.declared.rows.Weights.{Weights}
use Rattle.idl_changes.proofs.ChosenLemmas.{going-on, named, unnamed}
use Rattle.idl_changes.proofs.chosen.with_names.Goals as goal
use Rattle.idl_changes.proofs.chosen.with_names.Goals.{then-byte-eq44+in_ok-weights, else-byte-eq44}

pub returns-in_err-weights : goal.returns-in_err-weights
returns-in_err-weights c =
    let text = c.args.text.now in
    let i = c.loop-place.place in
    let at = c.loop-place in
    let comma : nat_eq (get_or text i 0) 44 ≡ true = grind (arith, nat_tests, c.if-byte-eq44.true) in
    c.from_residual.ensures
    ∙ sym (unnamed text i at.start at.weights (with_names [] text nobody) c.loop-place-test.true at.invariant.within at.invariant.rest comma (sym c.with_weight.ensures ∙ c.in_err-weights.was))

pub loop-place-preserved : goal.loop-place-preserved
loop-place-preserved c =
    let text = c.args.text.now in
    let i = c.loop-place.place in
    let at = c.loop-place in
    let all = with_names [] text nobody in
    elim c.if-byte-eq44.branch [
      | then-byte-eq44+in_ok-weights w ↦
          let comma : nat_eq (get_or text i 0) 44 ≡ true = grind (arith, nat_tests, w.if-byte-eq44.true) in
          let some : Some c.if-byte-eq44.weights ≡ w.with_weight.result = ap (λ (more : Weights). Some more) w.weights-is ∙ sym w.in_ok-weights.was in
          record {
            within = omega (arith, w.start-is);
            rest = ap (λ (n : ℕ). with_names (drop n (take (i + 1) text)) (drop (i + 1) text) c.if-byte-eq44.weights) w.start-is
                ∙ named text i at.start at.weights all c.loop-place-test.true at.invariant.within at.invariant.rest c.if-byte-eq44.weights comma (sym w.with_weight.ensures ∙ sym some);
          }
      | else-byte-eq44 w ↦
          let other : nat_eq (get_or text i 0) 44 ≡ false = grind (arith, nat_tests, w.if-byte-eq44.false) in
          record {
            within = omega (arith, w.start-is, at.invariant.within);
            rest = ap (λ (n : ℕ). with_names (drop n (take (i + 1) text)) (drop (i + 1) text) c.if-byte-eq44.weights) w.start-is
                ∙ ap (λ (more : Weights). with_names (drop at.start (take (i + 1) text)) (drop (i + 1) text) more) w.weights-is
                ∙ going-on text i at.start at.weights all c.loop-place-test.true at.invariant.within at.invariant.rest other;
          }
    ]
