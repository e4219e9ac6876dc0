use Rattle.std.proofs.Common.{◌≡◌, ◌+◌, ◌++◌, ◌∷◌, ⊎_elim, sym, ap, subst, ◌∙◌, true≢false, arith, append_assoc, take, get_or, ltb, []}
use Rattle.std.proofs.lemmas.Bool.{cases_Bool, ltb-false, ltb-true}
use Rattle.std.proofs.lemmas.List.{take_more}
use Rattle.idl_disk.specs.Extent.{Measures}
use Rattle.idl_disk.specs.Reading.{ArePastLimits}
use Rattle.idl_disk.proofs.reading.Extent.add.Goals as goal

pub returns-then-is_over-clause-first : goal.returns-then-is_over-clause-first
returns-then-is_over-clause-first c = λ before m. (c.bytes.invariant before m).1

pub bytes-preserved : goal.bytes-preserved
bytes-preserved c = λ before m.
    let here = c.bytes.invariant before m in
    let bytes = c.args.bytes.now in
    let count = c.bytes.count in
    let front : before ++ take (count + 1) bytes ≡ (before ++ take count bytes) ++ get_or bytes count 0 ∷ [] =
    ap (λ l. before ++ l) (take_more bytes count 0 (omega (arith, c.bytes-test.true))) ∙ sym (append_assoc before (take count bytes) (get_or bytes count 0 ∷ [])) in (
      subst (λ l. Measures l c.after.result) (sym front) (c.after.ensures (before ++ take count bytes) here.0),
      λ n less past. ⊎_elim
          (λ early. here.1 n (ltb-true n count early) past)
          (λ late.
          let same : n ≡ count = omega (arith, less, ltb-false n count late) in
          true≢false (sym ((c.is_over.ensures.over (before ++ take count bytes) here.0).1 (subst (λ k. ArePastLimits (before ++ take k bytes)) same past)) ∙ c.if-is_over.false))
          (cases_Bool (ltb n count)),
    )

pub returns-clause-first : goal.returns-clause-first
returns-clause-first c = λ before m n less. (c.bytes.invariant before m).1 n (omega (arith, less, c.bytes-test.false))
