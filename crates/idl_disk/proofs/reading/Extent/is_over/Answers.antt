use Rattle.std.proofs.Common.{refl, sym, ◌∙◌, arith}
use Rattle.std.proofs.lemmas.Bool.{leb-true, le-leb, ltb-true, lt-ltb}
use Rattle.idl_disk.proofs.ReadingLemmas.{over-begun, over-ended, past-long}
use Rattle.idl_disk.proofs.reading.Extent.is_over.Goals as goal

pub returns-then-self-gt-MAX_LINE-clause-over : goal.returns-then-self-gt-MAX_LINE-clause-over
returns-then-self-gt-MAX_LINE-clause-over c = λ bytes m.
    (λ _. past-long bytes c.args.self m (omega (arith, c.if-self-gt-MAX_LINE.true)), λ _. refl)

pub returns-in-true-clause-over : goal.returns-in-true-clause-over
returns-in-true-clause-over c = λ bytes m.
    let over = over-begun bytes c.args.self m (sym c.has_begun.ensures ∙ c.in-true.is) (omega (arith, c.if-self-gt-MAX_LINE.false)) in
    (λ many. over.0 (leb-true 200000 c.args.self.lines many), λ past. le-leb 200000 c.args.self.lines (over.1 past))

pub returns-in-false-clause-over : goal.returns-in-false-clause-over
returns-in-false-clause-over c = λ bytes m.
    let over = over-ended bytes c.args.self m (sym c.has_begun.ensures ∙ c.in-false.is) (omega (arith, c.if-self-gt-MAX_LINE.false)) in
    (λ many. over.0 (ltb-true 200000 c.args.self.lines many), λ past. lt-ltb 200000 c.args.self.lines (over.1 past))
