use Rattle.std.proofs.Common.{refl, sym, arith, inl, inr}
use Rattle.std.proofs.lemmas.Bool.{eq-eqb, ne_eqb}
use Rattle.idl_disk.proofs.ReadingLemmas.{a-return, measured-newline, measured-other, no-return, size-more}
use Rattle.idl_disk.proofs.reading.Extent.after.Goals.{in-true, in-false}
use Rattle.idl_disk.proofs.reading.Extent.after.Goals as goal

pub returns-then-byte-eq-NEWLINE : goal.returns-then-byte-eq-NEWLINE
returns-then-byte-eq-NEWLINE c = λ bytes m. measured-newline bytes c.args.self _ c.args.byte m c.requires.bytes c.if-byte-eq-NEWLINE.true refl refl refl

pub returns-then-byte-eq13 : goal.returns-then-byte-eq13
returns-then-byte-eq13 c = λ bytes m.
    measured-other bytes c.args.self _ c.args.byte m c.if-byte-eq-NEWLINE.false refl
    (omega (
      arith,
      size-more c.args.self.has_return c.if-self.bytes c.args.self.bytes c.args.byte 0
          (elim c.if-self.branch [ in-true w ↦ inl (w.in-true.is, w.bytes-is) | in-false w ↦ inr (w.in-false.is, w.bytes-is) ]) (a-return c.args.byte c.if-byte-eq13.true),
    ))
    (sym (eq-eqb c.args.byte 13 c.if-byte-eq13.true))

pub returns : goal.returns
returns c = λ bytes m.
    measured-other bytes c.args.self _ c.args.byte m c.if-byte-eq-NEWLINE.false refl
    (size-more c.args.self.has_return c.if-self.bytes c.args.self.bytes c.args.byte 1
    (elim c.if-self.branch [ in-true w ↦ inl (w.in-true.is, w.bytes-is) | in-false w ↦ inr (w.in-false.is, w.bytes-is) ]) (no-return c.args.byte c.if-byte-eq13.false))
    (sym (ne_eqb c.args.byte 13 c.if-byte-eq13.false))
