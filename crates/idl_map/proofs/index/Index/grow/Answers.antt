use Rattle.std.proofs.Common.{◌≡◌, ◌<◌, ◌+◌, ◌%◌, Some, inl, inr, length, sym, ap, subst, ◌∙◌, arith, slice_get}
use Rattle.std.proofs.lemmas.Option.{same_Some, slice_get_read}
use Rattle.idl_map.specs.declared.index.Stripe.{Stripe}
use Rattle.idl_map.specs.Buckets.{AreThere, FindsIn}
use Rattle.std.proofs.lemmas.Bool.Decides.{eqb_tells}
use Rattle.std.proofs.Math.ListN.{set, length-set}
use Rattle.idl_map.proofs.ItemLemmas.{slice_get-set_same, slice_get-set_other}
use Rattle.idl_map.proofs.BucketLemmas.{AreKept-twice, AreThere-kept, FindsIn-kept, IsIndexed-kept}
use Rattle.idl_map.proofs.index.Index.grow.Goals as goal

pub returns-in_err-extend-clause-sound : goal.returns-in_err-extend-clause-sound
returns-in_err-extend-clause-sound c = IsIndexed-kept c.args.self.now c.extend.new.self c.requires c.extend.ensures.kept

pub take_all-requires-clause-own : goal.take_all-requires-clause-own
take_all-requires-clause-own c ahead within =
    let first : c.wider-part.result.first ≡ c.len-first.result = omega (arith, c.wider-part.ensures.first, c.if-first-gt-MANY.false) in
    let below : c.wider-part.result.first + ahead < length c.args.self.now.buckets.tags.items + (c.wider-part.result.mask + 1) = omega (arith, first, c.len-first.ensures, within) in
    c.in_ok-extend.ensures.there (c.wider-part.result.first + ahead) below

pub take_all-requires-clause-old : goal.take_all-requires-clause-old
take_all-requires-clause-old c =
    let parts = c.args.self.now.parts.items in
    let number = c.args.digest % 64 in
    let old = c.index-old.result.now in
    let within : number < 64 = omega arith in
    let was : slice_get parts number ≡ Some old = slice_get_read parts 64 number old (sym c.requires.parts) within c.index-old.ensures in
    AreThere-kept old c.args.self.now.buckets c.extend.new.self c.extend.ensures.kept (c.requires.there number old was)

pub returns-then-take_all-clause-sound : goal.returns-then-take_all-clause-sound
returns-then-take_all-clause-sound c =
    let parts = c.args.self.now.parts.items in
    let number = c.args.digest % 64 in
    let old = c.index-old.result.now in
    let wide = c.wider-part.result in
    let before = c.args.self.now.buckets in
    let between = c.extend.new.self in
    let after = c.take_all.new.buckets in
    let within : number < 64 = omega arith in
    let among : number < length parts = omega (arith, within, c.requires.parts) in
    let was : slice_get parts number ≡ Some old = slice_get_read parts 64 number old (sym c.requires.parts) within c.index-old.ensures in
    let first : wide.first ≡ c.len-first.result = omega (arith, c.wider-part.ensures.first, c.if-first-gt-MANY.false) in
    let own : AreThere between wide = λ ahead below.
    let all : wide.first + ahead < length before.tags.items + (wide.mask + 1) = omega (arith, first, c.len-first.ensures, below) in
    c.in_ok-extend.ensures.there (wide.first + ahead) all in
    record {
      parts = length-set parts number wide ∙ c.requires.parts;
      there = λ n part is. elim (eqb_tells n number) [
        | inl t ↦
            let same : wide ≡ part = same_Some wide part (sym (slice_get-set_same parts number wide among) ∙ ap (slice_get (set parts number wide)) (sym t.1) ∙ is) in
            subst (AreThere after) same (AreThere-kept wide between after c.take_all.ensures.kept own)
        | inr f ↦
            AreThere-kept part before after (AreKept-twice before between after c.extend.ensures.kept c.take_all.ensures.kept)
            (c.requires.there n part (sym (slice_get-set_other parts number n wide f.1) ∙ is))
      ];
      finds = λ d i at part is. elim (eqb_tells (d % 64) number) [
        | inl t ↦
            let same : wide ≡ part = same_Some wide part (sym (slice_get-set_same parts number wide among) ∙ ap (slice_get (set parts number wide)) (sym t.1) ∙ is) in
            let found = c.requires.finds d i at old (ap (slice_get parts) t.1 ∙ was) in
            let of : slice_get c.deref.result.now i ≡ Some d = ap (λ ds. slice_get ds i) c.deref.ensures.value ∙ at in
            subst (λ (p : Stripe). FindsIn p after d i) same
            (c.take_all.ensures.taken c.if-take_all.true d i (of, t.1) (FindsIn-kept old before between d i c.extend.ensures.kept found))
        | inr f ↦
            FindsIn-kept part before after d i (AreKept-twice before between after c.extend.ensures.kept c.take_all.ensures.kept)
            (c.requires.finds d i at part (sym (slice_get-set_other parts number (d % 64) wide f.1) ∙ is))
      ];
    }

pub returns-else-take_all-clause-sound : goal.returns-else-take_all-clause-sound
returns-else-take_all-clause-sound c =
    let before = c.args.self.now.buckets in
    let between = c.extend.new.self in
    let after = c.take_all.new.buckets in
    IsIndexed-kept c.args.self.now after c.requires (AreKept-twice before between after c.extend.ensures.kept c.take_all.ensures.kept)
