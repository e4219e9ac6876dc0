use Rattle.std.proofs.Common.{IfSome, slice_get, sym, ap, ◌∙◌, subst}
use Rattle.std.specs.Map.{keys_of}
use Rattle.idl_map.specs.Table.{AreDistinct, IsIndexOf, places_behind, places_in}
use Rattle.idl_base.proofs.Exactness.{Decides-eq}
use Rattle.idl_map.proofs.TableLemmas.{position-is}
use Rattle.idl_map.proofs.table.Table.place_of.Goals as goal

pub place_in-requires : goal.place_in-requires
place_in-requires g c =
    let eq = g.K.PartialEq.eq in
    subst (λ places. IsIndexOf (places_in eq places) (keys_of c.deref-in-Some.result.now)) (sym c.deref.ensures)
    (subst (λ es. IsIndexOf (places_in eq c.in-Some.places.value) (keys_of es)) (sym c.deref-in-Some.ensures.value)
    (subst (λ o. IfSome (places_behind eq o) (λ places. IsIndexOf places (keys_of c.self.inside.entries.items))) c.in-Some.is c.self.invariant.places))

pub returns-in-Some : goal.returns-in-Some
returns-in-Some g c =
    let seen = c.deref-in-Some.ensures.value ∙ c.self.view_is in
    λ i. (
      λ h. ap (λ es. slice_get (keys_of es) i) (sym seen) ∙ (c.place_in.ensures i).0 h,
      λ h. (c.place_in.ensures i).1 (ap (λ es. slice_get (keys_of es) i) seen ∙ h),
    )

pub returns-in-None : goal.returns-in-None
returns-in-None g c =
    let seen = c.deref-in-None.ensures.value ∙ c.self.view_is in
    let is = c.place_among.ensures in
    let one = position-is g.K.PartialEq.eq (Decides-eq g.K.PartialEq.eq g.met.K.Eq.laws g.met.K.Datum.same) c.deref-in-None.result.now c.args.key.now
    (subst AreDistinct (ap keys_of (sym c.deref-in-None.ensures.value)) c.self.invariant.distinct) in
    λ i. (
      λ h. ap (λ es. slice_get (keys_of es) i) (sym seen) ∙ (one i).0 (sym is ∙ h),
      λ h. is ∙ (one i).1 (ap (λ es. slice_get (keys_of es) i) seen ∙ h),
    )
