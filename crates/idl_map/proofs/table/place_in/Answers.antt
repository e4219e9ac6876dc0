use Rattle.std.proofs.Common.{slice_get, sym, ap, true≢false, ◌∙◌}
use Rattle.std.specs.Map.{keys_of}
use Rattle.std.proofs.lemmas.Option.{none-some, same_Some}
use Rattle.idl_map.proofs.table.place_in.Goals as goal

-- a key for which the index has no place stands nowhere
pub returns-in_err-place : goal.returns-in_err-place
returns-in_err-place g c i = (
  λ h. absurd (none-some i (sym c.from_residual.ensures ∙ h)),
  λ at. absurd (none-some i (c.in_err-place.ensures ∙ c.get.ensures ∙ c.requires c.args.key.now i at)),
)

-- and no key stands but at the place that the index has
pub returns-then-is_at : goal.returns-then-is_at
returns-then-is_at g c i = (
  λ h. ap (slice_get (keys_of c.args.entries.now)) (sym (same_Some c.in_ok-place.place i h)) ∙ c.is_at.ensures.0 c.if-is_at.true,
  λ at. c.in_ok-place.ensures ∙ c.get.ensures ∙ c.requires c.args.key.now i at,
)

pub returns-else-is_at : goal.returns-else-is_at
returns-else-is_at g c i = (
  λ h. absurd (none-some i h),
  λ at.
      let place = c.in_ok-place.ensures ∙ c.get.ensures ∙ c.requires c.args.key.now i at in
      let there = ap (slice_get (keys_of c.args.entries.now)) (same_Some c.in_ok-place.place i place) ∙ at in
      absurd (true≢false (sym (c.is_at.ensures.1 there) ∙ c.if-is_at.false)),
)
