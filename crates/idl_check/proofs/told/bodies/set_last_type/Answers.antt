use Rattle.std.proofs.Common.{◌≡◌, ℕ, zero, suc, ◌-◌, List, [], ◌∷◌, length, get_or, set, Option, ap, refl, arith}
use Rattle.idl_check.specs.told.Bodies.{with_last_type}
use Rattle.idl_entity.specs.declared.data_type.DataType.{DataType}
use Rattle.idl_entity.specs.declared.signature.Member.{Member}
use Rattle.idl_check.proofs.told.bodies.set_last_type.Goals as goal

-- the place of the last of some members
last-place : (t : Option DataType) (members : List Member) (at : ℕ) (m : Member) → suc at ≡ length members → m ≡ get_or members at m
    → set members at (record m { data_type = t }) ≡ with_last_type t members
last-place t [] at m count is = absurd (omega (arith, count))
last-place t (x ∷ []) zero m count is = λ i. record (is i) { data_type = t } ∷ []
last-place t (x ∷ []) (suc at) m count is = absurd (omega (arith, count))
last-place t (x ∷ y ∷ members) zero m count is = absurd (omega (arith, count))
last-place t (x ∷ y ∷ members) (suc at) m count is = ap (λ l. x ∷ l) (last-place t (y ∷ members) at m (omega (arith, count)) is)

pub returns-in-Some : goal.returns-in-Some
returns-in-Some c =
    let members = c.args.members.now in
    last-place c.args.data_type members.items (members.len - 1) c.in-Some.member.now (omega (arith, c.in-Some.ensures.variant.0 refl, members.ok.0)) c.in-Some.ensures.value
