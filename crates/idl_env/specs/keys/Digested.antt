-- Keys that are told apart by their digests, before they are looked at.
use Rattle.std.specs.Prelude.{◌≡◌, Bool, true, false, ◌&&◌, Some, nat_eq, refl}
use Rattle.std.specs.Cmp.{IsEquivalence, IsPartialEquivalence, IsPartialOrder, IsTotalOrder}
use Rattle.std.specs.Cmp.{both_tied, nat_cmp_total, nat_eq_equiv, on_total, then_total}
use Rattle.std.specs.Cmp.{partial_order_from_agreeing_total, unsigned_ties}
use Rattle.std.specs.Ordering.{eq_by_cmp, nat_cmp, ordering_then}
use Rattle.std.specs.declared.cmp.Ordering.{Ordering}
use Rattle.std.proofs.Common.{ap, sym, ◌∙◌}
use Rattle.idl_env.specs.keys.Key.{key_digest, key_eq}
use Rattle.idl_env.specs.SameKey.{same_key}
use Rattle.idl_env.specs.contracts.keys.key.KeyEq.TheImpl.Laws.{laws-law as equivalence}
use Rattle.idl_env.specs.contracts.keys.key.KeyOrd.TheImpl.{ghosts as own_order}
use Rattle.idl_env.specs.contracts.keys.key.KeyOrd.TheImpl.Laws.{matches_eq-law, total-law}
use Rattle.idl_env.specs.contracts.keys.key.KeyPartialEq.TheImpl.Laws.{laws-law as partial_equivalence}
use Rattle.idl_env.specs.declared.keys.key.Key.{Key}

-- in which order keys come: in that of their digests, and those of one digest in their own
abbrev pub key_cmp : Key → Key → Ordering
key_cmp x y = ordering_then (nat_cmp (key_digest x) (key_digest y)) (own_order.cmp x y)

pub key_per : IsPartialEquivalence key_eq
key_per = partial_equivalence

pub key_equiv : IsEquivalence key_eq
key_equiv = equivalence

and-false : (b : Bool) → (b && false) ≡ false
and-false true = refl
and-false false = refl

abbrev alike : Key → Key → Bool
alike x y = nat_eq (key_digest x) (key_digest y)

told : (x y : Key) (b : Bool) → key_eq x y ≡ b → b ≡ (alike x y && b)
told x y true h =
    sym (ap (λ z. alike x z && true) (sym (same_key x y h))
    ∙ ap (λ b. b && true) (nat_eq_equiv.refl (key_digest x)))
told x y false h = sym (and-false (alike x y))

-- keys are one where their digests are, and they are
pub one_by_digest : (x y : Key) → key_eq x y ≡ (nat_eq (key_digest x) (key_digest y) && key_eq x y)
one_by_digest x y = told x y (key_eq x y) refl

-- what comes first in neither order is one
pub key_cmp_ties : (x y : Key) → key_eq x y ≡ eq_by_cmp key_cmp x y
key_cmp_ties x y =
    one_by_digest x y
    ∙ both_tied (alike x y) (key_eq x y) (nat_cmp (key_digest x) (key_digest y)) (own_order.cmp x y)
    (unsigned_ties (key_digest x) (key_digest y)) (matches_eq-law x y)

-- it is an order
pub key_cmp_total : IsTotalOrder key_cmp
key_cmp_total = then_total (on_total key_digest nat_cmp_total) total-law

pub key_cmp_po : IsPartialOrder key_eq (λ x y. Some (key_cmp x y))
key_cmp_po =
    partial_order_from_agreeing_total key_cmp key_cmp_total (λ x y. refl) key_cmp_ties
