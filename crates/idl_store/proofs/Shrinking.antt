-- A slab with the same values under their numbers, and an index with the same results.
use Rattle.std.proofs.Common.{◌≡◌, ◌↔◌, ℕ, List, [], Option, None, Some, ap, arith, subst, sym}
use Rattle.std.specs.Prelude.{Contains, IsSome}
use Rattle.std.specs.Option.{option_map}
use Rattle.slab.specs.Slab.{Slab, SameValues}
use Rattle.idl_store.specs.Index.{bucket_in}
use Rattle.idl_store.specs.Numbers.{AreFewer, AreUsed, IsIndexOf, kept_at, uses_of, with_bucket}
use Rattle.idl_store.specs.declared.index.Numbered.{Numbered}
use Rattle.idl_store.specs.declared.numbers.Used.{Used}
use Rattle.idl_store.proofs.Using.{indexed-same}

module _ {R : Type 0} (old new : Slab (Used R)) (same : SameValues old new) where
  uses-same : (n : ℕ) → uses_of new n ≡ uses_of old n
  uses-same n = ap (λ (o : Option (Used R)). elim o [ None ↦ 0 | Some u ↦ u.uses ]) (same n)

  pub kept-same : (n : ℕ) → kept_at new n ≡ kept_at old n
  kept-same n = ap (option_map with_bucket) (same n)

  -- no use is given up
  pub fewer-none : AreFewer old new []
  fewer-none = record { uses = λ n. omega (arith, uses-same n); kept = λ n used. kept-same n }

  pub used-same : AreUsed old → AreUsed new
  used-same used n there = omega (arith, uses-same n, used n (subst IsSome (same n) there))

module _ {R : Type 0} (old new : Slab (Used R)) (same : SameValues old new) where
  -- what was found is found
  pub indexed-shrunk : (before after : List (ℕ × List (Numbered R)))
      → ((b : ℕ) → bucket_in after b ≡ bucket_in before b) → IsIndexOf old before → IsIndexOf new after
  indexed-shrunk before after there indexed b one =
      subst (λ (items : List (Numbered R)). Contains items one ↔ (kept_at new one.number ≡ Some (one.result, b))) (sym (there b))
      (indexed-same old new before (kept-same old new same) indexed b one)
