-- One query after another.
use Rattle.std.proofs.Common.{◌≡◌, refl, ap}
use Rattle.idl_memo.specs.Query.{Done, Ask, Tell, and_then}
use Rattle.idl_event.specs.Expanding.{Expanding}

module _ {A B : Type 0} where
  -- queries that go on alike
  pub and_then-alike : (query : Expanding A) (f g : A → Expanding B) → ((a : A) → f a ≡ g a) → and_then query f ≡ and_then query g
  and_then-alike query f g alike = λ i. and_then query (λ a. alike a i)

module _ {A B C : Type 0} where
  -- a query of two, and one after it
  pub and_then-and_then : (query : Expanding A) (f : A → Expanding B) (g : B → Expanding C) → and_then (and_then query f) g ≡ and_then query (λ a. and_then (f a) g)
  and_then-and_then (Done a) f g = refl
  and_then-and_then (Ask k next) f g = λ i. Ask k (λ v. and_then-and_then (next v) f g i)
  and_then-and_then (Tell x query) f g = ap (Tell x) (and_then-and_then query f g)
