-- What the marks of digests say of a look-up, and that of many.
use Rattle.std.proofs.Common.{ℕ, List}
use Rattle.std.specs.Prelude.{All, Contains}
use Rattle.std.proofs.lemmas.List.Elements.{All-contains}
use Rattle.idl_root.specs.Changed.{ShareNone}

-- numbers of which none is among others
pub shares-none : (numbers others : List ℕ) → All (λ n. Contains others n → ⊥) numbers → ShareNone numbers others
shares-none numbers others none = λ n i. All-contains (λ n. Contains others n → ⊥) numbers n none i
