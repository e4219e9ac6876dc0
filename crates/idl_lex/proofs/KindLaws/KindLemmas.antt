-- What stands behind the first byte of an escaped word.
use Rattle.std.proofs.Common.{◌≡◌, ◌≢◌, ℕ, List, [], ◌∷◌, length, None, Some, slice_range, refl, ap, arith}
use Rattle.idl_source.proofs.IdlBase.PartLemmas.{part-rest}
use Rattle.idl_lex.specs.kinds.Kind.{unescaped}

-- of no bytes nothing is left, and of others what stands behind the first one
pub unescaped-none : (bytes : List ℕ) → length bytes ≡ 0 → None ≡ unescaped bytes
unescaped-none [] h = refl
unescaped-none (b ∷ bytes) h = absurd (omega (arith, h))

pub unescaped-behind : (bytes : List ℕ) → length bytes ≢ 0 → Some (slice_range bytes 1 (length bytes)) ≡ unescaped bytes
unescaped-behind [] h = absurd (h refl)
unescaped-behind (b ∷ bytes) h = ap Some (part-rest (b ∷ bytes) 1)
