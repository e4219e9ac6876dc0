-- Bytes that come and go in pieces.
use Rattle.std.proofs.Common.{◌≡◌, ◌++◌, ◌+◌, ◌<◌, ◌≤◌, ◌∙◌, ℕ, zero, suc, List, [], ◌∷◌, Option, None, Some, min, take, drop, length, sym, ap, refl, append_assoc, arith}
use Rattle.idl_source.specs.devices.Device.{append}
use Rattle.std.proofs.Math.Seq.{take-add}

-- two pieces that go out, one after the other, are one
pub append-append : {X : Type 0} (o : Option (List X)) (xs ys : List X) → append (append o xs) ys ≡ append o (xs ++ ys)
append-append None xs ys = refl
append-append (Some w) xs ys = ap Some (append_assoc w xs ys)

-- a piece more has gone out
pub append-take_more : (o : Option (List ℕ)) (bytes : List ℕ) (m n : ℕ) → append (append o (take m bytes)) (take n (drop m bytes)) ≡ append o (take (m + n) bytes)
append-take_more o bytes m n = append-append o (take m bytes) (take n (drop m bytes)) ∙ ap (append o) (sym (take-add m n bytes))

-- the first n bytes, read back from the front of a buffer, and those that are left are all
pub take-take_front : (bytes rest : List ℕ) (n : ℕ) → n ≤ length bytes → take n (take n bytes ++ rest) ++ drop n bytes ≡ bytes
take-take_front bytes rest zero fits = refl
take-take_front [] rest (suc n) fits = absurd (omega arith)
take-take_front (b ∷ bytes) rest (suc n) fits = ap (λ xs. b ∷ xs) (take-take_front bytes rest n (omega arith))

-- no byte fits from an empty list alone
pub min-length-zero : (bytes : List ℕ) (room : ℕ) → 0 < room → min (length bytes) room ≡ 0 → bytes ≡ []
min-length-zero [] room some none = refl
min-length-zero (b ∷ bytes) room some none = absurd (omega arith)
