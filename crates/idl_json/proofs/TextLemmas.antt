-- Texts: how they are written byte by byte, and that each reads as the bytes that it was made of.
use Rattle.std.proofs.Common.{◌≡◌, ◌∙◌, ◌+◌, ◌-◌, ◌*◌, ◌/◌, ◌%◌, ◌<◌, ◌≤◌, ◌++◌, ◌∷◌, [], ℕ, zero, suc, Bool, true, false, List, ap, append_assoc, arith, cond, get_or, length, nat_lt, refl, sym, take}
use Rattle.std.proofs.lemmas.Bool.{ltb-true}
use Rattle.std.proofs.lemmas.List.{append-nil, take_more}
use Rattle.std.specs.Char.{encode_utf8}
use Rattle.std.specs.Str.{chars, chars_after, continuation_len, encode_utf8_all, lead_bits}

encode-append : (xs ys : List ℕ) → encode_utf8_all (xs ++ ys) ≡ encode_utf8_all xs ++ encode_utf8_all ys
encode-append [] ys = refl
encode-append (x ∷ xs) ys =
    ap (λ (l : List ℕ). encode_utf8 x ++ l) (encode-append xs ys) ∙ sym (append_assoc (encode_utf8 x) (encode_utf8_all xs) (encode_utf8_all ys))

-- one byte more
pub encode-next : (xs : List ℕ) (i : ℕ) → i < length xs → encode_utf8_all (take (i + 1) xs) ≡ encode_utf8_all (take i xs) ++ encode_utf8 (get_or xs i 0)
encode-next xs i within =
    ap encode_utf8_all (take_more xs i 0 within) ∙ encode-append (take i xs) (get_or xs i 0 ∷ [])
    ∙ ap (λ (l : List ℕ). encode_utf8_all (take i xs) ++ l) (append-nil (encode_utf8 (get_or xs i 0)))

-- ---- reading

whole : (c : ℕ) (bs : List ℕ) → chars_after zero c bs ≡ c ∷ chars bs
unfolding chars
whole c [] = refl
whole c (b ∷ bs) = refl

led : (a n v : ℕ) (bs : List ℕ) → n ≡ continuation_len a → v ≡ lead_bits a → chars (a ∷ bs) ≡ chars_after n v bs
unfolding chars
led a n v bs p q = λ i. chars_after (sym p i) (sym q i) bs

one-byte : (c : ℕ) (rest : List ℕ) → c < 128 → chars (c ∷ rest) ≡ c ∷ chars rest
one-byte c rest h = led c zero c rest (grind arith) (grind arith) ∙ whole c rest

two-bytes : (a b c : ℕ) (rest : List ℕ) → 192 ≤ a → a < 224 → (a - 192) * 64 + (b - 128) ≡ c → chars (a ∷ b ∷ rest) ≡ c ∷ chars rest
two-bytes a b c rest l h is =
    led a (suc zero) (a - 192) (b ∷ rest) (grind arith) (grind arith) ∙ whole _ rest ∙ ap (λ x. x ∷ chars rest) is

three-bytes : (a b d c : ℕ) (rest : List ℕ) → 224 ≤ a → a < 240 → ((a - 224) * 64 + (b - 128)) * 64 + (d - 128) ≡ c → chars (a ∷ b ∷ d ∷ rest) ≡ c ∷ chars rest
three-bytes a b d c rest l h is =
    led a (suc (suc zero)) (a - 224) (b ∷ d ∷ rest) (grind arith) (grind arith) ∙ whole _ rest ∙ ap (λ x. x ∷ chars rest) is

four-bytes : (a b d e c : ℕ) (rest : List ℕ) → 240 ≤ a → (((a - 240) * 64 + (b - 128)) * 64 + (d - 128)) * 64 + (e - 128) ≡ c → chars (a ∷ b ∷ d ∷ e ∷ rest) ≡ c ∷ chars rest
four-bytes a b d e c rest l is =
    led a (suc (suc (suc zero))) (a - 240) (b ∷ d ∷ e ∷ rest) (grind arith) (grind arith) ∙ whole _ rest ∙ ap (λ x. x ∷ chars rest) is

read-character : (c : ℕ) (rest : List ℕ) → chars (encode_utf8 c ++ rest) ≡ c ∷ chars rest
unfolding encode_utf8
read-character c rest = by (nat_lt c 128) (nat_lt c 2048) (nat_lt c 65536) refl refl refl
  where
    by : (x y z : Bool) → nat_lt c 128 ≡ x → nat_lt c 2048 ≡ y → nat_lt c 65536 ≡ z
        → chars (cond x (c ∷ []) (cond y ((192 + c / 64) ∷ (128 + c % 64) ∷ []) (cond z ((224 + c / 4096) ∷ (128 + c / 64 % 64) ∷ (128 + c % 64) ∷ []) ((240 + c / 262144) ∷ (128 + c / 4096 % 64) ∷ (128 + c / 64 % 64) ∷ (128 + c % 64) ∷ []))) ++ rest) ≡ c ∷ chars rest
    by true y z p q r = one-byte c rest (ltb-true c 128 p)
    by false true z p q r = let h = ltb-true c 2048 q in two-bytes (192 + c / 64) (128 + c % 64) c rest (omega arith) (omega arith) (omega arith)
    by false false true p q r = let h = ltb-true c 65536 r in three-bytes (224 + c / 4096) (128 + c / 64 % 64) (128 + c % 64) c rest (omega arith) (omega arith) (omega arith)
    by false false false p q r = four-bytes (240 + c / 262144) (128 + c / 4096 % 64) (128 + c / 64 % 64) (128 + c % 64) c rest (omega arith) (omega arith)

pub read-characters : (cs : List ℕ) → chars (encode_utf8_all cs) ≡ cs
unfolding chars
read-characters [] = refl
read-characters (c ∷ cs) = read-character c (encode_utf8_all cs) ∙ ap (λ (l : List ℕ). c ∷ l) (read-characters cs)
