-- Tokens are a pragma where they are spelled as it is.
use Rattle.std.proofs.Common.{◌≡◌, ◌∙◌, ◌⊎◌, ◌+◌, ℕ, suc, length, take, drop, inl, inr, arith, Bool, true, false, cond, List, [], ◌∷◌, ◌++◌, Option, None, Some, refl, sym, ap, subst, map}
use Rattle.std.proofs.Math.Seq.{take-append_seam}
use Rattle.std.proofs.lemmas.Bool.{and_parts}
use Rattle.std.specs.List.{after_first, before_first, list_all, prefix_len}
use Rattle.std.specs.Prelude.{◌&&◌, ◌↔◌, codes, flat_map, nat_le, not}
use Rattle.std.specs.Cmp.Lexicographic.{bytes_decides}
use Rattle.std.specs.Option.{option_map}
use Rattle.std.specs.Str.{bytes_eq}
use Rattle.idl_base.specs.Exact.{same_number}
use Rattle.idl_lex.specs.bytes.Byte.{is_digit}
use Rattle.idl_lex.specs.kinds.Kind.{kind_of, name_by}
use Rattle.idl_lex.specs.kinds.Number.{number}
use Rattle.idl_lex.specs.tokens.Tokens.{Token}
use Rattle.idl_lex.specs.declared.kinds.kind.TokenKind.{TokenKind}
use Rattle.idl_lex.specs.declared.kinds.kind.TokenKind.TheVariants.{Punctuation, String}
use Rattle.idl_plain.specs.Pragma.{AreWords, IsPragma, IsText, IsVersion, name_token, name_tokens}
use Rattle.idl_tree.specs.Pragma.{both, further_parts, id_of, is_dot, is_separator, name_before, name_from, named, only, part_by, part_of, pragma_of, prefix_of, text_by, text_of, version_number, version_of, versioned, with_part}
use Rattle.idl_tree.specs.declared.name.ScopedName.{ScopedName}
use Rattle.idl_tree.specs.declared.pragma.Pragma.{Pragma}
use Rattle.idl_tree.specs.declared.pragma.Pragma.TheVariants.{Id, Prefix, Version}

pub some-same : {X : Type 0} (x y : X) → Some x ≡ Some y → x ≡ y
some-same x y h = cc

pub no-some : {X : Type 0} (x : X) → None ≡ Some x → ⊥
no-some x h = cc

-- ---- the tokens of a name

-- what names are spelled with behind their first part
abbrev further : List (List ℕ) → List (Option (List ℕ))
further parts = flat_map (λ part. None ∷ Some part ∷ []) parts

-- these tokens are spelled so, and then one stands
abbrev Before : List Token → List (Option (List ℕ)) → Token → Type 0
Before tokens name last = (front : List Token) × (tokens ≡ front ++ last ∷ []) × (map name_token front ≡ map Some name)

no-part : (t : Token) (part : List ℕ) (k : TokenKind) → kind_of t ≡ k → part_by k t ≡ Some part → is_separator k ≡ false
no-part t part (Punctuation mark) is h = absurd (no-some part (sym (ap (λ q. name_by q t) is) ∙ h))
no-part t part other is h = refl

part-token : (t : Token) (part : List ℕ) → part_of t ≡ Some part → name_token t ≡ Some (Some part)
part-token t part h =
    ap (λ b. cond b (Some None) (option_map Some (part_of t))) (no-part t part (kind_of t) refl h)
    ∙ ap (λ o. option_map Some o) h

separator-token : (t : Token) → is_separator (kind_of t) ≡ true → name_token t ≡ Some None
separator-token t h = ap (λ b. cond b (Some None) (option_map Some (part_of t))) h

is-separator : (b : Bool) (o : Option (List ℕ)) → cond b (Some None) (option_map Some o) ≡ Some None → b ≡ true
is-separator true o h = refl
is-separator false None h = absurd (no-some None h)
is-separator false (Some part) h = absurd (apart part (some-same (Some part) None h))
  where
    apart : (p : List ℕ) → Some p ≡ None → ⊥
    apart p g = cc

is-part : (b : Bool) (o : Option (List ℕ)) (part : List ℕ) → cond b (Some None) (option_map Some o) ≡ Some (Some part) → (b ≡ false) × (o ≡ Some part)
is-part true o part h = absurd (no-some part (some-same None (Some part) h))
is-part false None part h = absurd (no-some (Some part) h)
is-part false (Some p) part h = (refl, some-same (Some p) (Some part) h)

module _ {X : Type 0} where
  head-same : (x y : X) (xs ys : List X) → x ∷ xs ≡ y ∷ ys → x ≡ y
  head-same x y xs ys h = cc

  tail-same : (x y : X) (xs ys : List X) → x ∷ xs ≡ y ∷ ys → xs ≡ ys
  tail-same x y xs ys h = cc

  no-more : (x : X) (xs : List X) → [] ≡ x ∷ xs → ⊥
  no-more x xs h = cc

-- ---- reading gives what is spelled

further-spelled : (tokens : List Token) (read : List (List ℕ) × Token) → further_parts tokens ≡ Some read → Before tokens (further read.0) read.1
further-spelled [] read h = absurd (no-some read h)
further-spelled (last ∷ []) read h = subst (λ r. Before (last ∷ []) (further r.0) r.1) (some-same ([], last) read h) ([], refl, refl)
further-spelled (s ∷ part ∷ rest) read h = by (is_separator (kind_of s)) refl (part_of part) refl (further_parts rest) (λ r. further-spelled rest r) h
  where
    by : (b : Bool) → is_separator (kind_of s) ≡ b → (p : Option (List ℕ)) → part_of part ≡ p → (o : Option (List (List ℕ) × Token))
        → ((r : List (List ℕ) × Token) → o ≡ Some r → Before rest (further r.0) r.1) → cond b (with_part p o) None ≡ Some read → Before (s ∷ part ∷ rest) (further read.0) read.1
    by false is p parted o more g = absurd (no-some read g)
    by true is None parted o more g = absurd (no-some read g)
    by true is (Some p) parted None more g = absurd (no-some read g)
    by true is (Some p) parted (Some r) more g =
        let m = more r refl in
        subst (λ q. Before (s ∷ part ∷ rest) (further q.0) q.1) (some-same (p ∷ r.0, r.1) read g) (
          s ∷ part ∷ m.0,
          ap (λ ts. s ∷ part ∷ ts) m.1,
          ap (λ x. x ∷ name_token part ∷ map name_token m.0) (separator-token s is)
              ∙ ap (λ x. Some None ∷ x ∷ map name_token m.0) (part-token part p parted)
              ∙ ap (λ xs. Some None ∷ Some (Some p) ∷ xs) m.2,
        )

-- from the first part on
from-spelled : (g : Bool) (tokens : List Token) (read : ScopedName × Token) → name_from g tokens ≡ Some read
    → (read.0.is_global ≡ g) × Before tokens (Some read.0.first ∷ further read.0.rest) read.1
from-spelled g [] read h = absurd (no-some read h)
from-spelled g (first ∷ rest) read h = by (part_of first) refl (further_parts rest) (λ r. further-spelled rest r) h
  where
    by : (p : Option (List ℕ)) → part_of first ≡ p → (o : Option (List (List ℕ) × Token)) → ((r : List (List ℕ) × Token) → o ≡ Some r → Before rest (further r.0) r.1)
        → named g p o ≡ Some read → (read.0.is_global ≡ g) × Before (first ∷ rest) (Some read.0.first ∷ further read.0.rest) read.1
    by None parted o more k = absurd (no-some read k)
    by (Some p) parted None more k = absurd (no-some read k)
    by (Some p) parted (Some r) more k =
        let m = more r refl in
        subst (λ (q : ScopedName × Token). (q.0.is_global ≡ g) × Before (first ∷ rest) (Some q.0.first ∷ further q.0.rest) q.1)
        (some-same (record { is_global = g; first = p; rest = r.0 }, r.1) read k) (
          refl,
          (
            first ∷ m.0,
            ap (λ ts. first ∷ ts) m.1,
            ap (λ x. x ∷ map name_token m.0) (part-token first p parted) ∙ ap (λ xs. Some (Some p) ∷ xs) m.2,
          ),
        )

name-spelled : (tokens : List Token) (read : ScopedName × Token) → name_before tokens ≡ Some read → Before tokens (name_tokens read.0) read.1
name-spelled [] read h = absurd (no-some read h)
name-spelled (t ∷ rest) read h = by (is_separator (kind_of t)) refl h
  where
    by : (b : Bool) → is_separator (kind_of t) ≡ b → cond b (name_from true rest) (name_from false (t ∷ rest)) ≡ Some read → Before (t ∷ rest) (name_tokens read.0) read.1
    by true is g =
        let m = from-spelled true rest read g in
        subst (λ b. Before (t ∷ rest) (cond b (None ∷ []) [] ++ Some read.0.first ∷ further read.0.rest) read.1) (sym m.0)
        (t ∷ m.1.0, ap (λ ts. t ∷ ts) m.1.1, ap (λ x. x ∷ map name_token m.1.0) (separator-token t is) ∙ ap (λ xs. Some None ∷ xs) m.1.2)
    by false is g =
        let m = from-spelled false (t ∷ rest) read g in
        subst (λ b. Before (t ∷ rest) (cond b (None ∷ []) [] ++ Some read.0.first ∷ further read.0.rest) read.1) (sym m.0) m.1

one-spelled : (tokens : List Token) (last : Token) → only tokens ≡ Some last → tokens ≡ last ∷ []
one-spelled [] last h = absurd (no-some last h)
one-spelled (t ∷ []) last h = ap (λ x. x ∷ []) (some-same t last h)
one-spelled (t ∷ u ∷ ts) last h = absurd (no-some last h)

-- ---- and what is spelled is read

further-read : (front : List Token) (parts : List (List ℕ)) (last : Token) → map name_token front ≡ map Some (further parts) → further_parts (front ++ last ∷ []) ≡ Some (parts, last)
further-read [] [] last h = refl
further-read [] (part ∷ parts) last h = absurd (no-more (Some None) (Some (Some part) ∷ map Some (further parts)) h)
further-read (s ∷ front) [] last h = absurd (no-more (name_token s) (map name_token front) (sym h))
further-read (s ∷ []) (part ∷ parts) last h =
    absurd (no-more (Some (Some part)) (map Some (further parts)) (tail-same (name_token s) (Some None) [] (Some (Some part) ∷ map Some (further parts)) h))
further-read (s ∷ p ∷ front) (part ∷ parts) last h =
    let h1 = tail-same (name_token s) (Some None) (name_token p ∷ map name_token front) (Some (Some part) ∷ map Some (further parts)) h in
    let is = is-separator (is_separator (kind_of s)) (part_of s) (head-same (name_token s) (Some None) (name_token p ∷ map name_token front) (Some (Some part) ∷ map Some (further parts)) h) in
    let parted = (is-part (is_separator (kind_of p)) (part_of p) part (head-same (name_token p) (Some (Some part)) (map name_token front) (map Some (further parts)) h1)).1 in
    let more = further-read front parts last (tail-same (name_token p) (Some (Some part)) (map name_token front) (map Some (further parts)) h1) in
    ap (λ b. cond b (with_part (part_of p) (further_parts (front ++ last ∷ []))) None) is
    ∙ ap (λ o. with_part o (further_parts (front ++ last ∷ []))) parted
    ∙ ap (λ o. with_part (Some part) o) more

from-read : (g : Bool) (first : Token) (front : List Token) (part : List ℕ) (parts : List (List ℕ)) (last : Token)
    → name_token first ∷ map name_token front ≡ Some (Some part) ∷ map Some (further parts)
    → (is_separator (kind_of first) ≡ false) × (name_from g (first ∷ front ++ last ∷ []) ≡ Some (record { is_global = g; first = part; rest = parts }, last))
from-read g first front part parts last h =
    let at = is-part (is_separator (kind_of first)) (part_of first) part (head-same (name_token first) (Some (Some part)) (map name_token front) (map Some (further parts)) h) in
    let more = further-read front parts last (tail-same (name_token first) (Some (Some part)) (map name_token front) (map Some (further parts)) h) in
    (at.0, ap (λ o. named g o (further_parts (front ++ last ∷ []))) at.1 ∙ ap (λ o. named g (Some part) o) more)

name-read-by : (g : Bool) (part : List ℕ) (parts : List (List ℕ)) (front : List Token) (last : Token)
    → map name_token front ≡ map Some (cond g (None ∷ []) [] ++ Some part ∷ further parts)
    → name_before (front ++ last ∷ []) ≡ Some (record { is_global = g; first = part; rest = parts }, last)
name-read-by true part parts [] last h = absurd (no-more (Some None) (Some (Some part) ∷ map Some (further parts)) h)
name-read-by true part parts (s ∷ []) last h =
    absurd (no-more (Some (Some part)) (map Some (further parts)) (tail-same (name_token s) (Some None) [] (Some (Some part) ∷ map Some (further parts)) h))
name-read-by true part parts (s ∷ first ∷ front) last h =
    let is = is-separator (is_separator (kind_of s)) (part_of s) (head-same (name_token s) (Some None) (name_token first ∷ map name_token front) (Some (Some part) ∷ map Some (further parts)) h) in
    let more = from-read true first front part parts last (tail-same (name_token s) (Some None) (name_token first ∷ map name_token front) (Some (Some part) ∷ map Some (further parts)) h) in
    ap (λ b. cond b (name_from true (first ∷ front ++ last ∷ [])) (name_from false (s ∷ first ∷ front ++ last ∷ []))) is ∙ more.1
name-read-by false part parts [] last h = absurd (no-more (Some (Some part)) (map Some (further parts)) h)
name-read-by false part parts (first ∷ front) last h =
    let more = from-read false first front part parts last h in
    ap (λ b. cond b (name_from true (front ++ last ∷ [])) (name_from false (first ∷ front ++ last ∷ []))) more.0 ∙ more.1

name-read : (name : ScopedName) (front : List Token) (last : Token) → map name_token front ≡ map Some (name_tokens name) → name_before (front ++ last ∷ []) ≡ Some (name, last)
name-read name front last h = name-read-by name.is_global name.first name.rest front last h

nothing-more : (front : List Token) → map name_token front ≡ [] → front ≡ []
nothing-more [] h = refl
nothing-more (t ∷ front) h = absurd (no-more (name_token t) (map name_token front) (sym h))

-- ---- texts and versions

text-by : (t : Token) (text : List ℕ) (k : TokenKind) → kind_of t ≡ k → text_by k t ≡ Some text → IsText t text
text-by t text String is h = (is, h)
text-by t text other is h = absurd (no-some text h)

text-read : (t : Token) (text : List ℕ) → IsText t text → text_of t ≡ Some text
text-read t text is = ap (λ k. text_by k t) is.0 ∙ is.1

-- how many bytes stand before the first dot
abbrev dot : List ℕ → ℕ
dot bytes = prefix_len (λ b. not (is_dot b)) bytes

-- none stands behind it, or it is there
abbrev Cut : List ℕ → ℕ → Type 0
Cut bytes n = (drop (n + 1) bytes ≡ []) ⊎ (bytes ≡ take n bytes ++ 46 ∷ drop (n + 1) bytes)

cut-at_dot : (bytes : List ℕ) → Cut bytes (dot bytes)
cut-at_dot [] = inl refl
cut-at_dot (b ∷ bytes) = by (is_dot b) refl (cut-at_dot bytes)
  where
    behind : (n : ℕ) → suc n + 1 ≡ suc (n + 1)
    behind n = omega arith

    further-on : (n : ℕ) → Cut bytes n → Cut (b ∷ bytes) (suc n)
    further-on n (inl h) = inl (ap (λ m. drop m (b ∷ bytes)) (behind n) ∙ h)
    further-on n (inr h) = inr (ap (λ bs. b ∷ bs) h ∙ ap (λ m. b ∷ take n bytes ++ 46 ∷ drop m (b ∷ bytes)) (sym (behind n)))

    one-more : (n : ℕ) → suc n ≡ 1 + n
    one-more n = omega arith

    by : (d : Bool) → is_dot b ≡ d → Cut bytes (dot bytes) → Cut (b ∷ bytes) (cond (not d) (1 + dot bytes) 0)
    by true is c = inr (ap (λ x. x ∷ bytes) (same_number b 46 is))
    by false is c = subst (Cut (b ∷ bytes)) (one-more (dot bytes)) (further-on (dot bytes) c)

no-dot : (b : ℕ) → is_digit b ≡ true → is_dot b ≡ false
no-dot b h = by (is_dot b) refl
  where
    untrue : false ≡ true → ⊥
    untrue e = cc

    by : (d : Bool) → is_dot b ≡ d → d ≡ false
    by false is = refl
    by true is = absurd (untrue (sym (ap is_digit (same_number b 46 is)) ∙ h))

dot-behind : (front back : List ℕ) → list_all is_digit front ≡ true → dot (front ++ 46 ∷ back) ≡ length front
dot-behind [] back h = refl
dot-behind (b ∷ front) back h =
    let parts = and_parts (is_digit b) (list_all is_digit front) h in
    ap (λ d. cond (not d) (1 + dot (front ++ 46 ∷ back)) 0) (no-dot b parts.0) ∙ ap (λ n. 1 + n) (dot-behind front back parts.1) ∙ one-more (length front)
  where
    one-more : (n : ℕ) → 1 + n ≡ suc n
    one-more n = omega arith

drop-seam : (front back : List ℕ) → drop (length front + 1) (front ++ 46 ∷ back) ≡ back
drop-seam [] back = refl
drop-seam (b ∷ front) back = ap (λ n. drop n (b ∷ front ++ 46 ∷ back)) (behind (length front)) ∙ drop-seam front back
  where
    behind : (n : ℕ) → suc n + 1 ≡ suc (n + 1)
    behind n = omega arith

digits-number : (bytes : List ℕ) (n : ℕ) → version_number bytes ≡ Some n → list_all is_digit bytes ≡ true
digits-number [] n h = absurd (no-some n h)
digits-number (b ∷ bytes) n h = by (list_all is_digit (b ∷ bytes) && nat_le (number 10 (b ∷ bytes)) 65535) refl h
  where
    by : (c : Bool) → (list_all is_digit (b ∷ bytes) && nat_le (number 10 (b ∷ bytes)) 65535) ≡ c → cond c (Some (number 10 (b ∷ bytes))) None ≡ Some n → list_all is_digit (b ∷ bytes) ≡ true
    by true is g = (and_parts (list_all is_digit (b ∷ bytes)) (nat_le (number 10 (b ∷ bytes)) 65535) is).0
    by false is g = absurd (no-some n g)

version-spelled : (t : Token) (v : ℕ × ℕ) → version_of t ≡ Some v → IsVersion t v.0 v.1
version-spelled t v h = by (version_number (before_first is_dot t)) refl (version_number (after_first is_dot t)) refl (cut-at_dot t) h
  where
    by : (a : Option ℕ) → version_number (before_first is_dot t) ≡ a → (b : Option ℕ) → version_number (after_first is_dot t) ≡ b → Cut t (dot t) → both a b ≡ Some v → IsVersion t v.0 v.1
    by None front b back c g = absurd (no-some v g)
    by (Some m) front None back c g = absurd (no-some v g)
    by (Some m) front (Some n) back (inl none) g = absurd (no-some n (sym (ap version_number none) ∙ back))
    by (Some m) front (Some n) back (inr cut) g =
        subst (λ (w : ℕ × ℕ). IsVersion t w.0 w.1) (some-same (m, n) v g) (before_first is_dot t, after_first is_dot t, cut, front, back)

version-read : (t : Token) (major minor : ℕ) → IsVersion t major minor → version_of t ≡ Some (major, minor)
version-read t major minor is =
    let at = dot-behind is.0 is.1 (digits-number is.0 major is.3) in
    ap version_of is.2
    ∙ ap (λ bytes. both (version_number bytes) (version_number (after_first is_dot (is.0 ++ 46 ∷ is.1)))) (ap (λ n. take n (is.0 ++ 46 ∷ is.1)) at ∙ take-append_seam is.0 (46 ∷ is.1))
    ∙ ap (λ bytes. both (version_number is.0) (version_number bytes)) (ap (λ n. drop (n + 1) (is.0 ++ 46 ∷ is.1)) at ∙ drop-seam is.0 is.1)
    ∙ ap (λ o. both o (version_number is.1)) is.3
    ∙ ap (λ o. both (Some major) o) is.4

-- ---- both ways

module _ (f word : Token) (operands : List Token) (p : Pragma) where
  words : (name : List (Option (List ℕ))) (spelling : List ℕ) (last : Token) → bytes_eq word spelling ≡ true → Before operands name last → AreWords spelling name (f ∷ word ∷ operands) last
  words name spelling last h b = (f, b.0, ap (λ w. f ∷ w ∷ operands) ((bytes_decides word spelling).0 h) ∙ ap (λ ts. f ∷ spelling ∷ ts) b.1, b.2)

  prefix-there : bytes_eq word (codes "prefix") ≡ true → (o : Option Token) → only operands ≡ o → prefix_of o ≡ Some p → IsPragma (f ∷ word ∷ operands) p
  prefix-there is None one h = absurd (no-some p h)
  prefix-there is (Some last) one h = by (text_of last) refl h
    where
      by : (o : Option (List ℕ)) → text_of last ≡ o → option_map Prefix o ≡ Some p → IsPragma (f ∷ word ∷ operands) p
      by None text k = absurd (no-some p k)
      by (Some t) text k = subst (IsPragma (f ∷ word ∷ operands)) (some-same (Prefix t) p k) (last, words [] (codes "prefix") last is ([], one-spelled operands last one, refl), text-by last t (kind_of last) refl text)

  id-there : bytes_eq word (codes "ID") ≡ true → (o : Option (ScopedName × Token)) → name_before operands ≡ o → id_of o ≡ Some p → IsPragma (f ∷ word ∷ operands) p
  id-there is None there h = absurd (no-some p h)
  id-there is (Some read) there h = by (text_of read.1) refl h
    where
      by : (o : Option (List ℕ)) → text_of read.1 ≡ o → option_map (Id read.0) o ≡ Some p → IsPragma (f ∷ word ∷ operands) p
      by None text k = absurd (no-some p k)
      by (Some t) text k = subst (IsPragma (f ∷ word ∷ operands)) (some-same (Id read.0 t) p k) (read.1, words (name_tokens read.0) (codes "ID") read.1 is (name-spelled operands read there), text-by read.1 t (kind_of read.1) refl text)

  version-there : bytes_eq word (codes "version") ≡ true → (o : Option (ScopedName × Token)) → name_before operands ≡ o → versioned o ≡ Some p → IsPragma (f ∷ word ∷ operands) p
  version-there is None there h = absurd (no-some p h)
  version-there is (Some read) there h = by (version_of read.1) refl h
    where
      by : (o : Option (ℕ × ℕ)) → version_of read.1 ≡ o → option_map (λ v. Version read.0 v.0 v.1) o ≡ Some p → IsPragma (f ∷ word ∷ operands) p
      by None version k = absurd (no-some p k)
      by (Some v) version k = subst (IsPragma (f ∷ word ∷ operands)) (some-same (Version read.0 v.0 v.1) p k) (read.1, words (name_tokens read.0) (codes "version") read.1 is (name-spelled operands read there), version-spelled read.1 v version)

  there-by : (a b c : Bool) → bytes_eq word (codes "prefix") ≡ a → bytes_eq word (codes "ID") ≡ b → bytes_eq word (codes "version") ≡ c
      → cond a (prefix_of (only operands)) (cond b (id_of (name_before operands)) (cond c (versioned (name_before operands)) None)) ≡ Some p → IsPragma (f ∷ word ∷ operands) p
  there-by true b c ha hb hc h = prefix-there ha (only operands) refl h
  there-by false true c ha hb hc h = id-there hb (name_before operands) refl h
  there-by false false true ha hb hc h = version-there hc (name_before operands) refl h
  there-by false false false ha hb hc h = absurd (no-some p h)

there : (tokens : List Token) (p : Pragma) → pragma_of tokens ≡ Some p → IsPragma tokens p
there [] p h = absurd (no-some p h)
there (f ∷ []) p h = absurd (no-some p h)
there (f ∷ word ∷ operands) p h = there-by f word operands p (bytes_eq word (codes "prefix")) (bytes_eq word (codes "ID")) (bytes_eq word (codes "version")) refl refl refl h

back : (tokens : List Token) (p : Pragma) → IsPragma tokens p → pragma_of tokens ≡ Some p
back tokens (Prefix text) is =
    ap pragma_of is.1.2 ∙ ap (λ front. prefix_of (only (front ++ is.0 ∷ []))) (nothing-more is.1.1 is.1.3) ∙ ap (λ o. option_map Prefix o) (text-read is.0 text is.2)
back tokens (Id name text) is =
    ap pragma_of is.1.2 ∙ ap id_of (name-read name is.1.1 is.0 is.1.3) ∙ ap (λ o. option_map (Id name) o) (text-read is.0 text is.2)
back tokens (Version name major minor) is =
    ap pragma_of is.1.2 ∙ ap versioned (name-read name is.1.1 is.0 is.1.3) ∙ ap (λ o. option_map (λ (v : ℕ × ℕ). Version name v.0 v.1) o) (version-read is.0 major minor is.2)

pub spelled : (tokens : List Token) (p : Pragma) → (pragma_of tokens ≡ Some p) ↔ IsPragma tokens p
spelled tokens p = (there tokens p, back tokens p)
