-- The table of keywords: the place that a word tells has the one keyword that it can be.
use Rattle.std.proofs.Common.{◌≡◌, ◌≢◌, ◌∙◌, ◌<◌, ◌≤◌, ◌+◌, ◌-◌, ◌*◌, ◌%◌, drop, ℕ, suc, zero, Bool, true, false, ◌||◌, if◌then◌else◌, nat_lt, ltb, cond, List, [], ◌∷◌, map, length, find, Option, Some, None, refl, sym, ap, subst, arith}
use Rattle.std.proofs.Math.ListN.{get_or, get_or-map}
use Rattle.std.proofs.lemmas.Bool.{false≢true, le-ltb, ltb-true}
use Rattle.std.proofs.lemmas.List.{length-map, get_or-map as get_or-map-within}
use Rattle.std.specs.Borrow.{Bor}
use Rattle.std.specs.Char.{to_ascii_lowercase}
use Rattle.std.specs.Cmp.Lexicographic.{bytes_decides}
use Rattle.std.specs.List.{list_all}
use Rattle.std.specs.Str.{bytes_eq}
use Rattle.idl_source.specs.idl_base.Exact.{both}
use Rattle.idl_lex.specs.kinds.Keywords.{folded, keywords, like_keyword}
use Rattle.idl_lex.specs.kinds.KeywordTable.{if_alike, letter, place, places}
use Rattle.idl_lex.specs.kinds.WordTable.{entry_of}
use Rattle.idl_lex.specs.declared.kinds.kind.TokenKind.{TokenKind}
use Rattle.idl_lex.specs.declared.kinds.kind.TokenKind.TheVariants.{Refused}

pub places-length : length places ≡ 256
unfolding places
places-length = refl

abbrev Keyed : Type 0
Keyed = List ℕ × TokenKind

-- the keyword at a place, and what stands for none
abbrev pub at : ℕ → Keyed
at i = get_or keywords i ([], Refused)

-- where a keyword has its place
home : Keyed → ℕ
home k = place (folded k.0)

stand_at_home : map (λ k. at (home k)) keywords ≡ keywords
unfolding keywords places home
stand_at_home = refl

have_home : list_all (λ k. ltb (home k) 72) keywords ≡ true
unfolding keywords places home
have_home = refl

is_there : Option Keyed → Bool
is_there None = false
is_there (Some k) = true

the : Keyed → Option Keyed → Keyed
the d None = d
the d (Some k) = k

-- a keyword that is found stands where the word tells
record Found (w : List ℕ) (k : Keyed) : Type 0 where
  within : place w < 72
  here : at (place w) ≡ k
  alike : folded k.0 ≡ w

found_first : (w : List ℕ) (x : Keyed) (ks : List Keyed) (k : Keyed) (b : Bool) → at (home x) ≡ x → home x < 72
    → (find (λ k. bytes_eq (folded k.0) w) ks ≡ Some k → Found w k)
    → bytes_eq (folded x.0) w ≡ b → cond b (Some x) (find (λ k. bytes_eq (folded k.0) w) ks) ≡ Some k → Found w k
unfolding the home
found_first w x ks k true same within more e h =
    let is : x ≡ k = ap (the x) h in
    let one : folded x.0 ≡ w = (bytes_decides (folded x.0) w).0 e in
    record {
      within = subst (λ v. place v < 72) one within;
      here = ap (λ v. at (place v)) (sym one) ∙ same ∙ is;
      alike = ap (λ k. folded k.0) (sym is) ∙ one;
    }
found_first w x ks k false same within more e h = more h

found : (w : List ℕ) (ks : List Keyed) (k : Keyed) → map (λ k. at (home k)) ks ≡ ks → list_all (λ k. ltb (home k) 72) ks ≡ true
    → find (λ k. bytes_eq (folded k.0) w) ks ≡ Some k → Found w k
unfolding is_there
found w [] k same within h = absurd (false≢true (ap is_there h))
found w (x ∷ ks) k same within h =
    let parts = both (ltb (home x) 72) (list_all (λ k. ltb (home k) 72) ks) within in
    found_first w x ks k (bytes_eq (folded x.0) w) (ap (λ l. get_or l 0 x) same) (ltb-true (home x) 72 parts.0)
    (found w ks k (ap (drop 1) same) parts.1) refl h

-- none is found where none is alike
misses : (x : Keyed) (o : Option Keyed) (b : Bool) → cond b (Some x) o ≡ None → (b ≡ false) × (o ≡ None)
unfolding is_there
misses x o true h = absurd (false≢true (sym (ap is_there h)))
misses x o false h = (refl, h)

behind : (p : Keyed → Bool) (x : Keyed) (ks : List Keyed) (d : Keyed) (i : ℕ) → p x ≡ false → ((j : ℕ) → j < length ks → p (get_or ks j d) ≡ false)
    → i < length (x ∷ ks) → p (get_or (x ∷ ks) i d) ≡ false
behind p x ks d zero first more lt = first
behind p x ks d (suc j) first more lt = more j (omega (arith, lt))

missed : (p : Keyed → Bool) (ks : List Keyed) (d : Keyed) → find p ks ≡ None → (i : ℕ) → i < length ks → p (get_or ks i d) ≡ false
missed p [] d h i lt = absurd (omega (arith, lt))
missed p (x ∷ ks) d h i lt =
    let parts = misses x (find p ks) (p x) h in
    behind p x ks d i parts.0 (missed p ks d parts.1) lt

found_here : (word : List ℕ) (k : Keyed) → like_keyword word ≡ Some k → Found (folded word) k
found_here word k h = found (folded word) keywords k stand_at_home have_home h

keywords-length : length keywords ≡ 72
unfolding keywords
keywords-length = refl

-- a word with no place is like none
pub like_keyword-nowhere : (word : List ℕ) → 72 ≤ place (folded word) → None ≡ like_keyword word
like_keyword-nowhere word past = by (like_keyword word) refl where
  by : (o : Option Keyed) → like_keyword word ≡ o → None ≡ o
  by None h = refl
  by (Some k) h = absurd (omega (arith, past, (found_here word k h).within))

-- a word is like the keyword at its place, or none
pub like_keyword-at : (word : List ℕ) → place (folded word) < 72 → folded (at (place (folded word))).0 ≡ folded word
    → Some (at (place (folded word))) ≡ like_keyword word
like_keyword-at word lt alike = by (like_keyword word) refl where
  by : (o : Option Keyed) → like_keyword word ≡ o → Some (at (place (folded word))) ≡ o
  by None h =
      absurd (false≢true (sym (missed (λ k. bytes_eq (folded k.0) (folded word)) keywords ([], Refused) h (place (folded word)) (omega (arith, lt, keywords-length)))
      ∙ (bytes_decides _ _).1 alike))
  by (Some k) h = ap Some (found_here word k h).here

pub like_keyword-other : (word : List ℕ) → folded (at (place (folded word))).0 ≢ folded word → None ≡ like_keyword word
like_keyword-other word other = by (like_keyword word) refl where
  by : (o : Option Keyed) → like_keyword word ≡ o → None ≡ o
  by None h = refl
  by (Some k) h = let it = found_here word k h in absurd (other (ap (λ k. folded k.0) it.here ∙ it.alike))

-- a capital letter and a small one are the same letter
letter-lowercase : (c : ℕ) → to_ascii_lowercase c % 32 ≡ c % 32
letter-lowercase c = cases (nat_lt c 65) (nat_lt c 91) where
  cases : (small large : Bool) → cond small c (cond large (c + 32) c) % 32 ≡ c % 32
  cases true large = refl
  cases false true = omega arith
  cases false false = refl

letter-folded : (word : List ℕ) (i : ℕ) → letter (folded word) i ≡ letter word i
letter-folded word i = ap (λ c. c % 32) (get_or-map to_ascii_lowercase word i 0) ∙ letter-lowercase (get_or word i 0)

of_some_length : (n : ℕ) → 2 ≤ n → n ≤ 11 → nat_lt n 2 || nat_lt 11 n ≡ false
of_some_length n long short = ap (λ b. b || nat_lt 11 n) (le-ltb n 2 long) ∙ le-ltb 11 n short

-- where a word of some length stands, by its letters
pub place-folded : (word : List ℕ) (n : ℕ) → length word ≡ n → 2 ≤ n → n ≤ 11
    → place (folded word) ≡ get_or places ((letter word 0 + 144 * letter word 1 + 153 * letter word (n - 2) + n) % 256) 0
place-folded word n len long short =
    ap (λ m. if nat_lt m 2 || nat_lt 11 m then 255 else get_or places ((letter (folded word) 0 + 144 * letter (folded word) 1 + 153 * letter (folded word) (m - 2) + m) % 256) 0) (length-map word to_ascii_lowercase ∙ len)
    ∙ ap (λ b. if b then 255 else get_or places ((letter (folded word) 0 + 144 * letter (folded word) 1 + 153 * letter (folded word) (n - 2) + n) % 256) 0) (of_some_length n long short)
    ∙ (λ i. get_or places ((letter-folded word 0 i + 144 * letter-folded word 1 i + 153 * letter-folded word (n - 2) i + n) % 256) 0)

-- what is read at the place that a word tells
pub entry_of-at : (entries : List (Bor (List ℕ) × TokenKind)) (word : List ℕ) (i : ℕ) (d : Bor (List ℕ) × TokenKind) → map entry_of entries ≡ keywords
    → i ≡ place (folded word) → i < length entries → entry_of (get_or entries i d) ≡ at (place (folded word))
entry_of-at entries word i d all is lt =
    sym (get_or-map-within entry_of entries i d ([], Refused) lt) ∙ ap (λ ks. get_or ks i ([], Refused)) all ∙ ap at is

-- a keyword that is the word but for the case of letters, and one that is not
pub if_alike-same : (word : List ℕ) (k : Keyed) → folded k.0 ≡ folded word → if_alike word (Some k) ≡ Some k
if_alike-same word k alike = ap (λ b. if b then Some k else None) ((bytes_decides (folded k.0) (folded word)).1 alike)

pub if_alike-other : (word : List ℕ) (k : Keyed) → folded k.0 ≢ folded word → if_alike word (Some k) ≡ None
if_alike-other word k other = by (bytes_eq (folded k.0) (folded word)) refl where
  by : (b : Bool) → bytes_eq (folded k.0) (folded word) ≡ b → if_alike word (Some k) ≡ None
  by true e = absurd (other ((bytes_decides (folded k.0) (folded word)).0 e))
  by false e = ap (λ b. if b then Some k else None) e

-- the keyword at a word's place is the one that the word can be
pub like_keyword-if_alike : (word : List ℕ) → place (folded word) < 72 → like_keyword word ≡ if_alike word (Some (at (place (folded word))))
like_keyword-if_alike word lt = by (bytes_eq (folded k.0) (folded word)) refl where
  k : Keyed
  k = at (place (folded word))

  by : (b : Bool) → bytes_eq (folded k.0) (folded word) ≡ b → like_keyword word ≡ if_alike word (Some k)
  by true e =
      let alike = (bytes_decides (folded k.0) (folded word)).0 e in
      sym (like_keyword-at word lt alike) ∙ sym (if_alike-same word k alike)
  by false e =
      let other : folded k.0 ≢ folded word = λ alike. false≢true (sym e ∙ (bytes_decides (folded k.0) (folded word)).1 alike) in
      sym (like_keyword-other word other) ∙ sym (if_alike-other word k other)
