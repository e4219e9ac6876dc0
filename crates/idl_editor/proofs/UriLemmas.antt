-- What stands behind a front, and what is escaped.
use Rattle.std.proofs.Common.{◌≡◌, ◌∙◌, ◌⊎◌, ◌<◌, ◌≤◌, inl, inr, ℕ, zero, suc, Bool, true, false, not, ◌&&◌, List, [], ◌∷◌, ◌++◌, length, take, drop, None, Some, refl, sym, ap, arith}
use Rattle.std.specs.Prelude.{All, codes, flat_map, if◌then◌else◌}
use Rattle.std.specs.Str.{bytes_eq}
use Rattle.std.proofs.lemmas.Bool.{cases_lt, cond-true, eqb-true}
use Rattle.std.proofs.lemmas.Bool.Decides.{nat_tests}
use Rattle.std.proofs.lemmas.List.{take-append-drop}
use Rattle.std.proofs.lemmas.Slice.Eq.{bytes_eq-Decides}
use Rattle.std.proofs.Math.Seq.{take-append_seam, drop-append_seam}
use Rattle.idl_base.proofs.Bools.{not-true}
use Rattle.idl_base.specs.Exact.{both}
use Rattle.idl_source.specs.names.Path.{is_rooted}
use Rattle.percent_encoding.specs.AsciiSet.{contains, should_percent_encode}
use Rattle.percent_encoding.specs.declared.ascii_set.AsciiSet.{AsciiSet}
use Rattle.percent_encoding.specs.Percent.{encode_byte, percent_encode, percent_encode_byte}
use Rattle.percent_encoding.proofs.AsciiSetLemmas.{ascii_from_kept, escaped_from_inside, kept_from_outside}
use Rattle.percent_encoding.proofs.PercentLemmas.{percent_encode_kept, round_trip}
use Rattle.idl_editor.specs.uris.Uri.{behind, escaped_but, path_behind, path_of, stands_in_uris, uri_of}
use Rattle.idl_editor.specs.declared.uris.uri.TheConstants.{ESCAPED_IN_URIS}

-- bytes behind a front
pub behind-front : (front rest : List ℕ) → behind front (front ++ rest) ≡ Some rest
behind-front front rest =
    let same : bytes_eq (take (length front) (front ++ rest)) front ≡ true = (bytes_eq-Decides (take (length front) (front ++ rest)) front).1 (take-append_seam front rest) in
    cond-true _ _ _ same ∙ ap Some (drop-append_seam front rest)

by_test : (front bytes rest : List ℕ) (t : Bool) → bytes_eq (take (length front) bytes) front ≡ t → (if t then Some (drop (length front) bytes) else None) ≡ Some rest → bytes ≡ front ++ rest
by_test front bytes rest true is e =
    let back : drop (length front) bytes ≡ rest = cc in
    sym (take-append-drop (length front) bytes) ∙ ap (λ t. t ++ drop (length front) bytes) ((bytes_eq-Decides (take (length front) bytes) front).0 is) ∙ ap (λ t. front ++ t) back
by_test front bytes rest false is e = absurd (cc)

-- they are all of the bytes that the front leaves
pub behind-some : (front bytes rest : List ℕ) → behind front bytes ≡ Some rest → bytes ≡ front ++ rest
behind-some front bytes rest e = by_test front bytes rest (bytes_eq (take (length front) bytes) front) refl e

-- what begins with `/` does so where it is escaped, since that is kept
pub rooted-kept : (set : AsciiSet) (path : List ℕ) → should_percent_encode set 47 ≡ false → is_rooted path ≡ true → is_rooted (percent_encode set path) ≡ true
rooted-kept set [] kept rooted = absurd (cc)
rooted-kept set (b ∷ path) kept rooted =
    let is : b ≡ 47 = eqb-true b 47 rooted in
    let whole : percent_encode set (b ∷ path) ≡ b ∷ percent_encode set path = percent_encode_kept set b path (ap (should_percent_encode set) is ∙ kept) in
    ap is_rooted whole ∙ rooted

-- ---- a set that the code has, beside the bytes that stand as they are

-- all numbers below one pass a test
abbrev all_below : (ℕ → Bool) → ℕ → Bool
all_below test zero = true
all_below test (suc n) = test n && all_below test n

last-passes : (test : ℕ → Bool) (n b : ℕ) → test n ≡ true → b < suc n → (b < n → test b ≡ true) → (b < n) ⊎ (n ≤ b) → test b ≡ true
last-passes test n b here within before (inl small) = before small
last-passes test n b here within before (inr large) = let last : b ≡ n = omega (arith, within, large) in ap test last ∙ here

passes-below : (test : ℕ → Bool) (n b : ℕ) → all_below test n ≡ true → b < n → test b ≡ true
passes-below test zero b all within = absurd (omega (arith, within))
passes-below test (suc n) b all within =
    let parts = both (test n) (all_below test n) all in
    last-passes test n b parts.0 within (λ small. passes-below test n b parts.1 small) (cases_lt b n)

-- a byte is in the set, or stands as it is
abbrev is_either : AsciiSet → (ℕ → Bool) → ℕ → Bool
is_either set stands b = if stands b then not (contains set b) else contains set b

module _ (set : AsciiSet) (stands : ℕ → Bool) (low : all_below (is_either set stands) 128 ≡ true) (high : (b : ℕ) → 128 ≤ b → stands b ≡ false) where
  -- so a byte is escaped just where it does not stand as it is
  escapes : (b : ℕ) → should_percent_encode set b ≡ not (stands b)
  escapes b = by (cases_lt b 128)
    where
      within : (s : Bool) → stands b ≡ s → b < 128 → is_either set stands b ≡ true → should_percent_encode set b ≡ not s
      within true is small either =
          kept_from_outside set b small (not-true (contains set b) (ap (λ s. if s then not (contains set b) else contains set b) (sym is) ∙ either))
      within false is small either =
          escaped_from_inside set b (ap (λ s. if s then not (contains set b) else contains set b) (sym is) ∙ either)

      past : (t : Bool) → should_percent_encode set b ≡ t → 128 ≤ b → should_percent_encode set b ≡ true
      past true is large = is
      past false is large = let small = ascii_from_kept set b is in absurd (omega (arith, small, large))

      by : (b < 128) ⊎ (128 ≤ b) → should_percent_encode set b ≡ not (stands b)
      by (inl small) = within (stands b) refl small (passes-below (is_either set stands) 128 b low small)
      by (inr large) = past (should_percent_encode set b) refl large ∙ sym (ap not (high b large))

  byte-escaped : (b : ℕ) → encode_byte set b ≡ (if stands b then b ∷ [] else percent_encode_byte b)
  byte-escaped b = ap (λ t. if t then percent_encode_byte b else b ∷ []) (escapes b) ∙ by (stands b)
    where
      by : (s : Bool) → (if not s then percent_encode_byte b else b ∷ []) ≡ (if s then b ∷ [] else percent_encode_byte b)
      by true = refl
      by false = refl

  pub all-escaped : (bytes : List ℕ) → percent_encode set bytes ≡ escaped_but stands bytes
  unfolding percent_encode
  all-escaped bytes = λ i. flat_map (λ b. byte-escaped b i) bytes

-- ---- URIs

uris-keep : should_percent_encode ESCAPED_IN_URIS 47 ≡ false
unfolding should_percent_encode
uris-keep = refl

uris-escape : contains ESCAPED_IN_URIS 37 ≡ true
uris-escape = refl

past-uris : (b : ℕ) → 128 ≤ b → stands_in_uris b ≡ false
past-uris b large = grind (arith, nat_tests)

-- the set of URIs
pub uri_escaped : (path : List ℕ) → percent_encode ESCAPED_IN_URIS path ≡ escaped_but stands_in_uris path
uri_escaped path = all-escaped ESCAPED_IN_URIS stands_in_uris refl past-uris path

pub uri-reads : (path : List ℕ) → All (λ b. b < 256) path → is_rooted path ≡ true → path_of (uri_of path) ≡ Some path
uri-reads path bytes rooted =
    ap (λ escaped. path_of (codes "file://" ++ escaped)) (sym (uri_escaped path))
    ∙ ap path_behind (behind-front (codes "file://") (percent_encode ESCAPED_IN_URIS path))
    ∙ cond-true _ _ _ (rooted-kept ESCAPED_IN_URIS path uris-keep rooted)
    ∙ ap Some (round_trip ESCAPED_IN_URIS path uris-escape bytes)
