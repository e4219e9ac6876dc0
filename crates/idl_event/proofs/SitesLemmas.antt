-- The sites of tokens that are kept by lines and stretches: the one with a number, and one more.
use Rattle.std.proofs.Common.{◌≡◌, ◌∙◌, ◌⊎◌, inl, inr, ℕ, zero, suc, ◌+◌, ◌-◌, ◌<◌, ◌≤◌, ◌^◌, Bool, true, false, Bor, List, [], ◌∷◌, ◌++◌, Option, None, Some, leb, get_or, slice_get, length, length-append, refl, sym, ap, subst, arith, append-nil, append_assoc, if◌then◌else◌}
use Rattle.std.proofs.lemmas.Bool.{leb-false, leb-true}
use Rattle.std.proofs.lemmas.Option.{slice_get_past, slice_get_read, slice_get_within}
use Rattle.std.specs.List.{AllByRecursion, AllWithin}
use Rattle.std.specs.List.Sorted.{IsNonDecreasingBy}
use Rattle.std.specs.Option.{option_copied, option_map, unwrap_or}
use Rattle.std.specs.Slice.{IsItemAt}
use Rattle.idl_event.specs.Apart.{site_at, sites_at, text_sites}
use Rattle.idl_event.specs.Sites.{AreBefore, AreKept, HaveSites, Rise, found, in_stretch, site_in, sites_of, spot_at}
use Rattle.idl_fault.specs.declared.file_name.FileName.{FileName}
use Rattle.idl_fault.specs.declared.place.Place.{Place}
use Rattle.idl_event.specs.declared.told.site.Site.{Site}
use Rattle.idl_event.specs.declared.told.sites.LineEntry.{LineEntry}
use Rattle.idl_event.specs.declared.told.sites.Stretch.{Stretch}
use Rattle.idl_lex.specs.declared.tokens.token.PlacedToken.{PlacedToken}

-- what `get` lends
pub copied-get : {X : Type 0} (xs : List X) (i : ℕ) (r : Option (Bor X)) → IsItemAt xs i r → option_copied r ≡ slice_get xs i
copied-get xs i None at = sym (slice_get_past xs i at.3)
copied-get xs i (Some x) at = sym (slice_get_read xs (length xs) i x.now refl at.3.0 at.1)

there : {X : Type 0} (xs : List X) (i : ℕ) → i < length xs → (x : X) × (slice_get xs i ≡ Some x)
there [] i lt = absurd (omega (arith, lt))
there (x ∷ xs) zero lt = (x, refl)
there (x ∷ xs) (suc i) lt = there xs i (omega (arith, lt))

before : {X : Type 0} (xs more : List X) (i : ℕ) → i < length xs → slice_get (xs ++ more) i ≡ slice_get xs i
before [] more i lt = absurd (omega (arith, lt))
before (x ∷ xs) more zero lt = refl
before (x ∷ xs) more (suc i) lt = before xs more i (omega (arith, lt))

slice_get-last : {X : Type 0} (xs : List X) (x : X) → slice_get (xs ++ x ∷ []) (length xs) ≡ Some x
slice_get-last [] x = refl
slice_get-last (y ∷ xs) x = slice_get-last xs x

longer : {X : Type 0} (xs : List X) (x : X) → length (xs ++ x ∷ []) ≡ suc (length xs)
longer [] x = refl
longer (y ∷ xs) x = ap suc (longer xs x)

leb-is : (a b : ℕ) → a ≤ b → leb a b ≡ true
leb-is a b le = by (leb a b) refl
  where
    by : (t : Bool) → leb a b ≡ t → t ≡ true
    by true is = refl
    by false is = absurd (omega (arith, le, leb-false a b is))

leb-not : (a b : ℕ) → b < a → leb a b ≡ false
leb-not a b lt = by (leb a b) refl
  where
    by : (t : Bool) → leb a b ≡ t → t ≡ false
    by true is = absurd (omega (arith, lt, leb-true a b is))
    by false is = refl

-- a spot that begins at a token or before it, and one that begins behind
at-first : (s : LineEntry) (spots : List LineEntry) (i : ℕ) → s.first ≤ i → spot_at (s ∷ spots) i ≡ Some (unwrap_or (spot_at spots i) s)
at-first s spots i le = ap (λ b. if b then Some (unwrap_or (spot_at spots i) s) else None) (leb-is s.first i le)

at-behind : (s : LineEntry) (spots : List LineEntry) (i : ℕ) → i < s.first → spot_at (s ∷ spots) i ≡ None
at-behind s spots i lt = ap (λ b. if b then Some (unwrap_or (spot_at spots i) s) else None) (leb-not s.first i lt)

-- one more, which begins behind a token
spot_at-before : (spots : List LineEntry) (s : LineEntry) (i : ℕ) → i < s.first → spot_at (spots ++ s ∷ []) i ≡ spot_at spots i
spot_at-before [] s i lt = at-behind s [] i lt
spot_at-before (x ∷ spots) s i lt = ap (λ o. if leb x.first i then Some (unwrap_or o x) else None) (spot_at-before spots s i lt)

-- and at it
spot_at-new : (spots : List LineEntry) (s : LineEntry) (i : ℕ) → AreBefore i spots → s.first ≤ i → spot_at (spots ++ s ∷ []) i ≡ Some s
spot_at-new [] s i all le = at-first s [] i le
spot_at-new (x ∷ spots) s i all le =
    at-first x (spots ++ s ∷ []) i (omega (arith, all.0)) ∙ ap (λ o. Some (unwrap_or o x)) (spot_at-new spots s i all.1 le)

-- the last one, where all begin before a token
spot_at-last : (spots : List LineEntry) (i : ℕ) → AreBefore i spots → spot_at spots i ≡ slice_get spots (length spots - 1)
spot_at-last [] i all = refl
spot_at-last (x ∷ []) i all = at-first x [] i (omega (arith, all.0))
spot_at-last (x ∷ y ∷ spots) i all =
    let end : suc (length (y ∷ spots) - 1) ≡ length (x ∷ y ∷ spots) - 1 = omega arith in
    let last = there (y ∷ spots) (length (y ∷ spots) - 1) (omega arith) in
    at-first x (y ∷ spots) i (omega (arith, all.0))
    ∙ ap (λ o. Some (unwrap_or o x)) (spot_at-last (y ∷ spots) i all.1 ∙ last.1)
    ∙ sym last.1
    ∙ ap (slice_get (x ∷ y ∷ spots)) end

-- the one at the point of a list before which each begins at a token or before it
abbrev point : ℕ → List LineEntry → Option LineEntry
point zero spots = None
point (suc k) spots = slice_get spots k

spot_at-point : (spots : List LineEntry) (i count : ℕ) → AllWithin (λ (s : LineEntry). leb s.first i ≡ true) spots 0 count
    → AllWithin (λ (s : LineEntry). leb s.first i ≡ false) spots count (length spots) → count ≤ length spots → spot_at spots i ≡ point count spots
spot_at-point [] i zero are not le = refl
spot_at-point [] i (suc k) are not le = absurd (omega (arith, le))
spot_at-point (s ∷ spots) i zero are not le = at-behind s spots i (leb-false s.first i (not 0 s (omega arith) (omega arith)))
spot_at-point (s ∷ spots) i (suc zero) are not le =
    at-first s spots i (leb-true s.first i (are 0 s (omega arith) (omega arith)))
    ∙ ap (λ o. Some (unwrap_or o s)) (spot_at-point spots i 0 (λ k d low high. absurd (omega (arith, high))) (λ k d low high. not (suc k) d (omega arith) (omega (arith, high))) (omega arith))
spot_at-point (s ∷ spots) i (suc (suc k)) are not le =
    let last = there spots k (omega (arith, le)) in
    at-first s spots i (leb-true s.first i (are 0 s (omega arith) (omega arith)))
    ∙ ap (λ o. Some (unwrap_or o s)) (spot_at-point spots i (suc k) (λ j d low high. are (suc j) d (omega arith) (omega (arith, high))) (λ j d low high. not (suc j) d (omega (arith, low)) (omega (arith, high))) (omega (arith, le)) ∙ last.1)
    ∙ sym last.1

pub spot_at-is : (spots : List LineEntry) (i count : ℕ) → AllWithin (λ (s : LineEntry). leb s.first i ≡ true) spots 0 count
    → AllWithin (λ (s : LineEntry). leb s.first i ≡ false) spots count (length spots) → count ≤ length spots
    → (count ≡ 0 → spot_at spots i ≡ None) × (0 < count → spot_at spots i ≡ slice_get spots (count - 1))
spot_at-is spots i zero are not le = (λ h. spot_at-point spots i 0 are not le, λ lt. absurd (omega (arith, lt)))
spot_at-is spots i (suc k) are not le =
    let one : k ≡ suc k - 1 = omega arith in
    (λ h. absurd (omega (arith, h)), λ lt. spot_at-point spots i (suc k) are not le ∙ ap (slice_get spots) one)

all-at : (n : ℕ) (spots : List LineEntry) (j : ℕ) (d : LineEntry) → AllByRecursion (λ (s : LineEntry). n ≤ s.first) spots → j < length spots → n ≤ (get_or spots j d).first
all-at n [] j d all lt = absurd (omega (arith, lt))
all-at n (s ∷ spots) zero d all lt = all.0
all-at n (s ∷ spots) (suc j) d all lt = all-at n spots j d all.1 (omega (arith, lt))

-- as `partition_point` asks it
pub rise-by : (spots : List LineEntry) → Rise spots → IsNonDecreasingBy (λ (s : LineEntry). s.first) spots
rise-by [] rise i j d le lt = absurd (omega (arith, lt))
rise-by (s ∷ spots) rise zero zero d le lt = omega arith
rise-by (s ∷ spots) rise zero (suc j) d le lt = all-at s.first spots j d rise.0 (omega (arith, lt))
rise-by (s ∷ spots) rise (suc i) zero d le lt = absurd (omega (arith, le))
rise-by (s ∷ spots) rise (suc i) (suc j) d le lt = rise-by spots rise.1 i j d (omega (arith, le)) (omega (arith, lt))

-- a spot more, which begins at the next token
before-push : (n : ℕ) (spots : List LineEntry) (s : LineEntry) → AreBefore n spots → s.first ≡ n → AreBefore (n + 1) (spots ++ s ∷ [])
before-push n [] s all is = (omega (arith, is), tt)
before-push n (x ∷ spots) s all is = (omega (arith, all.0), before-push n spots s all.1 is)

before-next : (n : ℕ) (spots : List LineEntry) → AreBefore n spots → AreBefore (n + 1) spots
before-next n [] all = tt
before-next n (x ∷ spots) all = (omega (arith, all.0), before-next n spots all.1)

least-push : (m : ℕ) (spots : List LineEntry) (s : LineEntry) → AllByRecursion (λ (t : LineEntry). m ≤ t.first) spots → m ≤ s.first → AllByRecursion (λ (t : LineEntry). m ≤ t.first) (spots ++ s ∷ [])
least-push m [] s all le = (le, tt)
least-push m (x ∷ spots) s all le = (all.0, least-push m spots s all.1 le)

rise-push : (n : ℕ) (spots : List LineEntry) (s : LineEntry) → AreBefore n spots → Rise spots → s.first ≡ n → Rise (spots ++ s ∷ [])
rise-push n [] s all rise is = (tt, tt)
rise-push n (x ∷ spots) s all rise is = (least-push x.first spots s rise.0 (omega (arith, all.0, is)), rise-push n spots s all.1 rise.1 is)

-- tokens of which each has the same line and stretch in both have the same sites
sites-same : (st st' : List Stretch) (spots spots' : List LineEntry) (n : ℕ) → ((i : ℕ) → i < n → found st' spots' i ≡ found st spots i) → sites_of st' spots' n ≡ sites_of st spots n
sites-same st st' spots spots' zero same = refl
sites-same st st' spots spots' (suc n) same =
    ap (λ l. l ++ site_in n (found st' spots' n)) (sites-same st st' spots spots' n (λ i lt. same i (omega (arith, lt))))
    ∙ ap (λ o. sites_of st spots n ++ site_in n o) (same n (omega arith))

-- a site each
length-upto : (st : List Stretch) (spots : List LineEntry) (n : ℕ) → ((i : ℕ) → i < n → (x : ℕ × Stretch) × (found st spots i ≡ Some x)) → length (sites_of st spots n) ≡ n
length-upto st spots zero stands = refl
length-upto st spots (suc n) stands =
    let x = stands n (omega arith) in
    ap (λ o. length (sites_of st spots n ++ site_in n o)) x.1
    ∙ longer (sites_of st spots n) (site_at (n + x.0.1.others) (record { file = x.0.1.file; line = x.0.0 }))
    ∙ ap suc (length-upto st spots n (λ i lt. stands i (omega (arith, lt))))

pub length-sites : (st : List Stretch) (spots : List LineEntry) (n : ℕ) → AreKept st spots n → length (sites_of st spots n) ≡ n
length-sites st spots n kept = length-upto st spots n kept.stands

upto-at : (st : List Stretch) (spots : List LineEntry) (n : ℕ) → ((i : ℕ) → i < n → (x : ℕ × Stretch) × (found st spots i ≡ Some x))
    → (i : ℕ) → i < n → (x : ℕ × Stretch) → found st spots i ≡ Some x → slice_get (sites_of st spots n) i ≡ Some (site_at (i + x.1.others) (record { file = x.1.file; line = x.0 }))
upto-at st spots zero stands i lt x is = absurd (omega (arith, lt))
upto-at st spots (suc n) stands i lt x is = by (earlier i n (omega (arith, lt))) (λ l. upto-at st spots n some i l x is)
  where
    earlier : (i n : ℕ) → i ≤ n → (i < n) ⊎ (i ≡ n)
    earlier zero zero le = inr refl
    earlier zero (suc n) le = inl (omega arith)
    earlier (suc i) zero le = absurd (omega (arith, le))
    earlier (suc i) (suc n) le = elim (earlier i n (omega (arith, le))) [ inl l ↦ inl (omega (arith, l)) | inr e ↦ inr (ap suc e) ]

    some : (i : ℕ) → i < n → (x : ℕ × Stretch) × (found st spots i ≡ Some x)
    some i lt = stands i (omega (arith, lt))

    long : length (sites_of st spots n) ≡ n
    long = length-upto st spots n some

    front : List Site
    front = sites_of st spots n

    here : (y : ℕ × Stretch) → Site
    here y = site_at (n + y.1.others) (record { file = y.1.file; line = y.0 })

    by : (i < n) ⊎ (i ≡ n) → (i < n → slice_get front i ≡ Some (site_at (i + x.1.others) (record { file = x.1.file; line = x.0 })))
        → slice_get (sites_of st spots (suc n)) i ≡ Some (site_at (i + x.1.others) (record { file = x.1.file; line = x.0 }))
    by (inl l) rest =
        let y = stands n (omega arith) in
        ap (λ o. slice_get (front ++ site_in n o) i) y.1
        ∙ before front (here y.0 ∷ []) i (omega (arith, l, long))
        ∙ rest l
    by (inr e) rest =
        let same : i ≡ length front = e ∙ sym long in
        ap (λ o. slice_get (front ++ site_in n o) i) (sym (ap (found st spots) e) ∙ is)
        ∙ ap (slice_get (front ++ here x ∷ [])) same
        ∙ slice_get-last front (here x)
        ∙ ap (λ k. Some (site_at (k + x.1.others) (record { file = x.1.file; line = x.0 }))) (sym e)

-- the site with a number, and none past the last
pub site-at : (st : List Stretch) (spots : List LineEntry) (n : ℕ) → AreKept st spots n → (i : ℕ) → i < n → (x : ℕ × Stretch) → found st spots i ≡ Some x
    → slice_get (sites_of st spots n) i ≡ Some (site_at (i + x.1.others) (record { file = x.1.file; line = x.0 }))
site-at st spots n kept i lt x is = upto-at st spots n kept.stands i lt x is

pub site-past : (st : List Stretch) (spots : List LineEntry) (n : ℕ) → AreKept st spots n → (i : ℕ) → n ≤ i → slice_get (sites_of st spots n) i ≡ None
site-past st spots n kept i le = slice_get_past (sites_of st spots n) i (omega (arith, le, length-sites st spots n kept))

-- one more token, where each before it keeps its line and stretch
module _ (st st' : List Stretch) (spots spots' : List LineEntry) (n : ℕ) (kept : AreKept st spots n) (same : (i : ℕ) → i < n → found st' spots' i ≡ found st spots i) where
  next : (line : ℕ) (s : Stretch) → found st' spots' n ≡ Some (line, s) → AreBefore (n + 1) spots' → Rise spots' → n < 2 ^ 32
      → AreKept st' spots' (n + 1) × (sites_of st' spots' (n + 1) ≡ sites_of st spots n ++ site_at (length (sites_of st spots n) + s.others) (record { file = s.file; line = line }) ∷ [])
  next line s is all rise few =
      let suc_is : suc n ≡ n + 1 = omega arith in
      let long = length-sites st spots n kept in (
        record {
          stands = λ i lt. stands i (earlier i n (omega (arith, lt)));
          before = all;
          rise = rise;
          few = omega (arith, few);
        },
        sym (ap (sites_of st' spots') suc_is)
            ∙ ap (λ l. l ++ site_in n (found st' spots' n)) (sites-same st st' spots spots' n same)
            ∙ ap (λ o. sites_of st spots n ++ site_in n o) is
            ∙ ap (λ k. sites_of st spots n ++ site_at (k + s.others) (record { file = s.file; line = line }) ∷ []) (sym long),
      )
    where
      earlier : (i n : ℕ) → i ≤ n → (i < n) ⊎ (i ≡ n)
      earlier zero zero le = inr refl
      earlier zero (suc n) le = inl (omega arith)
      earlier (suc i) zero le = absurd (omega (arith, le))
      earlier (suc i) (suc n) le = elim (earlier i n (omega (arith, le))) [ inl l ↦ inl (omega (arith, l)) | inr e ↦ inr (ap suc e) ]

      stands : (i : ℕ) → (i < n) ⊎ (i ≡ n) → (x : ℕ × Stretch) × (found st' spots' i ≡ Some x)
      stands i (inl l) = let x = kept.stands i l in (x.0, same i l ∙ x.1)
      stands i (inr e) = ((line, s), ap (found st' spots') e ∙ is)

-- on the same line
pub push-on : (st : List Stretch) (spots : List LineEntry) (n : ℕ) → AreKept st spots n → (line : ℕ) (s : Stretch) → in_stretch st (slice_get spots (length spots - 1)) ≡ Some (line, s) → n < 2 ^ 32
    → AreKept st spots (n + 1) × (sites_of st spots (n + 1) ≡ sites_of st spots n ++ site_at (length (sites_of st spots n) + s.others) (record { file = s.file; line = line }) ∷ [])
push-on st spots n kept line s is few =
    next st st spots spots n kept (λ i lt. refl) line s (ap (in_stretch st) (spot_at-last spots n kept.before) ∙ is)
    (before-next n spots kept.before) kept.rise few

-- on another, in a stretch that is there
line-more : (st : List Stretch) (spots : List LineEntry) (n : ℕ) → AreKept st spots n → (spot : LineEntry) (s : Stretch) → spot.first ≡ n
    → slice_get st spot.stretch ≡ Some s → n < 2 ^ 32
    → AreKept st (spots ++ spot ∷ []) (n + 1)
    × (sites_of st (spots ++ spot ∷ []) (n + 1) ≡ sites_of st spots n ++ site_at (length (sites_of st spots n) + s.others) (record { file = s.file; line = spot.line }) ∷ [])
line-more st spots n kept spot s first is few =
    next st st spots (spots ++ spot ∷ []) n kept (λ i lt. ap (in_stretch st) (spot_at-before spots spot i (omega (arith, lt, first)))) spot.line s
    (ap (in_stretch st) (spot_at-new spots spot n kept.before (omega (arith, first))) ∙ ap (option_map (λ (s : Stretch). (spot.line, s))) is)
    (before-push n spots spot kept.before first) (rise-push n spots spot kept.before kept.rise first) few

-- with more stretches, each token has its own as before
found-more : (st more : List Stretch) (spots : List LineEntry) (i : ℕ) (x : ℕ × Stretch) → found st spots i ≡ Some x → found (st ++ more) spots i ≡ found st spots i
found-more st more spots i x is = by (spot_at spots i) is
  where
    by : (o : Option LineEntry) → in_stretch st o ≡ Some x → in_stretch (st ++ more) o ≡ in_stretch st o
    by None is = refl
    by (Some spot) is = within (slice_get st spot.stretch) refl is
      where
        within : (o : Option Stretch) → slice_get st spot.stretch ≡ o → option_map (λ (s : Stretch). (spot.line, s)) o ≡ Some x
            → in_stretch (st ++ more) (Some spot) ≡ in_stretch st (Some spot)
        within None at is = absurd (cc)
        within (Some y) at is = ap (option_map (λ (s : Stretch). (spot.line, s))) (before st more spot.stretch (slice_get_within st spot.stretch y at))

pub stretch-more : (st more : List Stretch) (spots : List LineEntry) (n : ℕ) → AreKept st spots n
    → AreKept (st ++ more) spots n × (sites_of (st ++ more) spots n ≡ sites_of st spots n)
stretch-more st more spots n kept = (
  record {
    stands = λ i lt. let x = kept.stands i lt in (x.0, found-more st more spots i x.0 x.1 ∙ x.1);
    before = kept.before;
    rise = kept.rise;
    few = kept.few;
  },
  sites-same st (st ++ more) spots spots n (λ i lt. let x = kept.stands i lt in found-more st more spots i x.0 x.1),
)

-- and another line may be in one of these
pub push-line : (st more : List Stretch) (spots : List LineEntry) (n : ℕ) → AreKept st spots n → (spot : LineEntry) (s : Stretch) → spot.first ≡ n
    → slice_get (st ++ more) spot.stretch ≡ Some s → n < 2 ^ 32
    → AreKept (st ++ more) (spots ++ spot ∷ []) (n + 1)
    × (sites_of (st ++ more) (spots ++ spot ∷ []) (n + 1) ≡ sites_of st spots n ++ site_at (length (sites_of st spots n) + s.others) (record { file = s.file; line = spot.line }) ∷ [])
push-line st more spots n kept spot s first is few =
    let all = stretch-more st more spots n kept in
    let pushed = line-more (st ++ more) spots n all.0 spot s first is few in
    (pushed.0, pushed.1 ∙ ap (λ l. l ++ site_at (length l + s.others) (record { file = s.file; line = spot.line }) ∷ []) all.1)

-- so many more on the same line
pub push-run : (st : List Stretch) (spots : List LineEntry) (n : ℕ) → AreKept st spots n → (place : Place) (others k : ℕ)
    → in_stretch st (slice_get spots (length spots - 1)) ≡ Some (place.line, record { file = place.file; others = others }) → n + k ≤ 2 ^ 32
    → AreKept st spots (n + k) × (sites_of st spots (n + k) ≡ sites_of st spots n ++ sites_at (length (sites_of st spots n) + others) place k)
push-run st spots n kept place others zero is few =
    let none : n + 0 ≡ n = omega arith in
    (subst (AreKept st spots) (sym none) kept, ap (sites_of st spots) none ∙ sym (append-nil (sites_of st spots n)))
push-run st spots n kept place others (suc k) is few =
    let s : Stretch = record { file = place.file; others = others } in
    let front = sites_of st spots n in
    let one = push-on st spots n kept place.line s is (omega (arith, few)) in
    let rest = push-run st spots (n + 1) one.0 place others k is (omega (arith, few)) in
    let e : n + suc k ≡ n + 1 + k = omega arith in
    let behind : length front + 1 + others ≡ length front + others + 1 = omega arith in
    let suc_is : suc (length front) ≡ length front + 1 = omega arith in
    let long : length (sites_of st spots (n + 1)) + others ≡ length front + others + 1 =
    ap (λ (l : List Site). length l + others) one.1
    ∙ ap (λ j. j + others) (longer front (site_at (length front + others) place) ∙ suc_is)
    ∙ behind in (
      subst (AreKept st spots) (sym e) rest.0,
      ap (sites_of st spots) e
          ∙ rest.1
          ∙ ap (λ l. l ++ sites_at (length (sites_of st spots (n + 1)) + others) place k) one.1
          ∙ append_assoc front (site_at (length front + others) place ∷ []) (sites_at (length (sites_of st spots (n + 1)) + others) place k)
          ∙ ap (λ j. front ++ site_at (length front + others) place ∷ sites_at j place k) long,
    )

-- and on another, in one of these stretches
pub line-run : (st more : List Stretch) (spots : List LineEntry) (n : ℕ) → AreKept st spots n → (place : Place) (others stretch k : ℕ)
    → slice_get (st ++ more) stretch ≡ Some (record { file = place.file; others = others }) → 0 < k → n + k ≤ 2 ^ 32
    → let spot : LineEntry = record { first = n; line = place.line; stretch = stretch } in
    AreKept (st ++ more) (spots ++ spot ∷ []) (n + k)
    × (sites_of (st ++ more) (spots ++ spot ∷ []) (n + k) ≡ sites_of st spots n ++ sites_at (length (sites_of st spots n) + others) place k)
line-run st more spots n kept place others stretch zero is some few = absurd (omega (arith, some))
line-run st more spots n kept place others stretch (suc k) is some few =
    let s : Stretch = record { file = place.file; others = others } in
    let spot : LineEntry = record { first = n; line = place.line; stretch = stretch } in
    let front = sites_of st spots n in
    let all = spots ++ spot ∷ [] in
    let one = push-line st more spots n kept spot s refl is (omega (arith, few)) in
    let end : length all - 1 ≡ length spots = omega (arith, longer spots spot) in
    let last : in_stretch (st ++ more) (slice_get all (length all - 1)) ≡ Some (place.line, s) =
    ap (λ i. in_stretch (st ++ more) (slice_get all i)) end
    ∙ ap (in_stretch (st ++ more)) (slice_get-last spots spot)
    ∙ ap (option_map (λ (s : Stretch). (place.line, s))) is in
    let rest = push-run (st ++ more) all (n + 1) one.0 place others k last (omega (arith, few)) in
    let e : n + suc k ≡ n + 1 + k = omega arith in
    let behind : length front + 1 + others ≡ length front + others + 1 = omega arith in
    let suc_is : suc (length front) ≡ length front + 1 = omega arith in
    let long : length (sites_of (st ++ more) all (n + 1)) + others ≡ length front + others + 1 =
    ap (λ (l : List Site). length l + others) one.1
    ∙ ap (λ j. j + others) (longer front (site_at (length front + others) place) ∙ suc_is)
    ∙ behind in (
      subst (AreKept (st ++ more) all) (sym e) rest.0,
      ap (sites_of (st ++ more) all) e
          ∙ rest.1
          ∙ ap (λ l. l ++ sites_at (length (sites_of (st ++ more) all (n + 1)) + others) place k) one.1
          ∙ append_assoc front (site_at (length front + others) place ∷ []) (sites_at (length (sites_of (st ++ more) all (n + 1)) + others) place k)
          ∙ ap (λ j. front ++ site_at (length front + others) place ∷ sites_at j place k) long,
    )

-- ---- the tokens of a file's text

length-text_sites : (n : ℕ) (file : FileName) (tokens : List PlacedToken) → length (text_sites n file tokens) ≡ length tokens
length-text_sites n file [] = refl
length-text_sites n file (t ∷ tokens) = ap suc (length-text_sites (n + 1) file tokens)

text_sites-push : (n : ℕ) (file : FileName) (front : List PlacedToken) (t : PlacedToken)
    → text_sites n file (front ++ t ∷ []) ≡ text_sites n file front ++ site_at (n + length front) (record { file = file; line = t.line }) ∷ []
text_sites-push n file [] t =
    let e : n ≡ n + 0 = omega arith in
    ap (λ k. site_at k (record { file = file; line = t.line }) ∷ []) e
text_sites-push n file (u ∷ front) t =
    let e : n + 1 + length front ≡ n + suc (length front) = omega arith in
    ap (λ l. site_at n (record { file = file; line = u.line }) ∷ l) (text_sites-push (n + 1) file front t ∙ ap (λ k. text_sites (n + 1) file front ++ site_at k (record { file = file; line = t.line }) ∷ []) e)

pub HaveSites-none : (spots : List LineEntry) (first stretch : ℕ) → HaveSites spots spots first stretch []
HaveSites-none spots first stretch = λ st s is kept.
    let none : first + 0 ≡ first = omega arith in (
      subst (AreKept st spots) (sym none) kept,
      ap (sites_of st spots) none ∙ sym (append-nil (sites_of st spots first)),
    )

-- one token more
HaveSites-next : (old spots spots' : List LineEntry) (first stretch : ℕ) (front : List PlacedToken) (t : PlacedToken) → HaveSites old spots first stretch front
    → ((st : List Stretch) (s : Stretch) → slice_get st stretch ≡ Some s → AreKept st spots (first + length front)
    → AreKept st spots' (first + length front + 1)
    × (sites_of st spots' (first + length front + 1)
    ≡ sites_of st spots (first + length front) ++ site_at (length (sites_of st spots (first + length front)) + s.others) (record { file = s.file; line = t.line }) ∷ []))
    → HaveSites old spots' first stretch (front ++ t ∷ [])
HaveSites-next old spots spots' first stretch front t have step = λ st s is kept.
    let had = have st s is kept in
    let next = step st s is had.0 in
    let count : first + length (front ++ t ∷ []) ≡ first + length front + 1 = omega (arith, longer front t) in
    let before = sites_of st old first in
    let n = length before + s.others in
    let sites = text_sites n s.file front in
    let place : Place = record { file = s.file; line = t.line } in
    let number : length (before ++ sites) + s.others ≡ n + length front = omega (arith, length-append before sites, length-text_sites n s.file front) in (
      subst (AreKept st spots') (sym count) next.0,
      ap (sites_of st spots') count
          ∙ next.1
          ∙ ap (λ l. l ++ site_at (length l + s.others) place ∷ []) had.1
          ∙ append_assoc before sites (site_at (length (before ++ sites) + s.others) place ∷ [])
          ∙ ap (λ k. before ++ (sites ++ site_at k place ∷ [])) number
          ∙ ap (λ l. before ++ l) (sym (text_sites-push n s.file front t)),
    )

-- on the line of the last spot
pub HaveSites-on : (old spots : List LineEntry) (first stretch : ℕ) (front : List PlacedToken) (t : PlacedToken) → HaveSites old spots first stretch front
    → ((st : List Stretch) (s : Stretch) → slice_get st stretch ≡ Some s → in_stretch st (slice_get spots (length spots - 1)) ≡ Some (t.line, s))
    → first + length front < 2 ^ 32 → HaveSites old spots first stretch (front ++ t ∷ [])
HaveSites-on old spots first stretch front t have last few =
    HaveSites-next old spots spots first stretch front t have
    (λ st s is kept. push-on st spots (first + length front) kept t.line s (last st s is) few)

-- on another
pub HaveSites-line : (old spots : List LineEntry) (first stretch : ℕ) (front : List PlacedToken) (t : PlacedToken) (spot : LineEntry) → HaveSites old spots first stretch front
    → spot.first ≡ first + length front → spot.line ≡ t.line → spot.stretch ≡ stretch → first + length front < 2 ^ 32
    → HaveSites old (spots ++ spot ∷ []) first stretch (front ++ t ∷ [])
HaveSites-line old spots first stretch front t spot have begins line inside few =
    HaveSites-next old spots (spots ++ spot ∷ []) first stretch front t have
    (λ st s is kept.
    let more = line-more st spots (first + length front) kept spot s begins (ap (slice_get st) inside ∙ is) few in
    (more.0, more.1 ∙ ap (λ k. sites_of st spots (first + length front) ++ site_at (length (sites_of st spots (first + length front)) + s.others) (record { file = s.file; line = k }) ∷ []) line))

-- the last spot is one that was put in
pub in_stretch-last : (spots : List LineEntry) (spot : LineEntry) (stretch : ℕ) → spot.stretch ≡ stretch → (st : List Stretch) (s : Stretch) → slice_get st stretch ≡ Some s
    → in_stretch st (slice_get (spots ++ spot ∷ []) (length (spots ++ spot ∷ []) - 1)) ≡ Some (spot.line, s)
in_stretch-last spots spot stretch inside st s is =
    let end : length (spots ++ spot ∷ []) - 1 ≡ length spots = omega (arith, longer spots spot) in
    ap (λ i. in_stretch st (slice_get (spots ++ spot ∷ []) i)) end
    ∙ ap (in_stretch st) (slice_get-last spots spot)
    ∙ ap (option_map (λ (s : Stretch). (spot.line, s))) (ap (slice_get st) inside ∙ is)
