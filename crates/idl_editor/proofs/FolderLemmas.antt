-- A name leads back to the path that it was made of.
use Rattle.std.proofs.Common.{◌≡◌, ◌∙◌, ◌+◌, ◌<◌, ◌≤◌, ◌&&◌, ◌||◌, not, ℕ, suc, Bool, true, false, true≢false, List, [], ◌∷◌, ◌++◌, length, get_or, take, drop, slice_index_or, Option, None, Some, refl, sym, ap, append_assoc, subst, arith, inl, inr}
use Rattle.std.specs.Prelude.{All, IfSome, MatchOption, codes, is_none, is_some, option_and_then, if◌then◌else◌}
use Rattle.std.specs.List.{list_all}
use Rattle.std.specs.Option.{option_map, option_or, unwrap_or}
use Rattle.std.proofs.lemmas.Bool.{cases_lt, cond-true, cond-false}
use Rattle.std.proofs.lemmas.Bool.Decides.{nat_tests}
use Rattle.std.proofs.lemmas.List.{drop_more, take-append-le, take-append-drop}
use Rattle.std.proofs.lemmas.List.Elements.{All-tail}
use Rattle.std.proofs.Math.Seq.{take-append_seam}
use Rattle.idl_source.specs.names.Path.{is_rooted}
use Rattle.percent_encoding.specs.AsciiSet.{contains, should_percent_encode}
use Rattle.percent_encoding.specs.Percent.{percent_decode, percent_encode, percent_encode_byte}
use Rattle.percent_encoding.proofs.PercentLemmas.{percent_encode-nil, percent_encode_escaped, percent_encode_kept, round_trip}
use Rattle.idl_editor.specs.uris.Uri.{behind}
use Rattle.idl_editor.specs.uris.Folders.{AreApart, FolderNamed, are_apart, are_told_apart, escaped, goes_up, leads_out, name_among, name_behind, name_in, name_of, path_among, path_for, path_in, stands_in_names, staying}
use Rattle.idl_editor.specs.declared.uris.folders.TheConstants.{ESCAPED_IN_NAMES}
use Rattle.idl_editor.proofs.UriLemmas.{all-escaped, behind-front, behind-some, rooted-kept}

names-keep : should_percent_encode ESCAPED_IN_NAMES 47 ≡ false
unfolding should_percent_encode
names-keep = refl

names-escape : contains ESCAPED_IN_NAMES 37 ≡ true
names-escape = refl

byte-plain : (b : ℕ) (rest : List ℕ) → is_rooted (percent_encode_byte b ++ rest) ≡ false
unfolding percent_encode_byte
byte-plain b rest = refl

-- where two texts begin alike, one of the fronts begins the other
fronts-meet : (a b x y : List ℕ) → a ++ x ≡ b ++ y → length a ≤ length b → (rest : List ℕ) × (behind a b ≡ Some rest)
fronts-meet a b x y e short =
    let front : take (length a) b ≡ a = sym (take-append-le (length a) b y short) ∙ sym (ap (take (length a)) e) ∙ take-append_seam a x in
    let whole : b ≡ a ++ drop (length a) b = sym (take-append-drop (length a) b) ∙ ap (λ t. t ++ drop (length a) b) front in
    (drop (length a) b, ap (behind a) whole ∙ behind-front a (drop (length a) b))

-- ---- booleans

both_so : (a b : Bool) → (a && b) ≡ true → (a ≡ true) × (b ≡ true)
both_so true b e = (refl, e)
both_so false b e = absurd (cc)

both : (a b : Bool) → a ≡ true → b ≡ true → (a && b) ≡ true
both true b p q = q
both false b p q = absurd (cc)

not_so : (a : Bool) → not a ≡ true → a ≡ false
not_so true e = absurd (cc)
not_so false e = refl

neither : (a b : Bool) → (a || b) ≡ false → (a ≡ false) × (b ≡ false)
neither true b e = absurd (true≢false e)
neither false b e = (refl, e)

second_so : (a b : Bool) → b ≡ true → (a || b) ≡ true
second_so true b e = refl
second_so false b e = e

other_so : (a b : Bool) → a ≡ false → (a || b) ≡ true → b ≡ true
other_so true b none e = absurd (true≢false none)
other_so false b none e = e

-- ---- folders that were added one after another

no_folder : FolderNamed
no_folder = record { path = []; front = [] }

apart-tail : (f : FolderNamed) (fs : List FolderNamed) → AreApart (f ∷ fs) → AreApart fs
apart-tail f fs apart k d within =
    let g = slice_index_or fs k d in
    let whole = both_so (not (is_rooted g.front)) (are_told_apart f.front g.front && list_all (λ h. are_told_apart h.front g.front) (take k fs)) (apart (suc k) d (omega arith)) in
    both (not (is_rooted g.front)) (list_all (λ h. are_told_apart h.front g.front) (take k fs)) whole.0 (both_so (are_told_apart f.front g.front) (list_all (λ h. are_told_apart h.front g.front) (take k fs)) whole.1).1

apart-head : (f : FolderNamed) (fs : List FolderNamed) → AreApart (f ∷ fs) → (k : ℕ) (d : FolderNamed) → k < length fs → are_told_apart f.front (slice_index_or fs k d).front ≡ true
apart-head f fs apart k d within =
    let g = slice_index_or fs k d in
    let whole = both_so (not (is_rooted g.front)) (are_told_apart f.front g.front && list_all (λ h. are_told_apart h.front g.front) (take k fs)) (apart (suc k) d (omega arith)) in
    (both_so (are_told_apart f.front g.front) (list_all (λ h. are_told_apart h.front g.front) (take k fs)) whole.1).0

apart-plain : (f : FolderNamed) (fs : List FolderNamed) → AreApart (f ∷ fs) → is_rooted f.front ≡ false
apart-plain f fs apart = not_so (is_rooted f.front) (both_so (not (is_rooted f.front)) true (apart 0 f (omega arith))).0

-- a front that begins the other one isn't apart from it
some-clash : (o : Option (List ℕ)) (rest : List ℕ) → o ≡ Some rest → is_none o ≡ true → ⊥
some-clash None rest e none = absurd (cc)
some-clash (Some xs) rest e none = absurd (cc)

apart-clash : (a b x y : List ℕ) → are_apart a b ≡ true → a ++ x ≡ b ++ y → ⊥
apart-clash a b x y apart e =
    let none = both_so (is_none (behind a b)) (is_none (behind b a)) apart in
    elim (cases_lt (length b) (length a)) [
      | inl longer ↦ let meet = fronts-meet b a y x (sym e) (omega arith) in some-clash (behind b a) meet.0 meet.1 none.1
      | inr short ↦ let meet = fronts-meet a b x y e short in some-clash (behind a b) meet.0 meet.1 none.0
    ]

-- ---- a file in a folder

abbrev Inside : FolderNamed → List ℕ → List ℕ → Type 0
Inside f path name =
    (rest : List ℕ) × (path ≡ f.path ++ 47 ∷ rest) × (leads_out rest ≡ false) × (name ≡ f.front ++ escaped rest)

inside-rest : (f : FolderNamed) (path rest name : List ℕ) → path ≡ f.path ++ 47 ∷ rest → (t : Bool) → leads_out rest ≡ t → (if t then None else Some (f.front ++ escaped rest)) ≡ Some name → Inside f path name
inside-rest f path rest name whole true is e = absurd (cc)
inside-rest f path rest name whole false is e = (rest, whole, is, (cc))

inside-slash : (f : FolderNamed) (path more name : List ℕ) → path ≡ f.path ++ more → (o : Option (List ℕ)) → behind (47 ∷ []) more ≡ o → name_behind f o ≡ Some name → Inside f path name
inside-slash f path more name whole None is e = absurd (cc)
inside-slash f path more name whole (Some rest) is e =
    inside-rest f path rest name (whole ∙ ap (λ t. f.path ++ t) (behind-some (47 ∷ []) more rest is)) (leads_out rest) refl e

inside-path : (f : FolderNamed) (path name : List ℕ) (o : Option (List ℕ)) → behind f.path path ≡ o → name_behind f (option_and_then (behind (47 ∷ [])) o) ≡ Some name → Inside f path name
inside-path f path name None is e = absurd (cc)
inside-path f path name (Some more) is e =
    inside-slash f path more name (behind-some f.path path more is) (behind (47 ∷ []) more) refl e

inside : (f : FolderNamed) (path name : List ℕ) → name_in f path ≡ Some name → Inside f path name
inside f path name e = inside-path f path name (behind f.path path) refl e

past-names : (b : ℕ) → 128 ≤ b → stands_in_names b ≡ false
past-names b large = grind (arith, nat_tests)

-- the set of names
pub name_escaped : (path : List ℕ) → percent_encode ESCAPED_IN_NAMES path ≡ escaped path
name_escaped path = all-escaped ESCAPED_IN_NAMES stands_in_names refl past-names path

-- what is escaped reads back
escaped-reads : (path : List ℕ) → All (λ b. b < 256) path → percent_decode (escaped path) ≡ path
escaped-reads path bytes = ap percent_decode (sym (name_escaped path)) ∙ round_trip ESCAPED_IN_NAMES path names-escape bytes

-- it begins with `/` only where it did before
encoded-plain : (path : List ℕ) → is_rooted path ≡ false → is_rooted (percent_encode ESCAPED_IN_NAMES path) ≡ false
encoded-plain [] plain = ap is_rooted (percent_encode-nil ESCAPED_IN_NAMES)
encoded-plain (b ∷ path) plain = by_test (should_percent_encode ESCAPED_IN_NAMES b) refl
  where
    by_test : (t : Bool) → should_percent_encode ESCAPED_IN_NAMES b ≡ t → is_rooted (percent_encode ESCAPED_IN_NAMES (b ∷ path)) ≡ false
    by_test true is = ap is_rooted (percent_encode_escaped ESCAPED_IN_NAMES b path is) ∙ byte-plain b (percent_encode ESCAPED_IN_NAMES path)
    by_test false is = ap is_rooted (percent_encode_kept ESCAPED_IN_NAMES b path is) ∙ plain

escaped-plain : (path : List ℕ) → is_rooted path ≡ false → is_rooted (escaped path) ≡ false
escaped-plain path plain = ap is_rooted (sym (name_escaped path)) ∙ encoded-plain path plain

-- ---- steps up

percent-first : (c b : ℕ) (x more : List ℕ) → percent_encode_byte c ++ x ≡ b ∷ more → 37 ≡ b
unfolding percent_encode_byte
percent-first c b x more e = ap (λ (l : List ℕ). get_or l 0 0) e

-- what is escaped begins with another byte than `%` only where that stood there before
first-kept : (b : ℕ) → (37 ≡ b → ⊥) → (rest more : List ℕ) → escaped rest ≡ b ∷ more → (r : List ℕ) × (rest ≡ b ∷ r) × (escaped r ≡ more)
first-kept b other [] more e = absurd (cc)
first-kept b other (c ∷ rest) more e = by (stands_in_names c) e
  where
    by : (t : Bool) → (if t then c ∷ [] else percent_encode_byte c) ++ escaped rest ≡ b ∷ more → (r : List ℕ) × (c ∷ rest ≡ b ∷ r) × (escaped r ≡ more)
    by true e = (rest, ap (λ (l : List ℕ). get_or l 0 0 ∷ rest) e, ap (λ (l : List ℕ). drop 1 l) e)
    by false e = absurd (other (percent-first c b (escaped rest) more e))

up-kept : (rest z : List ℕ) → escaped rest ≡ 46 ∷ 46 ∷ 47 ∷ z → (r : List ℕ) × (rest ≡ 46 ∷ 46 ∷ 47 ∷ r)
up-kept rest z e =
    let one = first-kept 46 (λ h. omega (arith, h)) rest (46 ∷ 47 ∷ z) e in
    let two = first-kept 46 (λ h. omega (arith, h)) one.0 (47 ∷ z) one.2 in
    let three = first-kept 47 (λ h. omega (arith, h)) two.0 z two.2 in
    (three.0, one.1 ∙ ap (λ (r : List ℕ). 46 ∷ r) two.1 ∙ ap (λ (r : List ℕ). 46 ∷ 46 ∷ r) three.1)

not-up : (rest : List ℕ) → is_some (behind (codes "../") rest) ≡ false → is_some (behind (codes "../") (escaped rest)) ≡ false
not-up rest none = by (behind (codes "../") (escaped rest)) refl
  where
    by : (o : Option (List ℕ)) → behind (codes "../") (escaped rest) ≡ o → is_some o ≡ false
    by None is = refl
    by (Some z) is =
        let back = up-kept rest z (behind-some (codes "../") (escaped rest) z is) in
        let there : behind (codes "../") rest ≡ Some back.0 = ap (behind (codes "../")) back.1 ∙ behind-front (codes "../") back.0 in
        absurd (true≢false (sym (ap (λ (o : Option (List ℕ)). is_some o) there) ∙ none))

-- what stays in a folder does so where it is escaped
stays-in : (rest : List ℕ) → leads_out rest ≡ false → leads_out (escaped rest) ≡ false
stays-in rest stays =
    let parts = neither (is_rooted rest) (is_some (behind (codes "../") rest)) stays in
    λ i. escaped-plain rest parts.0 i || not-up rest parts.1 i

-- what begins with a step up leads out
up-leads : (y w : List ℕ) → y ≡ codes "../" ++ w → leads_out y ≡ true
up-leads y w is =
    second_so (is_rooted y) (is_some (behind (codes "../") y)) (ap (λ (o : Option (List ℕ)). is_some o) (ap (behind (codes "../")) is ∙ behind-front (codes "../") w))

-- a front that goes up from another one
step-behind : (a b rest : List ℕ) → behind a b ≡ Some rest → (p : Option (List ℕ)) → behind (codes "../") rest ≡ p → is_some p ≡ true → (z : List ℕ) × (b ≡ a ++ (codes "../" ++ z))
step-behind a b rest e None is some = absurd (true≢false (sym some))
step-behind a b rest e (Some z) is some = (z, behind-some a b rest e ∙ ap (λ (t : List ℕ). a ++ t) (behind-some (codes "../") rest z is))

goes-on : (a b : List ℕ) → (o : Option (List ℕ)) → behind a b ≡ o → is_some (option_and_then (behind (codes "../")) o) ≡ true → (z : List ℕ) × (b ≡ a ++ (codes "../" ++ z))
goes-on a b None is some = absurd (true≢false (sym some))
goes-on a b (Some rest) is some = step-behind a b rest is (behind (codes "../") rest) refl some

-- ---- a name in a folder leads back

joined-plain : (front rest : List ℕ) → is_rooted front ≡ false → is_rooted rest ≡ false → is_rooted (front ++ rest) ≡ false
joined-plain [] rest p q = q
joined-plain (b ∷ front) rest p q = p

rest-bytes : (front rest : List ℕ) → All (λ b. b < 256) (front ++ 47 ∷ rest) → All (λ b. b < 256) rest
rest-bytes [] rest all = All-tail (λ b. b < 256) 47 rest all
rest-bytes (b ∷ front) rest all = rest-bytes front rest (All-tail (λ b. b < 256) b (front ++ 47 ∷ rest) all)

-- and its name leads back by its folder
back : (f : FolderNamed) (path name : List ℕ) → All (λ b. b < 256) path → Inside f path name → path_in f name ≡ Some path
back f path name bytes in_ =
    let small = rest-bytes f.path in_.0 (subst (All (λ b. b < 256)) in_.1 bytes) in
    ap (path_in f) in_.3
    ∙ ap (λ (o : Option (List ℕ)). option_map (λ rest. f.path ++ 47 ∷ percent_decode rest) (staying o)) (behind-front f.front (escaped in_.0))
    ∙ ap (option_map (λ rest. f.path ++ 47 ∷ percent_decode rest)) (cond-false _ _ _ (stays-in in_.0 in_.2))
    ∙ ap (λ rest. Some (f.path ++ 47 ∷ rest)) (escaped-reads in_.0 small)
    ∙ ap Some (sym in_.1)

-- ---- a file in the first folder that it is in

abbrev Led : List FolderNamed → List ℕ → List ℕ → Type 0
Led folders path name =
    (k : ℕ) × (x : List ℕ) × (k < length folders) × (name ≡ (slice_index_or folders k no_folder).front ++ x)
    × (is_rooted name ≡ false) × (path_among folders name ≡ Some path)

-- a name that goes up from a folder isn't that of a file in it
passes-up : (f : FolderNamed) (others : Option (List ℕ)) (path front x y name : List ℕ) → goes_up f.front front ≡ true → name ≡ front ++ x → behind f.front name ≡ Some y → others ≡ Some path
    → option_or (option_map (λ rest. f.path ++ 47 ∷ percent_decode rest) (staying (Some y))) others ≡ Some path
passes-up f others path front x y name goes is there led =
    let on = goes-on f.front front (behind f.front front) refl goes in
    let whole : name ≡ f.front ++ (codes "../" ++ (on.0 ++ x)) = is ∙ ap (λ (t : List ℕ). t ++ x) on.1 ∙ append_assoc f.front (codes "../" ++ on.0) x in
    let some : Some y ≡ Some (codes "../" ++ (on.0 ++ x)) = sym there ∙ ap (behind f.front) whole ∙ behind-front f.front (codes "../" ++ (on.0 ++ x)) in
    let same : y ≡ codes "../" ++ (on.0 ++ x) = cc in
    ap (λ (o : Option (List ℕ)). option_or (option_map (λ rest. f.path ++ 47 ∷ percent_decode rest) o) others) (cond-true _ _ _ (up-leads y (on.0 ++ x) same)) ∙ led

passes-by : (f : FolderNamed) (fs : List FolderNamed) (path name : List ℕ) → AreApart (f ∷ fs) → (led : Led fs path name) → (o : Option (List ℕ)) → behind f.front name ≡ o
    → option_or (option_map (λ rest. f.path ++ 47 ∷ percent_decode rest) (staying o)) (path_among fs name) ≡ Some path
passes-by f fs path name apart led None is = led.5
passes-by f fs path name apart led (Some y) is = by (are_apart f.front front) refl
  where
    front : List ℕ
    front = (slice_index_or fs led.0 no_folder).front

    by : (t : Bool) → are_apart f.front front ≡ t → option_or (option_map (λ rest. f.path ++ 47 ∷ percent_decode rest) (staying (Some y))) (path_among fs name) ≡ Some path
    by true so = absurd (apart-clash f.front front y led.1 so (sym (behind-some f.front name y is) ∙ led.3))
    by false not_apart =
        passes-up f (path_among fs name) path front led.1 y name (other_so (are_apart f.front front) (goes_up f.front front) not_apart (apart-head f fs apart led.0 no_folder led.2)) led.3 is led.5

leads-first : (f : FolderNamed) (fs : List FolderNamed) (path name : List ℕ) → AreApart (f ∷ fs) → All (λ b. b < 256) path → (name_among fs path ≡ Some name → Led fs path name)
    → (o : Option (List ℕ)) → name_in f path ≡ o → option_or o (name_among fs path) ≡ Some name → Led (f ∷ fs) path name
leads-first f fs path name apart bytes later None is e =
    let led = later e in
    (suc led.0, led.1, omega (arith, led.2), led.3, led.4, passes-by f fs path name apart led (behind f.front name) refl)
leads-first f fs path name apart bytes later (Some n) is e =
    let same : n ≡ name = cc in
    let in_ = inside f path name (is ∙ ap Some same) in (
      0,
      escaped in_.0,
      omega arith,
      in_.3,
      ap is_rooted in_.3 ∙ joined-plain f.front (escaped in_.0) (apart-plain f fs apart) (escaped-plain in_.0 (neither (is_rooted in_.0) _ in_.2).0),
      ap (λ o. option_or o (path_among fs name)) (back f path name bytes in_),
    )

leads : (folders : List FolderNamed) (path name : List ℕ) → AreApart folders → All (λ b. b < 256) path → name_among folders path ≡ Some name → Led folders path name
leads [] path name apart bytes e = absurd (cc)
leads (f ∷ fs) path name apart bytes e =
    leads-first f fs path name apart bytes (λ more. leads fs path name (apart-tail f fs apart) bytes more) (name_in f path) refl e

pub lead-back : (folders : List FolderNamed) (path : List ℕ) → AreApart folders → All (λ b. b < 256) path → is_rooted path ≡ true → path_for folders (name_of folders path) ≡ Some path
lead-back folders path apart bytes rooted = by_name (name_among folders path) refl
  where
    by_name : (o : Option (List ℕ)) → name_among folders path ≡ o → path_for folders (unwrap_or o (escaped path)) ≡ Some path
    by_name None is = cond-true _ _ _ (ap is_rooted (sym (name_escaped path)) ∙ rooted-kept ESCAPED_IN_NAMES path names-keep rooted) ∙ ap Some (escaped-reads path bytes)
    by_name (Some name) is =
        let led = leads folders path name apart bytes is in
        cond-false _ _ _ led.4 ∙ led.5

-- ---- the name that is looked for

-- from one folder to the next
pub among-step : (folders : List FolderNamed) (k : ℕ) (d : FolderNamed) (path : List ℕ) → k < length folders
    → name_among (drop k folders) path ≡ option_or (name_in (slice_index_or folders k d) path) (name_among (drop (k + 1) folders) path)
among-step folders k d path within = ap (λ l. name_among l path) (drop_more folders k d within)

-- whether a name was put in
pub not-in : (o : Option (List ℕ)) (is_in : Bool) (new old : List ℕ) → MatchOption o ((is_in ≡ false) × (new ≡ old)) (λ n. (is_in ≡ true) × (new ≡ old ++ n)) → is_in ≡ false → (o ≡ None) × (new ≡ old)
not-in None is_in new old told is = (refl, told.1)
not-in (Some n) is_in new old told is = absurd (cc (told.0))

pub was-in : (o : Option (List ℕ)) (is_in : Bool) (new old : List ℕ) → MatchOption o ((is_in ≡ false) × (new ≡ old)) (λ n. (is_in ≡ true) × (new ≡ old ++ n)) → is_in ≡ true → (n : List ℕ) × (o ≡ Some n) × (new ≡ old ++ n)
was-in None is_in new old told is = absurd (cc (told.0))
was-in (Some n) is_in new old told is = (n, refl, told.1)

-- the name leads back, where it is one
pub leads-back : (r : Option (List ℕ)) (folders : List FolderNamed) (path text : List ℕ) → text ≡ name_of folders path → IfSome r (λ name. name ≡ text) → AreApart folders → All (λ b. b < 256) path
    → is_rooted path ≡ true → IfSome r (λ name. path_for folders name ≡ Some path)
leads-back None folders path text is same apart bytes rooted = tt
leads-back (Some name) folders path text is same apart bytes rooted = ap (path_for folders) (same ∙ is) ∙ lead-back folders path apart bytes rooted
