-- Paths that are read from their end: what stands before a path, and how long its text is.
use Rattle.std.proofs.Common.{◌≡◌, ◌<◌, ◌≤◌, ◌+◌, ◌-◌, ◌*◌, ◌++◌, ◌∷◌, ◌∙◌, ◌↔◌, [], ℕ, zero, suc, Bool, true, false, ◌&&◌, ◌||◌, cond, List, Option, None, Some, IfSome, IsSome, IsTrue, eqb, leb, take, drop, replicate, length, refl, sym, ap, arith, append_assoc, set, length-append, length-drop}
use Rattle.std.specs.List.{All, list_all, slice_split, onto_first}
use Rattle.std.proofs.lemmas.List.Splits.{slice_split_at, slice_split_none, length-slice_split, slice_split-cons_yes}
use Rattle.std.proofs.lemmas.Bool.Decides.{nat_tests}
use Rattle.std.proofs.lemmas.List.{append-nil, drop-drop, drop-set-lt, length-take, take_more_set}
use Rattle.std.proofs.Math.Seq.{drop-append_seam}
use borrow.Rule.Slice.PartMut.{put_mid}
use Rattle.std.specs.Str.{bytes_eq}
use Rattle.idl_source.specs.names.Directory.{is_directory}
use Rattle.idl_source.specs.names.Name.{is_name, is_plain, is_up, is_visible, is_path, segments}
use Rattle.idl_source.specs.names.Path.{Path, down_by, here, is_rooted, joined_path, led_by, led_by_all, slashed, steps, text_down, text_of, name_of, directory_text, directory_to}

onto_first-append : (x : ℕ) (parts others : List (List ℕ)) → 0 < length parts → onto_first x (parts ++ others) ≡ onto_first x parts ++ others
onto_first-append x [] others some = absurd (omega arith)
onto_first-append x (part ∷ parts) others some = refl

-- a byte that cuts parts what stands before it from what stands after it
pub slice_split-append : (cuts : ℕ → Bool) (xs : List ℕ) (y : ℕ) (ys : List ℕ) → cuts y ≡ true → slice_split cuts (xs ++ y ∷ ys) ≡ slice_split cuts xs ++ slice_split cuts ys
slice_split-append cuts [] y ys h = slice_split-cons_yes cuts y ys h
slice_split-append cuts (x ∷ xs) y ys h =
    let rest = slice_split-append cuts xs y ys h in
    let some : 0 < length (slice_split cuts xs) = omega (arith, length-slice_split cuts xs) in
    elim (cuts x) as (λ b. cond b ([] ∷ slice_split cuts (xs ++ y ∷ ys)) (onto_first x (slice_split cuts (xs ++ y ∷ ys))) ≡ cond b ([] ∷ slice_split cuts xs) (onto_first x (slice_split cuts xs)) ++ slice_split cuts ys) [
      | true ↦ ap (λ (l : List (List ℕ)). [] ∷ l) rest
      | false ↦ ap (onto_first x) rest ∙ onto_first-append x (slice_split cuts xs) (slice_split cuts ys) some
    ]

-- the last segment leads before those that stand before it
pub segments-last : (before last : List ℕ) → All (λ b. eqb b 47 ≡ false) last → segments (before ++ 47 ∷ last) ≡ segments before ++ (last ∷ [])
segments-last before last none = slice_split-append (λ b. eqb b 47) before 47 last refl ∙ ap (λ (l : List (List ℕ)). segments before ++ l) (slice_split_none (λ b. eqb b 47) last none)

pub led_by_all-append : (a b : List (List ℕ)) (path : Path) → led_by_all (a ++ b) path ≡ led_by_all a (led_by_all b path)
unfolding led_by_all
led_by_all-append [] b path = refl
led_by_all-append (s ∷ a) b path = ap (led_by s) (led_by_all-append a b path)

-- segments with a last one
pub led_by_all-last : (before last : List ℕ) (path : Path) → All (λ b. eqb b 47 ≡ false) last → led_by_all (segments (before ++ 47 ∷ last)) path ≡ led_by_all (segments before) (led_by last path)
unfolding led_by_all
led_by_all-last before last path none = ap (λ (l : List (List ℕ)). led_by_all l path) (segments-last before last none) ∙ led_by_all-append (segments before) (last ∷ []) path

-- one segment alone
pub led_by_all-one : (last : List ℕ) (path : Path) → All (λ b. eqb b 47 ≡ false) last → led_by_all (segments last) path ≡ led_by last path
unfolding led_by_all
led_by_all-one last path none = ap (λ (l : List (List ℕ)). led_by_all l path) (slice_split_none (λ b. eqb b 47) last none)

-- the text only grows
pub led_by-longer : (segment : List ℕ) (path : Path) → length (slashed path.down) ≤ length (slashed (led_by segment path).down)
led_by-longer segment path =
    elim (is_up segment) as (λ u. length (slashed path.down) ≤ length (slashed (cond u (record path { up = path.up + 1 }) (cond (is_plain segment) (down_by segment path) path)).down)) [
      | true ↦ omega arith
      | false ↦ elim (is_plain segment) as (λ p. length (slashed path.down) ≤ length (slashed (cond p (down_by segment path) path).down)) [
        | true ↦ elim (eqb path.up 0) as (λ z. length (slashed path.down) ≤ length (slashed (cond z (record path { down = segment ∷ path.down }) (record path { up = path.up - 1 })).down)) [
          | true ↦ omega (arith, length-append segment (slashed path.down))
          | false ↦ omega arith
        ]
        | false ↦ omega arith
      ]
    ]

pub led_by_all-longer : (segments : List (List ℕ)) (path : Path) → length (slashed path.down) ≤ length (slashed (led_by_all segments path).down)
unfolding led_by_all
led_by_all-longer [] path = omega arith
led_by_all-longer (s ∷ ss) path = omega (arith, led_by_all-longer ss path, led_by-longer s (led_by_all ss path))

unnamed : (a b : Bool) (text : List ℕ) → a ≡ false → cond (b && (a && (list_all is_visible text && is_path text))) (Some text) None ≡ None
unnamed a true text h = ap (λ x. cond (x && (list_all is_visible text && is_path text)) (Some text) None) h
unnamed a false text h = refl

name-long : (text : List ℕ) → 255 < length text → cond (is_name text) (Some text) None ≡ None
name-long text long =
    let over : leb (length text) 255 ≡ false = grind (arith, nat_tests) in
    unnamed (leb (length text) 255) (leb 1 (length text)) text over

length-text_down : (rooted : Bool) (down : List (List ℕ)) → length (slashed down) ≤ length (text_down rooted down) + 1
length-text_down true down = omega arith
length-text_down false down = omega (arith, length-drop 1 (slashed down))

-- what is too long makes no name
pub name_of-over : (rooted : Bool) (path : Path) → 256 < length (slashed (steps path)) → name_of rooted path ≡ None
unfolding text_of
name_of-over rooted path long = name-long (text_down rooted (steps path)) (omega (arith, length-text_down rooted (steps path)))

one-byte : (text : List ℕ) (b : ℕ) → 255 < length text → bytes_eq text (b ∷ []) ≡ false
one-byte [] b long = absurd (omega arith)
one-byte (a ∷ []) b long = absurd (omega arith)
one-byte (a ∷ c ∷ text) b long = elim (eqb a b) as (λ t. (t && false) ≡ false) [ true ↦ refl | false ↦ refl ]

none_of : (a b c d e : Bool) → a ≡ false → b ≡ false → c ≡ false → d ≡ false → (a || (b || (c || (d && e)))) ≡ false
none_of a b c d e p q r s = ap (λ t. t || (b || (c || (d && e)))) p ∙ ap (λ t. t || (c || (d && e))) q ∙ ap (λ t. t || (d && e)) r ∙ ap (λ t. t && e) s

no_name : (a b c : Bool) → a ≡ false → (b && (a && c)) ≡ false
no_name a true c h = ap (λ t. t && c) h
no_name a false c h = refl

directory-long : (text : List ℕ) → 255 < length text → is_directory text ≡ false
directory-long text long =
    let over : leb (length text) 255 ≡ false = grind (arith, nat_tests) in
    none_of (is_name text) (bytes_eq text (46 ∷ [])) (bytes_eq text (47 ∷ [])) (leb (length text) 255) (list_all is_up (segments text))
    (no_name (leb (length text) 255) (leb 1 (length text)) (list_all is_visible text && is_path text) over)
    (one-byte text 46 long) (one-byte text 47 long) over

pub directory_text-some : (rooted : Bool) (text : List ℕ) → 0 < length text → directory_text rooted text ≡ text
directory_text-some rooted [] some = absurd (omega arith)
directory_text-some true (b ∷ text) some = refl
directory_text-some false (b ∷ text) some = refl

-- nor a directory
pub directory_to-over : (rooted : Bool) (path : Path) → 256 < length (slashed (steps path)) → directory_to rooted path ≡ None
unfolding text_of
directory_to-over rooted path long =
    let text = text_down rooted (steps path) in
    let over : 255 < length text = omega (arith, length-text_down rooted (steps path)) in
    ap (λ (t : List ℕ). cond (is_directory t) (Some t) None) (directory_text-some rooted text (omega arith))
    ∙ ap (λ b. cond b (Some text) None) (directory-long text over)

length-ups : (n : ℕ) (down : List (List ℕ)) → length (slashed (replicate n (46 ∷ 46 ∷ []) ++ down)) ≡ 3 * n + length (slashed down)
length-ups zero down = omega arith
length-ups (suc n) down = omega (arith, length-ups n down)

pub name_of-long : (rooted : Bool) (path : Path) → 256 < length (slashed path.down) → name_of rooted path ≡ None
name_of-long rooted path long = name_of-over rooted path (omega (arith, length-ups path.up path.down))

pub directory_to-long : (rooted : Bool) (path : Path) → 256 < length (slashed path.down) → directory_to rooted path ≡ None
directory_to-long rooted path long = directory_to-over rooted path (omega (arith, length-ups path.up path.down))

-- nor does what is too long once some of the steps up are written
pub steps-over : (path : Path) (n : ℕ) (down : List (List ℕ)) → n < path.up → down ≡ replicate n (46 ∷ 46 ∷ []) ++ path.down → 256 < length (slashed ((46 ∷ 46 ∷ []) ∷ down)) → 256 < length (slashed (steps path))
steps-over path n down lt is long =
    omega (arith, length-ups path.up path.down, length-ups n path.down, ap (λ (l : List (List ℕ)). length (slashed l)) is, long)

-- what is made of a text where a test allows it
pub made : (test : List ℕ → Bool) (found : Option (List ℕ)) (text : List ℕ) → (IsSome found ↔ IsTrue (test text)) → IfSome found (λ n. n ≡ text) → found ≡ cond (test text) (Some text) None
made test None text allowed same =
    elim (test text) as (λ b. (IsTrue b → IsTrue false) → None ≡ cond b (Some text) None) [ true ↦ λ h. cc (h refl) | false ↦ λ h. refl ] (λ h. allowed.1 h)
made test (Some n) text allowed same = ap Some same ∙ ap (λ b. cond b (Some text) None) (sym (allowed.0 refl))

-- the name of a path, and its directory, by the text of its segments once the steps up are written
pub name_of-text : (rooted : Bool) (path : Path) (down : List (List ℕ)) (text : List ℕ) → text ≡ text_down rooted down → down ≡ steps path → name_of rooted path ≡ cond (is_name text) (Some text) None
unfolding text_of
name_of-text rooted path down text text_is is = ap (λ (t : List ℕ). cond (is_name t) (Some t) None) (sym (text_is ∙ ap (text_down rooted) is))

pub directory_to-text : (rooted : Bool) (path : Path) (down : List (List ℕ)) (text : List ℕ) → text ≡ text_down rooted down → down ≡ steps path
    → directory_to rooted path ≡ cond (is_directory (directory_text rooted text)) (Some (directory_text rooted text)) None
unfolding text_of
directory_to-text rooted path down text text_is is = ap (λ (t : List ℕ). cond (is_directory (directory_text rooted t)) (Some (directory_text rooted t)) None) (sym (text_is ∙ ap (text_down rooted) is))

slashed_text : (segment text : List ℕ) (down : List (List ℕ)) → All (λ b. eqb b 47 ≡ false) segment → down ≡ drop 1 (segments text) → slashed down ≡ text → segments (segment ++ text) ≡ segment ∷ down
slashed_text segment text [] none is text_is =
    ap (λ (t : List ℕ). segments (segment ++ t)) (sym text_is) ∙ ap segments (append-nil segment) ∙ slice_split_none (λ b. eqb b 47) segment none
slashed_text segment text (d ∷ down) none is text_is =
    ap (λ (t : List ℕ). segments (segment ++ t)) (sym text_is)
    ∙ slice_split_at (λ b. eqb b 47) segment 47 (d ++ slashed down) none refl
    ∙ ap (λ (l : List (List ℕ)). segment ∷ l) (sym (is ∙ ap (λ (t : List ℕ). drop 1 (segments t)) (sym text_is)))

-- a segment that is written before the text is the first one down
pub down-written : (segment text : List ℕ) → All (λ b. eqb b 47 ≡ false) segment → slashed (drop 1 (segments text)) ≡ text → drop 1 (segments (47 ∷ (segment ++ text))) ≡ segment ∷ drop 1 (segments text)
down-written segment text none text_is = slashed_text segment text (drop 1 (segments text)) none refl text_is

pub slashed-written : (segment text : List ℕ) → All (λ b. eqb b 47 ≡ false) segment → slashed (drop 1 (segments text)) ≡ text → slashed (drop 1 (segments (47 ∷ (segment ++ text)))) ≡ 47 ∷ (segment ++ text)
slashed-written segment text none text_is = ap slashed (down-written segment text none text_is) ∙ ap (λ (t : List ℕ). 47 ∷ (segment ++ t)) text_is

-- the end of the array after the segment is copied into it
pub drop-written : (array segment : List ℕ) (place start : ℕ) → place + 1 + length segment ≡ start → start ≤ length array
    → drop place (put_mid (place + 1) (start - (place + 1)) (set array place 47) segment) ≡ 47 ∷ (segment ++ drop start array)
drop-written array segment place start fits within =
    let after = set array place 47 in
    let front : take (place + 1) after ≡ take place array ++ (47 ∷ []) = take_more_set array place 47 (omega arith) in
    let sum : place + 1 + (start - (place + 1)) ≡ start = omega arith in
    let rest : drop (start - (place + 1)) (drop (place + 1) after) ≡ drop start array = drop-drop (start - (place + 1)) (place + 1) after ∙ ap (λ n. drop n after) sum ∙ drop-set-lt start array place 47 (omega arith) in
    let size : length (take place array) ≡ place = omega (arith, length-take place array) in
    let whole : put_mid (place + 1) (start - (place + 1)) after segment ≡ take place array ++ (47 ∷ (segment ++ drop start array)) =
    ap (λ (l : List ℕ). take (place + 1) after ++ (segment ++ l)) rest ∙ ap (λ (l : List ℕ). l ++ (segment ++ drop start array)) front ∙ append_assoc (take place array) (47 ∷ []) (segment ++ drop start array) in
    ap (drop place) whole
    ∙ ap (λ n. drop n (take place array ++ (47 ∷ (segment ++ drop start array)))) (sym size)
    ∙ drop-append_seam (take place array) (47 ∷ (segment ++ drop start array))

-- an operand from the root stands for itself, and another one for what it is in the directory
pub joined-rooted : (directory spelled : List ℕ) → is_rooted spelled ≡ true → joined_path directory spelled ≡ name_of true (led_by_all (segments spelled) here)
unfolding joined_path
joined-rooted directory spelled rooted = ap (λ b. cond b (name_of true (led_by_all (segments spelled) here)) (name_of (is_rooted directory) (led_by_all (segments directory) (led_by_all (segments spelled) here)))) rooted

pub joined-beside : (directory spelled : List ℕ) → is_rooted spelled ≡ false → joined_path directory spelled ≡ name_of (is_rooted directory) (led_by_all (segments directory) (led_by_all (segments spelled) here))
unfolding joined_path
joined-beside directory spelled beside = ap (λ b. cond b (name_of true (led_by_all (segments spelled) here)) (name_of (is_rooted directory) (led_by_all (segments directory) (led_by_all (segments spelled) here)))) beside

-- an operand that is too long makes no name in any directory
pub joined-long : (directory spelled : List ℕ) → 256 < length (slashed (led_by_all (segments spelled) here).down) → joined_path directory spelled ≡ None
unfolding joined_path
joined-long directory spelled long =
    let whole : 256 < length (slashed (led_by_all (segments directory) (led_by_all (segments spelled) here)).down) = omega (arith, led_by_all-longer (segments directory) (led_by_all (segments spelled) here)) in
    elim (is_rooted spelled) as (λ b. cond b (name_of true (led_by_all (segments spelled) here)) (name_of (is_rooted directory) (led_by_all (segments directory) (led_by_all (segments spelled) here))) ≡ None) [
      | true ↦ name_of-long true (led_by_all (segments spelled) here) long
      | false ↦ name_of-long (is_rooted directory) (led_by_all (segments directory) (led_by_all (segments spelled) here)) whole
    ]
