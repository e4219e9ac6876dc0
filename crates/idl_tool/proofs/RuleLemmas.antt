-- Rules that are written and read.
use Rattle.std.proofs.Common.{◌≡◌, ◌∙◌, ℕ, ◌-◌, List, [], ◌∷◌, ◌++◌, All, Bool, true, false, cond, not, ◌&&◌, refl, sym, ap, append_assoc, arith, codes, flat_map, length, length-append, nat_eq, subst, take, IsTrue}
use Rattle.std.specs.List.{list_all, slice_split}
use Rattle.std.specs.Str.{bytes_eq}
use Rattle.std.specs.Cmp.Lexicographic.{bytes_decides}
use Rattle.std.proofs.lemmas.Bool.{eqb-true}
use Rattle.std.proofs.lemmas.List.{append-nil, take-append-le, take_all}
use Rattle.std.proofs.lemmas.List.Elements.{All-append, All-cons, All-from_recursion, All-head, All-nil, All-tail}
use Rattle.std.proofs.lemmas.List.Splits.{slice_split_at, slice_split_none}
use Rattle.std.proofs.lemmas.List.Sums.{AllPass-from_list_all}
use Rattle.idl_source.specs.texts.Cut.{begun_with, cut_lines}
use Rattle.idl_tool.specs.make_rules.Make.{IsMakeRule, IfThere, Need, Rule, There, escaped, escaped_byte, is_home, is_make_byte, is_make_name, is_special, name_in, name_read, need_text, needs_read, rule_of, rule_read, rule_text, rules_read, rules_text, target_byte, target_text, without_last}

-- the byte is no other one
abbrev Isnt : ℕ → ℕ → Type 0
Isnt x b = nat_eq b x ≡ false

-- a byte that make takes
abbrev IsTaken : ℕ → Type 0
IsTaken b = is_make_byte b ≡ true

-- make takes each byte of a name that it can read
pub taken : (name : List ℕ) → IsTrue (is_make_name name) → All IsTaken name
taken name is = by (is_home name) (list_all is_make_byte name) (is_special name) refl is
  where
    by : (home bytes special : Bool) → list_all is_make_byte name ≡ bytes → not home && (bytes && not special) ≡ true → All IsTaken name
    by true bytes special e h = absurd (cc)
    by false false special e h = absurd (cc)
    by false true special e h = AllPass-from_list_all is_make_byte name e

-- a byte that make doesn't take is none that it takes
isnt : (x b : ℕ) → is_make_byte x ≡ false → IsTaken b → Isnt x b
isnt x b not_taken is_taken = by (nat_eq b x) refl
  where
    by : (t : Bool) → nat_eq b x ≡ t → Isnt x b
    by false e = e
    by true e = let same = ap is_make_byte (eqb-true b x e) in absurd (cc)

-- it isn't in a byte that is written, but for a backslash
escaped_byte-isnt : (x b : ℕ) → is_make_byte x ≡ false → nat_eq 92 x ≡ false → IsTaken b → All (Isnt x) (escaped_byte b)
escaped_byte-isnt x b not_taken no_mark is_taken = by (nat_eq b 36) (nat_eq b 35)
  where
    P : ℕ → Type 0
    P = Isnt x

    by : (dollar hash : Bool) → All (Isnt x) (cond dollar (codes "$$") (cond hash (codes "\\#") (b ∷ [])))
    by true hash = All-cons P 36 (36 ∷ []) (isnt x 36 not_taken refl) (All-cons P 36 [] (isnt x 36 not_taken refl) (All-nil P))
    by false true = All-cons P 92 (35 ∷ []) no_mark (All-cons P 35 [] (isnt x 35 not_taken refl) (All-nil P))
    by false false = All-cons P b [] (isnt x b not_taken is_taken) (All-nil P)

target_byte-isnt : (x b : ℕ) → is_make_byte x ≡ false → nat_eq 92 x ≡ false → IsTaken b → All (Isnt x) (target_byte b)
target_byte-isnt x b not_taken no_mark is_taken = by (nat_eq b 37)
  where
    P : ℕ → Type 0
    P = Isnt x

    by : (percent : Bool) → All (Isnt x) (cond percent (92 ∷ escaped_byte b) (escaped_byte b))
    by true = All-cons P 92 (escaped_byte b) no_mark (escaped_byte-isnt x b not_taken no_mark is_taken)
    by false = escaped_byte-isnt x b not_taken no_mark is_taken

-- nor in a name that is written
written-isnt : (x : ℕ) (f : ℕ → List ℕ) → ((b : ℕ) → IsTaken b → All (Isnt x) (f b)) → (name : List ℕ) → All IsTaken name → All (Isnt x) (flat_map f name)
written-isnt x f each [] are = All-nil (Isnt x)
written-isnt x f each (b ∷ name) are =
    All-append (Isnt x) (f b) (flat_map f name) (each b (All-head IsTaken b name are)) (written-isnt x f each name (All-tail IsTaken b name are))

pub escaped-isnt : (x : ℕ) → is_make_byte x ≡ false → nat_eq 92 x ≡ false → (name : List ℕ) → All IsTaken name → All (Isnt x) (escaped name)
escaped-isnt x not_taken no_mark name are = written-isnt x escaped_byte (λ b is. escaped_byte-isnt x b not_taken no_mark is) name are

pub target-isnt : (x : ℕ) → is_make_byte x ≡ false → nat_eq 92 x ≡ false → (name : List ℕ) → All IsTaken name → All (Isnt x) (flat_map target_byte name)
target-isnt x not_taken no_mark name are = written-isnt x target_byte (λ b is. target_byte-isnt x b not_taken no_mark is) name are

-- ---- names

-- a byte that is written is read, and what stands behind it then
escaped_byte-read : (b : ℕ) (rest : List ℕ) → IsTaken b → name_read false (escaped_byte b ++ rest) ≡ b ∷ name_read false rest
escaped_byte-read b rest is_taken = by (nat_eq b 36) (nat_eq b 35) refl refl
  where
    by : (dollar hash : Bool) → nat_eq b 36 ≡ dollar → nat_eq b 35 ≡ hash
        → name_read false (cond dollar (codes "$$") (cond hash (codes "\\#") (b ∷ [])) ++ rest) ≡ b ∷ name_read false rest
    by true hash d h = ap (λ c. c ∷ name_read false rest) (sym (eqb-true b 36 d))
    by false true d h = ap (λ c. c ∷ name_read false rest) (sym (eqb-true b 35 h))
    by false false d h =
        let back : nat_eq b 92 ≡ false = isnt 92 b refl is_taken in
        rw (d, back) refl

target_byte-read : (b : ℕ) (rest : List ℕ) → IsTaken b → name_read false (target_byte b ++ rest) ≡ b ∷ name_read false rest
target_byte-read b rest is_taken = by (nat_eq b 37) refl
  where
    by : (percent : Bool) → nat_eq b 37 ≡ percent
        → name_read false (cond percent (92 ∷ escaped_byte b) (escaped_byte b) ++ rest) ≡ b ∷ name_read false rest
    by false e = escaped_byte-read b rest is_taken
    by true e = let same = eqb-true b 37 e in rw (same) refl

read-back : (f : ℕ → List ℕ) → ((b : ℕ) (rest : List ℕ) → IsTaken b → name_read false (f b ++ rest) ≡ b ∷ name_read false rest)
    → (name : List ℕ) → All IsTaken name → name_read false (flat_map f name) ≡ name
read-back f each [] are = refl
read-back f each (b ∷ name) are =
    each b (flat_map f name) (All-head IsTaken b name are) ∙ ap (λ n. b ∷ n) (read-back f each name (All-tail IsTaken b name are))

pub escaped-read : (name : List ℕ) → All IsTaken name → name_read false (escaped name) ≡ name
escaped-read name are = read-back escaped_byte escaped_byte-read name are

pub target-read : (name : List ℕ) → All IsTaken name → name_read false (flat_map target_byte name) ≡ name
target-read name are = read-back target_byte target_byte-read name are

pub without_last-push : (text : List ℕ) (b : ℕ) → without_last (text ++ b ∷ []) ≡ text
without_last-push text b =
    let long = length-append text (b ∷ []) in
    let less : length (text ++ b ∷ []) - 1 ≡ length text = omega (arith, long) in
    ap (λ n. take n (text ++ b ∷ [])) less ∙ take-append-le (length text) text (b ∷ []) (omega arith) ∙ take_all (length text) text (omega arith)

-- ---- needs

-- the words of needs
abbrev words_of : List Need → List (List ℕ)
words_of [] = []
words_of (There name ∷ needs) = escaped name ∷ words_of needs
words_of (IfThere name ∷ needs) = codes "$(wildcard" ∷ (escaped name ++ 41 ∷ []) ∷ words_of needs

abbrev IsReadable : Need → Type 0
IsReadable need = IsTrue (is_make_name (name_in need))

-- a line of text without a blank and then needs is that text and their words
split-needs : (front : List ℕ) (needs : List Need) → All (Isnt 32) front → All IsReadable needs
    → slice_split (λ b. nat_eq b 32) (front ++ flat_map need_text needs) ≡ front ∷ words_of needs
split-needs front [] whole are =
    ap (slice_split (λ b. nat_eq b 32)) (append-nil front) ∙ slice_split_none (λ b. nat_eq b 32) front whole
split-needs front (There name ∷ needs) whole are =
    let is : IsTrue (is_make_name name) = All-head IsReadable (There name) needs are in
    let name_whole = escaped-isnt 32 refl refl name (taken name is) in
    slice_split_at (λ b. nat_eq b 32) front 32 (escaped name ++ flat_map need_text needs) whole refl
    ∙ ap (λ words. front ∷ words) (split-needs (escaped name) needs name_whole (All-tail IsReadable (There name) needs are))
split-needs front (IfThere name ∷ needs) whole are =
    let is : IsTrue (is_make_name name) = All-head IsReadable (IfThere name) needs are in
    let last = All-append (Isnt 32) (escaped name) (41 ∷ []) (escaped-isnt 32 refl refl name (taken name is)) (All-cons (Isnt 32) 41 [] refl (All-nil (Isnt 32))) in
    let rest = flat_map need_text needs in
    let behind = escaped name ++ 41 ∷ rest in
    let same : (escaped name ++ 41 ∷ []) ++ rest ≡ behind = append_assoc (escaped name) (41 ∷ []) rest in
    let text : need_text (IfThere name) ++ rest ≡ 32 ∷ (codes "$(wildcard" ++ 32 ∷ behind) = append_assoc (codes " $(wildcard ") (escaped name ++ 41 ∷ []) rest ∙ ap (λ t. codes " $(wildcard " ++ t) same in
    let word : All (Isnt 32) (codes "$(wildcard") = All-from_recursion (Isnt 32) (codes "$(wildcard") (refl, (refl, (refl, (refl, (refl, (refl, (refl, (refl, (refl, (refl, tt)))))))))) in
    ap (λ t. slice_split (λ b. nat_eq b 32) (front ++ t)) text
    ∙ slice_split_at (λ b. nat_eq b 32) front 32 (codes "$(wildcard" ++ 32 ∷ behind) whole refl
    ∙ ap (λ words. front ∷ words) (slice_split_at (λ b. nat_eq b 32) (codes "$(wildcard") 32 behind word refl
    ∙ ap (λ words. codes "$(wildcard" ∷ words) (ap (slice_split (λ b. nat_eq b 32)) (sym same) ∙ split-needs (escaped name ++ 41 ∷ []) needs last (All-tail IsReadable (IfThere name) needs are)))

-- no name is written as what begins a wildcard
not-wildcard : (name : List ℕ) → All IsTaken name → bytes_eq (escaped name) (codes "$(wildcard") ≡ false
not-wildcard name are = by (bytes_eq (escaped name) (codes "$(wildcard")) refl
  where
    P : ℕ → Type 0
    P = Isnt 40

    by : (t : Bool) → bytes_eq (escaped name) (codes "$(wildcard") ≡ t → t ≡ false
    by false e = refl
    by true e =
        let same : escaped name ≡ codes "$(wildcard" = (bytes_decides (escaped name) (codes "$(wildcard")).0 e in
        let whole : All P (codes "$(wildcard") = subst (All P) same (escaped-isnt 40 refl refl name are) in
        let bad : true ≡ false = All-head P 40 (codes "wildcard") (All-tail P 36 (40 ∷ codes "wildcard") whole) in
        absurd (cc)

needs_read-words : (needs : List Need) → All IsReadable needs → needs_read false (words_of needs) ≡ needs
needs_read-words [] are = refl
needs_read-words (There name ∷ needs) are =
    let is = taken name (All-head IsReadable (There name) needs are) in
    let rest = needs_read-words needs (All-tail IsReadable (There name) needs are) in
    rw (not-wildcard name is) (ap (λ n. There n ∷ needs_read false (words_of needs)) (escaped-read name is) ∙ ap (λ ns. There name ∷ ns) rest)
needs_read-words (IfThere name ∷ needs) are =
    let is = taken name (All-head IsReadable (IfThere name) needs are) in
    let rest = needs_read-words needs (All-tail IsReadable (IfThere name) needs are) in
    ap (λ t. IfThere (name_read false t) ∷ needs_read false (words_of needs)) (without_last-push (escaped name) 41)
    ∙ ap (λ n. IfThere n ∷ needs_read false (words_of needs)) (escaped-read name is) ∙ ap (λ ns. IfThere name ∷ ns) rest

-- ---- rules

pub rule-read : (rule : Rule) → IsMakeRule rule → rule_read (rule_text rule) ≡ rule ∷ []
rule-read rule is =
    let target = taken rule.target is.target in
    let written = flat_map target_byte rule.target in
    let whole = All-append (Isnt 32) written (58 ∷ []) (target-isnt 32 refl refl rule.target target) (All-cons (Isnt 32) 58 [] refl (All-nil (Isnt 32))) in
    let read : name_read false (without_last (written ++ 58 ∷ [])) ≡ rule.target = ap (name_read false) (without_last-push written 58) ∙ target-read rule.target target in
    ap rule_of (split-needs (target_text rule.target) rule.needs whole is.needs)
    ∙ ap (λ t. record { target = t; needs = needs_read false (words_of rule.needs) } ∷ []) read
    ∙ ap (λ ns. record { target = rule.target; needs = ns } ∷ []) (needs_read-words rule.needs is.needs)

-- a byte that make doesn't take, and that no rule has, isn't in its needs
needs-isnt : (x : ℕ) → is_make_byte x ≡ false → nat_eq 92 x ≡ false → Isnt x 32 → Isnt x 41 → All (Isnt x) (codes " $(wildcard ")
    → (needs : List Need) → All IsReadable needs → All (Isnt x) (flat_map need_text needs)
needs-isnt x not_taken no_mark blank close wildcard [] are = All-nil (Isnt x)
needs-isnt x not_taken no_mark blank close wildcard (There name ∷ needs) are =
    let is = taken name (All-head IsReadable (There name) needs are) in
    All-append (Isnt x) (32 ∷ escaped name) (flat_map need_text needs) (All-cons (Isnt x) 32 (escaped name) blank (escaped-isnt x not_taken no_mark name is))
    (needs-isnt x not_taken no_mark blank close wildcard needs (All-tail IsReadable (There name) needs are))
needs-isnt x not_taken no_mark blank close wildcard (IfThere name ∷ needs) are =
    let is = taken name (All-head IsReadable (IfThere name) needs are) in
    let last = All-append (Isnt x) (escaped name) (41 ∷ []) (escaped-isnt x not_taken no_mark name is) (All-cons (Isnt x) 41 [] close (All-nil (Isnt x))) in
    All-append (Isnt x) (need_text (IfThere name)) (flat_map need_text needs) (All-append (Isnt x) (codes " $(wildcard ") (escaped name ++ 41 ∷ []) wildcard last)
    (needs-isnt x not_taken no_mark blank close wildcard needs (All-tail IsReadable (IfThere name) needs are))

-- nor in the rule
rule-isnt : (x : ℕ) → is_make_byte x ≡ false → nat_eq 92 x ≡ false → Isnt x 32 → Isnt x 41 → Isnt x 58 → All (Isnt x) (codes " $(wildcard ")
    → (rule : Rule) → IsMakeRule rule → All (Isnt x) (rule_text rule)
rule-isnt x not_taken no_mark blank close colon wildcard rule is =
    All-append (Isnt x) (target_text rule.target) (flat_map need_text rule.needs)
    (All-append (Isnt x) (flat_map target_byte rule.target) (58 ∷ []) (target-isnt x not_taken no_mark rule.target (taken rule.target is.target)) (All-cons (Isnt x) 58 [] colon (All-nil (Isnt x))))
    (needs-isnt x not_taken no_mark blank close wildcard rule.needs is.needs)

-- a line with its end is cut off
cut-line : (line rest : List ℕ) → All (Isnt 10) line → All (Isnt 13) line → cut_lines (line ++ 10 ∷ rest) ≡ line ∷ cut_lines rest
cut-line [] rest no_end no_return = refl
cut-line (b ∷ line) rest no_end no_return =
    rw (All-head (Isnt 10) b line no_end, All-head (Isnt 13) b line no_return)
    (ap (begun_with b) (cut-line line rest (All-tail (Isnt 10) b line no_end) (All-tail (Isnt 13) b line no_return)))

pub rules-read : (rules : List Rule) → All IsMakeRule rules → rules_read (rules_text rules) ≡ rules
rules-read [] are = refl
rules-read (rule ∷ rules) are =
    let is : IsMakeRule rule = All-head IsMakeRule rule rules are in
    let rest = rules_text rules in
    let text = rule_text rule in
    let no_end = rule-isnt 10 refl refl refl refl refl (All-from_recursion (Isnt 10) (codes " $(wildcard ") (refl, (refl, (refl, (refl, (refl, (refl, (refl, (refl, (refl, (refl, (refl, (refl, tt))))))))))))) rule is in
    let no_return = rule-isnt 13 refl refl refl refl refl (All-from_recursion (Isnt 13) (codes " $(wildcard ") (refl, (refl, (refl, (refl, (refl, (refl, (refl, (refl, (refl, (refl, (refl, (refl, tt))))))))))))) rule is in
    ap (flat_map rule_read) (ap cut_lines (append_assoc text (10 ∷ []) rest) ∙ cut-line text rest no_end no_return)
    ∙ ap (λ rs. rs ++ rules_read rest) (rule-read rule is) ∙ ap (λ rs. rule ∷ rs) (rules-read rules (All-tail IsMakeRule rule rules are))
