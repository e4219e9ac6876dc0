-- The characters of a literal, one after another.
use Rattle.std.proofs.Common.{◌≡◌, ◌≢◌, ◌∙◌, ◌<◌, ◌≤◌, ◌+◌, ◌++◌, ℕ, zero, suc, nat_eq, Bool, true, false, if◌then◌else◌, List, [], ◌∷◌, append-nil, drop, get_or, length, Option, None, Some, refl, sym, ap, arith}
use Rattle.std.proofs.lemmas.List.{drop_more, drop_all}
use Rattle.std.specs.Option.{option_map}
use Rattle.idl_lex.proofs.CountLemmas.{eq-true, eq-false, counted-suc}
use Rattle.idl_lex.specs.kinds.Literal.{closing, escape, characters, characters_after, character_kind, one_kind, string_kind, all_good}
use Rattle.idl_lex.specs.declared.kinds.kind.TokenKind.TheVariants.{String, WideString, Bad}
use Rattle.idl_lex.specs.declared.kinds.kind.Defect.TheVariants.{NotOneCharacter}

-- the closing quote is sought from a place on
closing-at : (quote : ℕ) (escaped : Bool) (rest : List ℕ) (i : ℕ) → i < length rest
    → closing quote escaped (drop i rest)
    ≡ (if escaped then option_map (λ n. suc n) (closing quote false (drop (i + 1) rest))
    else (if nat_eq (get_or rest i 0) quote then Some 0 else option_map (λ n. suc n) (closing quote (nat_eq (get_or rest i 0) 92) (drop (i + 1) rest))))
unfolding closing
closing-at quote escaped rest i lt = ap (closing quote escaped) (drop_more rest i 0 lt)

closing-escaped : (quote : ℕ) (rest : List ℕ) (i : ℕ) → i < length rest → closing quote true (drop i rest) ≡ option_map (λ n. suc n) (closing quote false (drop (i + 1) rest))
closing-escaped quote rest i lt = closing-at quote true rest i lt

closing-quote : (quote : ℕ) (rest : List ℕ) (i : ℕ) → i < length rest → get_or rest i 0 ≡ quote → closing quote false (drop i rest) ≡ Some 0
closing-quote quote rest i lt e =
    closing-at quote false rest i lt
    ∙ ap (λ c. if c then Some 0 else option_map (λ n. suc n) (closing quote (nat_eq (get_or rest i 0) 92) (drop (i + 1) rest))) (eq-true (get_or rest i 0) quote e)

closing-next : (quote : ℕ) (rest : List ℕ) (i : ℕ) → i < length rest → get_or rest i 0 ≢ quote
    → closing quote false (drop i rest) ≡ option_map (λ n. suc n) (closing quote (nat_eq (get_or rest i 0) 92) (drop (i + 1) rest))
closing-next quote rest i lt ne =
    closing-at quote false rest i lt
    ∙ ap (λ c. if c then Some 0 else option_map (λ n. suc n) (closing quote (nat_eq (get_or rest i 0) 92) (drop (i + 1) rest))) (eq-false (get_or rest i 0) quote ne)

-- and one byte further
pub closing-after-escaped : (quote : ℕ) (before after : Bool) (rest : List ℕ) (i : ℕ) → i < length rest → before ≡ true → after ≡ false
    → option_map (λ n. i + 1 + n) (closing quote after (drop (i + 1) rest)) ≡ option_map (λ n. i + n) (closing quote before (drop i rest))
closing-after-escaped quote before after rest i lt escaped plain =
    ap (λ e. option_map (λ n. i + 1 + n) (closing quote e (drop (i + 1) rest))) plain
    ∙ sym (counted-suc i (closing quote false (drop (i + 1) rest)))
    ∙ sym (ap (option_map (λ n. i + n)) (closing-escaped quote rest i lt))
    ∙ ap (λ e. option_map (λ n. i + n) (closing quote e (drop i rest))) (sym escaped)

pub closing-after-plain : (quote : ℕ) (before after : Bool) (rest : List ℕ) (i : ℕ) → i < length rest → before ≡ false → get_or rest i 0 ≢ quote → after ≡ nat_eq (get_or rest i 0) 92
    → option_map (λ n. i + 1 + n) (closing quote after (drop (i + 1) rest)) ≡ option_map (λ n. i + n) (closing quote before (drop i rest))
closing-after-plain quote before after rest i lt plain ne backslash =
    ap (λ e. option_map (λ n. i + 1 + n) (closing quote e (drop (i + 1) rest))) backslash
    ∙ sym (counted-suc i (closing quote (nat_eq (get_or rest i 0) 92) (drop (i + 1) rest)))
    ∙ sym (ap (option_map (λ n. i + n)) (closing-next quote rest i lt ne))
    ∙ ap (λ e. option_map (λ n. i + n) (closing quote e (drop i rest))) (sym plain)

pub closing-found : (quote : ℕ) (before : Bool) (rest : List ℕ) (i : ℕ) → i < length rest → before ≡ false → get_or rest i 0 ≡ quote
    → option_map (λ n. i + n) (closing quote before (drop i rest)) ≡ Some i
closing-found quote before rest i lt plain e =
    ap (λ x. option_map (λ n. i + n) (closing quote x (drop i rest))) plain
    ∙ ap (option_map (λ n. i + n)) (closing-quote quote rest i lt e)
    ∙ (let same : i + 0 ≡ i = omega arith in ap (λ n. Some n) same)

pub closing-end : (quote : ℕ) (escaped : Bool) (rest : List ℕ) (i : ℕ) → length rest ≤ i → closing quote escaped (drop i rest) ≡ None
unfolding closing
closing-end quote escaped rest i le = ap (closing quote escaped) (drop_all i rest le)

characters_after-drop : (wide : Bool) (n : ℕ) (bytes : List ℕ) → characters_after wide n bytes ≡ characters wide (drop n bytes)
unfolding characters
characters_after-drop wide zero bytes = refl
characters_after-drop wide (suc n) [] = refl
characters_after-drop wide (suc n) (b ∷ bytes) = characters_after-drop wide n bytes

-- the first character, by its first byte
pub first-escape : (wide : Bool) (bytes : List ℕ) (b : ℕ) (rest : List ℕ) → bytes ≡ b ∷ rest → b ≡ 92
    → characters wide bytes ≡ (escape wide rest).0 ∷ characters wide (drop (1 + (escape wide rest).1) bytes)
unfolding characters
first-escape wide bytes b rest e backslash =
    let n = (escape wide rest).1 in
    let more : 1 + n ≡ suc n = omega arith in
    ap (characters wide) e
    ∙ ap (λ c. if c then (escape wide rest).0 ∷ characters_after wide n rest else Some b ∷ characters_after wide 0 rest) (eq-true b 92 backslash)
    ∙ ap (λ cs. (escape wide rest).0 ∷ cs) (characters_after-drop wide n rest)
    ∙ ap (λ k. (escape wide rest).0 ∷ characters wide (drop k (b ∷ rest))) (sym more)
    ∙ ap (λ bs. (escape wide rest).0 ∷ characters wide (drop (1 + n) bs)) (sym e)

pub first-plain : (wide : Bool) (bytes : List ℕ) (b : ℕ) (rest : List ℕ) → bytes ≡ b ∷ rest → b ≢ 92 → characters wide bytes ≡ Some b ∷ characters wide (drop 1 bytes)
unfolding characters
first-plain wide bytes b rest e other =
    ap (characters wide) e
    ∙ ap (λ c. if c then (escape wide rest).0 ∷ characters_after wide (escape wide rest).1 rest else Some b ∷ characters_after wide 0 rest) (eq-false b 92 other)
    ∙ ap (λ bs. Some b ∷ characters wide (drop 1 bs)) (sym e)

-- no character
pub characters-nil : (wide : Bool) (bytes : List ℕ) → bytes ≡ [] → characters wide bytes ≡ []
unfolding characters
characters-nil wide bytes e = ap (characters wide) e

pub character_kind-one : (wide : Bool) (body : List ℕ) (c : Option ℕ) (n : ℕ) → characters wide body ≡ c ∷ characters wide (drop n body) → n ≡ length body
    → character_kind wide (characters wide body) ≡ one_kind wide c
character_kind-one wide body c n first whole =
    ap (character_kind wide) (first ∙ ap (λ cs. c ∷ cs) (characters-nil wide (drop n body) (drop_all n body (omega (arith, whole)))))

two-cases : (backslash wide : Bool) (c d e : Option ℕ) (cs ds : List (Option ℕ)) → character_kind wide (c ∷ (if backslash then d ∷ cs else e ∷ ds)) ≡ Bad NotOneCharacter
two-cases true wide c d e cs ds = refl
two-cases false wide c d e cs ds = refl

two-characters : (wide : Bool) (c : Option ℕ) (bytes : List ℕ) → 0 < length bytes → character_kind wide (c ∷ characters wide bytes) ≡ Bad NotOneCharacter
unfolding characters
two-characters wide c [] some = absurd (omega arith)
two-characters wide c (b ∷ rest) some = two-cases (nat_eq b 92) wide c _ _ _ _

pub character_kind-many : (wide : Bool) (body : List ℕ) (c : Option ℕ) (n : ℕ) → characters wide body ≡ c ∷ characters wide (drop n body) → 0 < length (drop n body)
    → character_kind wide (characters wide body) ≡ Bad NotOneCharacter
character_kind-many wide body c n first more = ap (character_kind wide) first ∙ two-characters wide c (drop n body) more

-- a literal without characters
pub character_kind-none : (wide : Bool) (body : List ℕ) → body ≡ [] → character_kind wide (characters wide body) ≡ Bad NotOneCharacter
character_kind-none wide body e = ap (character_kind wide) (characters-nil wide body e)

-- a string's characters
pub string_kind-end : (wide : Bool) (left : List ℕ) → left ≡ [] → string_kind wide (characters wide left) ≡ (if wide then WideString else String)
string_kind-end wide left e = ap (string_kind wide) (characters-nil wide left e)

-- the values read so far, and those to come
abbrev pub values_then : List ℕ → List (Option ℕ) → Option (List ℕ)
values_then read cs = option_map (λ values. read ++ values) (all_good cs)

pub values_then-end : (wide : Bool) (read left : List ℕ) → left ≡ [] → values_then read (characters wide left) ≡ Some read
values_then-end wide read left e = ap (values_then read) (characters-nil wide left e) ∙ ap Some (append-nil read)
