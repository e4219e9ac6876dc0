-- The parts of names in pragmas.
use Rattle.std.proofs.Common.{◌≡◌, ◌∙◌, ℕ, ◌<◌, ◌≤◌, ◌-◌, true, List, take, drop, get_or, [], ◌∷◌, ◌++◌, length, Option, None, Some, refl, ap, sym, arith, append_assoc}
use Rattle.std.specs.Option.{option_map}
use Rattle.idl_lex.specs.kinds.Kind.{kind_of}
use Rattle.idl_lex.specs.tokens.Tokens.{Token}
use Rattle.idl_tree.specs.Pragma.{further_parts, is_separator, part_of, pragma_of, with_part}
use Rattle.std.proofs.lemmas.List.{take_rest}

abbrev pub Parts : Type 0
Parts = Option (List (List ℕ) × Token)

-- what was read behind these parts
abbrev pub behind_parts : List (List ℕ) → Parts → Parts
behind_parts parts read = option_map (λ r. (parts ++ r.0, r.1)) read

pub part_more : (parts : List (List ℕ)) (part : List ℕ) (read : Parts)
    → behind_parts parts (with_part (Some part) read) ≡ behind_parts (parts ++ part ∷ []) read
part_more parts part None = refl
part_more parts part (Some r) = ap (λ ps. Some (ps, r.1)) (sym (append_assoc parts (part ∷ []) r.0))

-- less than two tokens are no pragma
pub short_none : (tokens : List Token) → length tokens < 2 → pragma_of tokens ≡ None
short_none [] lt = refl
short_none (t ∷ []) lt = refl
short_none (t ∷ u ∷ rest) lt = absurd (omega arith)

part_known : (parts : List (List ℕ)) (tokens : List Token) (part : List ℕ) (a b : Token) → 2 ≤ length tokens
    → is_separator (kind_of (get_or tokens 0 a)) ≡ true → part_of (get_or tokens 1 b) ≡ Some part
    → behind_parts parts (further_parts tokens) ≡ behind_parts (parts ++ part ∷ []) (further_parts (drop 2 tokens))
part_known parts [] part a b le is e = absurd (omega arith)
part_known parts (t ∷ []) part a b le is e = absurd (omega arith)
part_known parts (t ∷ u ∷ rest) part a b le is e = rw (is, e) (part_more parts part (further_parts rest))

-- the first two of tokens are a further part
pub part_taken : (parts more : List (List ℕ)) (tokens : List Token) (part : List ℕ) (a b : Token) → 2 ≤ length tokens
    → is_separator (kind_of (get_or tokens 0 a)) ≡ true → part_of (get_or tokens 1 b) ≡ Some part → more ≡ parts ++ part ∷ []
    → behind_parts parts (further_parts tokens) ≡ behind_parts more (further_parts (take (length tokens - 2) (drop 2 tokens)))
part_taken parts more tokens part a b le is e grown =
    part_known parts tokens part a b le is e
    ∙ ap (λ ts. behind_parts (parts ++ part ∷ []) (further_parts ts)) (sym (take_rest tokens 2))
    ∙ ap (λ ps. behind_parts ps (further_parts (take (length tokens - 2) (drop 2 tokens)))) (sym grown)
