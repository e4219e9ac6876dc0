-- What holds of the reader of scoped names.
use Rattle.std.proofs.Common.{◌≡◌, ℕ, suc, Bool, true, false, cond, List, [], ◌∷◌, ◌++◌, flat_map, length, drop, Ok, Err, refl, ap, arith}
use Rattle.idl_lex.specs.declared.kinds.mark.Mark.TheVariants.{ColonColon}
use Rattle.idl_tree.specs.Lexeme.{Lexemes, Punctuation, Identifier}
use Rattle.idl_tree.specs.Name.{spell_name}
use Rattle.idl_tree.specs.reading.ReadName.{part_at, parts_at, name_at}
use Rattle.idl_tree.specs.reading.Reading.{Reader, ◌>>=◌, first}
use Rattle.idl_tree.specs.reading.Tests.{is_mark, identifier_at}
use Rattle.idl_tree.specs.declared.name.ScopedName.{ScopedName}
use Rattle.idl_tree.proofs.Laws.{ok, Laws, same, either_spells, next_at, mapped_at, then_laws, last_laws, skip_laws, choice_laws, shape}
use Rattle.idl_tree.proofs.Many.{many_spell, many_laws}
use Rattle.idl_tree.proofs.Readers.TokenLaws.{only_mark, one_token, identifier_laws}

pub flat_map-many : {A : Type 0} (f : A → Lexemes) (xs : List A) → flat_map f xs ≡ many_spell f xs
flat_map-many f [] = refl
flat_map-many f (x ∷ xs) = ap (λ (w : Lexemes). f x ++ w) (flat_map-many f xs)

abbrev pub spell_part : List ℕ → Lexemes
spell_part part = Punctuation ColonColon ∷ Identifier part ∷ []

part_laws : (d N : ℕ) → Laws d N same spell_part (λ n. part_at)
unfolding part_at
part_laws d N = skip_laws d N (is_mark ColonColon) (Punctuation ColonColon) same (one_token Identifier) (λ n. identifier_at) (only_mark ColonColon) (identifier_laws (suc d) N)

parts_laws : (d N : ℕ) → Laws d N same (many_spell spell_part) (λ n. parts_at)
unfolding parts_at
parts_laws d N = many_laws d N (is_mark ColonColon) spell_part (λ n. part_at) (λ a. omega arith) (part_laws d N)

abbrev pub named : Bool → List ℕ → List (List ℕ) → ScopedName
named b s ss = record { is_global = b; first = s; rest = ss }

abbrev name_parts : Type 0
name_parts = List ℕ × List (List ℕ)

abbrev named_pair : Bool → name_parts → ScopedName
named_pair b p = named b p.0 p.1

abbrev spell_tail : name_parts → Lexemes
spell_tail p = one_token Identifier p.0 ++ many_spell spell_part p.1

-- what follows the leading mark
abbrev tail_at : Bool → ℕ → Reader ScopedName
tail_at b = next_at (λ n. identifier_at) (λ s. mapped_at (named b s) (λ n. parts_at))

tail_laws : (d N : ℕ) (b : Bool) → Laws d N (named_pair b) spell_tail (tail_at b)
tail_laws d N b = then_laws d N (one_token Identifier) (λ n. identifier_at) (named b) (many_spell spell_part) (λ s. mapped_at (named b s) (λ n. parts_at)) (identifier_laws d N)
    (λ s. last_laws d N (named b s) (many_spell spell_part) (λ n. parts_at) (parts_laws d N))

pub name_laws : (d N : ℕ) → Laws d N same spell_name (λ n. name_at)
unfolding name_at
name_laws d N = shape d N _ _ spell_name _ (λ n. name_at)
    (either_spells spell_name (named_pair true) (λ p. Punctuation ColonColon ∷ spell_tail p) (named_pair false) spell_tail
    (λ p. ap (λ (w : Lexemes). Punctuation ColonColon ∷ Identifier p.0 ∷ w) (flat_map-many spell_part p.1))
    (λ p. ap (λ (w : Lexemes). Identifier p.0 ∷ w) (flat_map-many spell_part p.1)))
    (λ n ts. reads (is_mark ColonColon (first ts)) ts (length ts))
    (choice_laws d N (is_mark ColonColon) _ _ _ _ _ _
    (skip_laws d N (is_mark ColonColon) (Punctuation ColonColon) (named_pair true) spell_tail (tail_at true) (only_mark ColonColon) (tail_laws (suc d) N true))
    (tail_laws d N false))
  where
    reads : (b : Bool) (ts : Lexemes) (l : ℕ) → (identifier_at (cond b (drop 1 ts) ts) >>= λ x. parts_at x.1 >>= λ y. Ok (named b x.0 y.0, y.1)) ≡ cond b (cond b (ok (drop 1 ts)) (Err l) >>= λ rest. tail_at true 0 rest) (tail_at false 0 ts)
    reads true ts l = refl
    reads false ts l = refl
