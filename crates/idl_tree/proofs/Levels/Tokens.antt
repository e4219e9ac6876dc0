-- Tokens and names.
use Rattle.std.proofs.Common.{◌≡◌, ℕ, Bool, true, List, [], ◌∷◌, Option, Some, None, is_some, Ok, refl, ap, subst, arith}
use Rattle.idl_lex.specs.declared.kinds.keyword.Keyword.{Keyword}
use Rattle.idl_lex.specs.declared.kinds.mark.Mark.{Mark}
use Rattle.idl_lex.specs.declared.kinds.mark.Mark.TheVariants.{ColonColon}
use Rattle.idl_tree.specs.Lexeme.{Lexeme, Punctuation, Identifier}
use Rattle.idl_tree.specs.reading.Levels.{Side, Neither, side_of}
use Rattle.idl_tree.specs.reading.ReadName.{part_at, parts_at, name_at}
use Rattle.idl_tree.specs.reading.Reading.{Reader, ◌>>=◌, first}
use Rattle.idl_tree.specs.reading.Tests.{is_mark, is_word, by_word, pick, picked, identifier_of, identifier_at}
use Rattle.idl_tree.specs.declared.name.ScopedName.{ScopedName}
use Rattle.idl_tree.proofs.Laws.{ok_is}
use Rattle.idl_tree.proofs.Levels.Alike.{Within, within_neither, Alike, after, done, valued, Passes, only_passes, beside, passing, many}
use Rattle.idl_tree.proofs.Readers.TokenLaws.{only_mark, only_word, Picked, is_there, is_not, picked_cases}

pub mark_passes : (m : Mark) (side : Side) → side_of (Punctuation m) ≡ side → Passes (is_mark m) side
mark_passes m side is = only_passes is (only_mark m)

pub word_passes : (k : Keyword) → Passes (is_word k) Neither
word_passes k = only_passes refl (only_word k)

-- what is picked is no bracket
pub record PicksBeside {A : Type 0} (f : Option Lexeme → Option A) : Type 0 where
  pub wanted : f None ≡ None
  pub side : (t : Lexeme) (a : A) → f (Some t) ≡ Some a → side_of t ≡ Neither

pub picks : (b : ℕ) {A : Type 0} {f : Option Lexeme → Option A} → PicksBeside f → Alike b b (pick f) (pick f)
picks b {A} {f} is = record { same = λ c ts less w. refl; keeps = λ c d ts x rest less levels w h. subst (λ (n : ℕ). Within n rest) (omega (arith, levels)) (keeps c ts x rest w (picked_cases (f (first ts))) h) }
  where
    keeps : (c : ℕ) (ts : List Lexeme) (x : A) (rest : List Lexeme) → Within c ts → Picked (f (first ts)) → pick f ts ≡ Ok (x, rest) → Within c rest
    keeps c ts x rest w (is_not h) e = absurd (let g = rw h at e in cc)
    keeps c [] x rest w (is_there a h) e = absurd (let g = rw is.wanted at h in cc)
    keeps c (t ∷ ts) x rest w (is_there a h) e =
        let rest-is : ts ≡ rest = ap (λ (p : A × List Lexeme). p.1) (ok_is (a, ts) (x, rest) (let g = rw h at e in g)) in
        subst (Within c) rest-is (within_neither c t ts (is.side t a h) w)

pub some_beside : {A : Type 0} {f : Option Lexeme → Option A} → PicksBeside f → (t : Lexeme) → is_some (f (Some t)) ≡ true → side_of t ≡ Neither
some_beside {A} {f} is t h = elim (picked_cases (f (Some t))) [ is_there a e ↦ is.side t a e | is_not e ↦ absurd (let g = rw e at h in cc) ]

pub identifier_picks : PicksBeside identifier_of
identifier_picks = record { wanted = refl; side = side }
  where
    side : (t : Lexeme) (a : List ℕ) → identifier_of (Some t) ≡ Some a → side_of t ≡ Neither
    side (Identifier s) a h = refl
    side _ a h = absurd cc

pub identifiers : (b : ℕ) → Alike b b identifier_at identifier_at
identifiers b = picks b identifier_picks

pub by_words : (b : ℕ) {A : Type 0} (k : Keyword) (a : A) → Alike b b (by_word k a) (by_word k a)
by_words b k a = beside b b (word_passes k) (done b a)

-- ---- names

parts : (b : ℕ) → Alike b b part_at part_at
unfolding part_at
parts b = beside b b (mark_passes ColonColon Neither refl) (identifiers b)

all_parts : (b : ℕ) → Alike b b parts_at parts_at
unfolding parts_at
all_parts b = many b (is_mark ColonColon) (parts b)

abbrev named : Bool → Reader ScopedName
named is_global ts = identifier_at ts >>= λ name. parts_at name.1 >>= λ parts. Ok (record { is_global = is_global; first = name.0; rest = parts.0 }, parts.1)

pub names : (b : ℕ) → Alike b b name_at name_at
unfolding name_at
names b = passing b b (is_mark ColonColon) (λ x. x) {f = named} {g = named} (mark_passes ColonColon Neither refl).some
    (λ is_global. after b b _ _ (identifiers b) (λ name. valued b (λ (parts : List (List ℕ)). record { is_global = is_global; first = name; rest = parts }) (all_parts b)))
