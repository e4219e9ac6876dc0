-- Texts in which ids stand: each id is asked where it is told.
use Rattle.std.specs.Prelude.{◌≡◌, ℕ, List, [], ◌∷◌, ◌++◌, codes, flat_map, Option}
use Rattle.idl_memo.specs.Query.{Done, and_then, asked, noted_all, outcome, run}
use Rattle.idl_repo.specs.declared.piece.AnsweredId.{AnsweredId}
use Rattle.idl_repo.specs.declared.row_writer.RowWriter.{RowWriter}
use Rattle.std.specs.Option.{option_copied}
use Rattle.idl_env.specs.Facts.{UnitFacts, answers, id_at}
use Rattle.idl_env.specs.keys.Key.{key_eq}
use Rattle.idl_env.specs.declared.keys.key.Key.{Key}
use Rattle.idl_scope.specs.Known.{id_of}
use Rattle.idl_scope.specs.Lookup.{Lookup}
use Rattle.idl_env.specs.declared.answering.answer.Answer.{Answer}

-- characters, or the id of what is declared at a path
pub data Piece : Type 0 where
  Says : List ℕ → Piece
  IdOf : List (List ℕ) → Piece

abbrev pub Pieces : Type 0
Pieces = List Piece

abbrev pub says : List ℕ → Pieces
says text = Says text ∷ []

-- a text with pieces behind it
unfoldable pub written : List ℕ → Pieces → Lookup (List ℕ)
written text [] = Done text
written text (Says more ∷ pieces) = written (text ++ more) pieces
written text (IdOf path ∷ pieces) =
    and_then (id_of path) (λ id. written (text ++ id) pieces)

-- what pieces come to over a bank
unfoldable pub text_over : (Key → Option Answer) → Pieces → List ℕ
text_over bank [] = []
text_over bank (Says text ∷ pieces) = text ++ text_over bank pieces
text_over bank (IdOf path ∷ pieces) = outcome (id_of path) bank ++ text_over bank pieces

-- what is asked for the id of what is declared at a path
abbrev pub asked_of : (Key → Option Answer) → List (List ℕ) → List Key
asked_of bank path = asked (id_of path) bank

-- what they ask for the ids that they tell, in order
unfoldable pub ids_in : (Key → Option Answer) → Pieces → List Key
ids_in bank [] = []
ids_in bank (Says text ∷ pieces) = ids_in bank pieces
ids_in bank (IdOf path ∷ pieces) = asked_of bank path ++ ids_in bank pieces

-- facts, a text, and what was asked of the facts
abbrev pub State : Type 0
State = List UnitFacts × (List ℕ × List (Key × Option Answer))

-- pieces stand behind the text, as the facts answer, and the ids that they tell were asked
pub record Grows (pieces : Pieces) (old new : State) : Type 0 where
  pub facts : new.0 ≡ old.0
  pub text : new.1.0 ≡ old.1.0 ++ text_over (answers old.0) pieces
  pub log : new.1.1 ≡ noted_all key_eq (answers old.0) old.1.1 (ids_in (answers old.0) pieces)

abbrev pub state : RowWriter → State
state row = (row.env.now, (row.text.items, row.log))

-- pieces are written in a row
abbrev pub Writes : Pieces → RowWriter → RowWriter → Type 0
Writes pieces old new = Grows pieces (state old) (state new)

-- the text of each, with commas between
abbrev pub with_commas : {X : Type 0} → (X → List ℕ) → List X → List ℕ
with_commas text [] = []
with_commas text (x ∷ xs) = text x ++ flat_map (λ y. codes "," ++ text y) xs

-- the pieces of each, with commas between
abbrev pub commas : {X : Type 0} → (X → Pieces) → List X → Pieces
commas pieces [] = []
commas pieces (x ∷ xs) = pieces x ++ flat_map (λ y. Says (codes ",") ∷ pieces y) xs

-- the id of a name, by what is answered of it
abbrev pub told_id : AnsweredId → List ℕ
told_id id = id_at id.path.now (option_copied id.typeprefix) (option_copied id.answer)

-- it is what the facts answer, which were asked for it
abbrev pub IsAsked : AnsweredId → List (List ℕ) → RowWriter → Type 0
IsAsked id path row =
    (log : List (Key × Option Answer))
    × ((told_id id, row.log) ≡ run key_eq (id_of path) (answers row.env.now) log)
