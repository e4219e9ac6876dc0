-- What is asked for a name, as the table of LANGUAGE tells it: which keys, over any answers. In
-- what order they are asked, and how often, is not said: no count hangs on it.
use Rattle.std.specs.Prelude.{◌≡◌, ◌⊎◌, ℕ, zero, suc, List, [], ◌∷◌, Option, None, Ok, Contains, true}
use Rattle.idl_entity.specs.Kind.{inherits, is_scope}
use Rattle.idl_entity.specs.declared.entity.Entity.{Entity}
use Rattle.idl_entity.specs.declared.kind.Kind.{Kind}
use Rattle.idl_entity.specs.idl_tree.declared.name.ScopedName.{ScopedName}
use Rattle.idl_env.specs.Facts.{entity_key}
use Rattle.idl_env.specs.declared.answering.answer.Answer.{Answer}
use Rattle.idl_env.specs.declared.answering.answer.Scope.{Scope}
use Rattle.idl_env.specs.declared.keys.key.Key.{Key}
use Rattle.idl_env.specs.declared.keys.key.Key.TheVariants.{Declared}
use Rattle.idl_lex.specs.kinds.Keywords.{folded}
use Rattle.idl_scope.specs.Meaning.{FirstHas, Has, Judges, bases_at, own_at, searched}

-- the bases that are entered on the way to a name: these, and those of one that doesn't itself
-- declare it
pub data Enters (answers : Key → Option Answer) (n : List ℕ) (bases : List (List (List ℕ)))
    : List (List ℕ) → Type 0 where
  Base : (b : List (List ℕ)) → Contains bases b → Enters answers n bases b
  BaseOf : (a b : List (List ℕ)) → Enters answers n bases a → own_at answers n a ≡ None
      → Contains (bases_at answers a) b → Enters answers n bases b

-- through bases: what each that is entered declares the name as, and where that is nothing the
-- base itself
abbrev pub AsksThrough : (Key → Option Answer) → List ℕ → List (List (List ℕ)) → Key → Type 0
AsksThrough answers n bases k =
    (b : List (List ℕ)) × Enters answers n bases b
    × ((k ≡ Declared n b) ⊎ ((own_at answers n b ≡ None) × (k ≡ entity_key b)))

-- in one scope: what it declares the name as; one that may have bases itself, too, and through
-- these where it doesn't declare the name
abbrev pub AsksIn : (Key → Option Answer) → Kind → List (List ℕ) → List ℕ → Key → Type 0
AsksIn answers kind path n k =
    (k ≡ Declared n path)
    ⊎ ((inherits kind ≡ true)
    × ((k ≡ entity_key path)
    ⊎ ((own_at answers n path ≡ None) × AsksThrough answers n (bases_at answers path) k)))

-- in the innermost of these scopes, and outward to the one that has the name
abbrev pub AsksOutward : (Key → Option Answer) → List Scope → List ℕ → Key → Type 0
AsksOutward answers [] n k = ⊥
AsksOutward answers (s ∷ scopes) n k =
    AsksIn answers s.kind s.path n k
    ⊎ (((e : Entity) → Has answers s.kind s.path n e → ⊥) × AsksOutward answers scopes n k)

-- of these parts, which stand behind one that denotes this, the one with this number, from 0 on
abbrev pub AsksFurther : (Key → Option Answer) → Entity → List (List ℕ) → ℕ → Key → Type 0
AsksFurther answers e [] part k = ⊥
AsksFurther answers e (name ∷ names) zero k =
    (is_scope e.kind ≡ true) × AsksIn answers e.kind e.path (folded name) k
AsksFurther answers e (name ∷ names) (suc part) k =
    (is_scope e.kind ≡ true)
    × (f : Entity) × Judges (Has answers e.kind e.path (folded name)) name (Ok f)
    × AsksFurther answers f names part k

-- of a scoped name that stands in these scopes, the part with this number: the first one outward,
-- and each further one in what the part before denotes
abbrev pub AsksName : (Key → Option Answer) → List Scope → ScopedName → ℕ → Key → Type 0
AsksName answers cursor name zero k =
    AsksOutward answers (searched name.is_global cursor) (folded name.first) k
AsksName answers cursor name (suc part) k =
    (e : Entity)
    × Judges (FirstHas answers (searched name.is_global cursor) (folded name.first)) name.first
    (Ok e)
    × AsksFurther answers e name.rest part k
