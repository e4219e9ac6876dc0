-- What names denote, over answers: the scoping rules, without a word of how a name is looked up.
use Rattle.std.specs.Prelude.{◌≡◌, ◌≢◌, ◌↔◌, ◌⊎◌, ℕ, Bool, true, if◌then◌else◌, MatchBool, List, [], ◌∷◌, ◌++◌, ◌+◌, Option, Some, None, Result, Ok, Err, Contains, drop, is_some, take}
use Rattle.idl_lex.specs.kinds.Keywords.{folded}
use Rattle.idl_entity.specs.Entity.{is_operation}
use Rattle.idl_entity.specs.Kind.{has_bases, inherits, is_scope}
use Rattle.idl_entity.specs.idl_tree.declared.name.ScopedName.{ScopedName}
use Rattle.idl_env.specs.Facts.{UnitFacts, answers, entity_key, entity_in, global_scope, over}
use Rattle.idl_entity.specs.Path.{name_of}
use Rattle.idl_env.specs.declared.additions.addition.Addition.{Addition}
use Rattle.idl_env.specs.declared.answering.answer.Answer.{Answer}
use Rattle.idl_env.specs.declared.answering.answer.Scope.{Scope}
use Rattle.idl_entity.specs.declared.entity.Entity.{Entity}
use Rattle.idl_scope.specs.declared.fault.NameCode.{NameCode}
use Rattle.idl_scope.specs.declared.fault.NameCode.TheVariants.{Undeclared, Ambiguous, OtherSpelling, NoScope}
use Rattle.idl_scope.specs.declared.fault.NameFault.{NameFault}
use Rattle.idl_scope.specs.declared.fault.NameFault.TheVariants.{At}
use Rattle.idl_scope.specs.declared.found.Found.{Found}
use Rattle.idl_scope.specs.declared.found.Reach.{Reach}
use Rattle.idl_env.specs.declared.keys.key.Key.{Key}
use Rattle.idl_env.specs.declared.keys.key.Key.TheVariants.{Declared}
use Rattle.idl_entity.specs.declared.kind.Kind.{Kind}
use Rattle.idl_entity.specs.declared.kind.Kind.TheVariants.{Module}

-- the answers over facts, as these additions change them
abbrev pub seen : List Addition → List UnitFacts → Key → Option Answer
seen own facts key = over own key (answers facts key)

-- what a scope itself declares a name as
abbrev pub own_at : (Key → Option Answer) → List ℕ → List (List ℕ) → Option Entity
own_at answers n path = entity_in (answers (Declared n path))

-- the bases of an entity that count: none before its definition is open
abbrev pub bases_of : Option Entity → List (List (List ℕ))
bases_of None = []
bases_of (Some e) = if has_bases e.stage then e.bases else []

-- the bases of what stands at a path
abbrev pub bases_at : (Key → Option Answer) → List (List ℕ) → List (List (List ℕ))
bases_at answers path = bases_of (entity_in (answers (entity_key path)))

-- the entities that some of these bases itself declares as the name, or, where that base declares
-- none, that are reached through its own bases
pub data Through (answers : Key → Option Answer) (n : List ℕ)
    : List (List (List ℕ)) → Entity → Type 0 where
  Own : {bases : List (List (List ℕ))} {e : Entity} (b : List (List ℕ))
      → Contains bases b → own_at answers n b ≡ Some e → Through answers n bases e
  Up : {bases : List (List (List ℕ))} {e : Entity} (b : List (List ℕ))
      → Contains bases b → own_at answers n b ≡ None
      → Through answers n (bases_at answers b) e → Through answers n bases e

-- what a scope has under a name: its own declaration, and where there is none and it has bases what
-- is reached through them
abbrev pub Has : (Key → Option Answer) → Kind → List (List ℕ) → List ℕ → Entity → Type 0
Has answers kind path n e =
    (own_at answers n path ≡ Some e)
    ⊎ ((own_at answers n path ≡ None)
    × ((inherits kind ≡ true) × Through answers n (bases_at answers path) e))

-- an operation or attribute of this name that an interface inherits from its bases
abbrev pub InheritsOperation : (Key → Option Answer) → Scope → List ℕ → Entity → Type 0
InheritsOperation answers s n e =
    (inherits s.kind ≡ true)
    × (Through answers n (bases_at answers s.path) e × (is_operation e ≡ true))

-- what the innermost of these scopes has of those that have the name
abbrev pub FirstHas : (Key → Option Answer) → List Scope → List ℕ → Entity → Type 0
FirstHas answers [] n e = ⊥
FirstHas answers (s ∷ scopes) n e =
    Has answers s.kind s.path n e
    ⊎ (((x : Entity) → Has answers s.kind s.path n x → ⊥) × FirstHas answers scopes n e)

-- the one entity of a set, where it is spelled so, or the fault
abbrev pub Judges : (Entity → Type 0) → List ℕ → Result Entity NameCode → Type 0
Judges P name (Ok e) = P e × (((x : Entity) → P x → x ≡ e) × (name_of e.path ≡ name))
Judges P name (Err Undeclared) = (x : Entity) → P x → ⊥
Judges P name (Err Ambiguous) = (x : Entity) × (y : Entity) × P x × P y × (x ≢ y)
Judges P name (Err OtherSpelling) =
    (e : Entity) × P e × (((x : Entity) → P x → x ≡ e) × (name_of e.path ≢ name))
Judges P name (Err NoScope) = ⊥

-- a part denotes an entity, from which the name goes on, or the whole name has its fault
abbrev pub Goes : ℕ → Result Entity NameCode → (Entity → Type 0) → Result Entity NameFault → Type 0
Goes part (Ok e) On r = On e
Goes part (Err code) On r = r ≡ Err (At code part)

-- what the further parts denote, asked of the entity before them, which the part with this number
-- denotes
abbrev pub DenotesIn : (Key → Option Answer) → ℕ → Entity → List (List ℕ)
    → Result Entity NameFault → Type 0
DenotesIn answers part e [] r = r ≡ Ok e
DenotesIn answers part e (name ∷ names) r =
    MatchBool (is_scope e.kind)
    ((j : Result Entity NameCode) × Judges (Has answers e.kind e.path (folded name)) name j
    × Goes (part + 1) j (λ f. DenotesIn answers (part + 1) f names r) r)
    (r ≡ Err (At NoScope part))

-- the scopes in which the first part is looked for
abbrev pub searched : Bool → List Scope → List Scope
searched is_global cursor = if is_global then global_scope ∷ [] else cursor

-- what a scoped name denotes that stands in these scopes, the innermost first
abbrev pub Denotes : (Key → Option Answer) → List Scope → ScopedName → Result Entity NameFault
    → Type 0
Denotes answers cursor name r =
    (j : Result Entity NameCode)
    × Judges (FirstHas answers (searched name.is_global cursor) (folded name.first)) name.first j
    × Goes 0 j (λ first. DenotesIn answers 0 first name.rest r) r

-- the entity that is found, or the fault
abbrev pub entity_found : Result Found NameFault → Result Entity NameFault
entity_found (Ok found) = Ok found.entity
entity_found (Err fault) = Err fault

-- the use of a name introduces it into that one of the scopes in which it stands: the innermost, or
-- one outward of it with no module up to there; and no scope up to there itself declares it
abbrev pub NoModuleTo : List Scope → Scope → Type 0
NoModuleTo [] t = ⊥
NoModuleTo (s ∷ scopes) t = (s.kind ≢ Module) × ((s ≡ t) ⊎ NoModuleTo scopes t)

abbrev pub NoneDeclaresTo : (Key → Option Answer) → List Scope → List ℕ → Scope → Type 0
NoneDeclaresTo answers [] n t = ⊥
NoneDeclaresTo answers (s ∷ scopes) n t =
    (own_at answers n s.path ≡ None) × ((s ≡ t) ⊎ NoneDeclaresTo answers scopes n t)

abbrev pub IsInnermost : List Scope → Scope → Type 0
IsInnermost [] t = ⊥
IsInnermost (s ∷ scopes) t = s ≡ t

abbrev pub Introduces : (Key → Option Answer) → List Scope → List ℕ → Scope → Type 0
Introduces answers cursor n t =
    NoneDeclaresTo answers cursor n t × (IsInnermost cursor t ⊎ NoModuleTo cursor t)

-- the scopes, the innermost first, before the first that itself declares a name
abbrev pub undeclared : (Key → Option Answer) → List ℕ → List Scope → List Scope
undeclared answers n [] = []
undeclared answers n (s ∷ scopes) =
    if is_some (own_at answers n s.path) then [] else s ∷ undeclared answers n scopes

-- those of a cursor to which a use of a name comes that goes so far: all to which it goes for certain,
-- and of those further outward the ones before the first that itself declares the name
abbrev pub reached_by : (Key → Option Answer) → List ℕ → List Scope → Reach → List Scope
reached_by answers n cursor r =
    take r.certain cursor ++ undeclared answers n (take r.further (drop r.certain cursor))

-- the use of a scoped name that goes so far introduces its first part into the scopes to which it
-- comes, and into no others; with a leading `::` into none
abbrev pub Reaches : (Key → Option Answer) → List Scope → ScopedName → Reach → Type 0
Reaches answers cursor name r =
    let n = folded name.first in
    MatchBool name.is_global (reached_by answers n cursor r ≡ [])
    ((s : Scope) → Contains (reached_by answers n cursor r) s ↔ Introduces answers cursor n s)
