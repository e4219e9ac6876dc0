-- How a scoped name is looked up: what is asked, and what comes of it, which is what the rules of
-- `Meaning` say. Bases are entered one after another, at most so many; each once.
-- A look-up has to end over any answers, so it is defined with a bound on turns. As many are enough
-- as facts name bases and declare entities (`turns_for`), and more change nothing, nor what is
-- logged (the law `more_turns`). Verdicts take `most_turns`, the greatest number of 64 bits: so
-- what a text asks is one query, whatever stands before it. The code has no bound, as it enters
-- each base once.
use Rattle.std.specs.Prelude.{ℕ, zero, suc, ◌+◌, ◌-◌, min, Bool, true, false, List, [], ◌∷◌, ◌++◌, Option, Some, None, Result, Ok, Err, option_to_list, slice_get, if◌then◌else◌}
use Rattle.idl_entity.specs.Kind.{inherits, is_scope, kind_eq}
use denote.Ref.{Bor}
use Rattle.std.specs.Str.{bytes_eq}
use Rattle.idl_lex.specs.kinds.Keywords.{folded}
use Rattle.idl_memo.specs.Query.{Done, Ask, and_then}
use Rattle.idl_entity.specs.idl_tree.declared.name.ScopedName.{ScopedName}
use Rattle.idl_env.specs.Facts.{entity_key, entity_in, joined}
pub use Rattle.idl_scope.specs.Meaning.{bases_of, searched}
use Rattle.idl_entity.specs.Path.{name_of, path_eq, scope_of}
pub use Rattle.idl_scope.specs.Question.{Lookup, by_result, under}
use Rattle.idl_env.specs.declared.answering.answer.Scope.{Scope}
use Rattle.idl_entity.specs.declared.entity.Entity.{Entity}
use Rattle.idl_scope.specs.declared.fault.NameCode.{NameCode}
use Rattle.idl_scope.specs.declared.fault.NameCode.TheVariants.{Undeclared, Ambiguous, OtherSpelling, NoScope}
use Rattle.idl_scope.specs.declared.fault.NameFault.{NameFault}
use Rattle.idl_scope.specs.declared.fault.NameFault.TheVariants.{At, Memory}
use Rattle.idl_scope.specs.declared.found.Found.{Found}
use Rattle.idl_scope.specs.declared.found.Reach.{Reach}
use Rattle.idl_env.specs.declared.keys.key.Key.TheVariants.{Declared}
use Rattle.idl_entity.specs.declared.kind.Kind.{Kind}
use Rattle.idl_entity.specs.declared.kind.Kind.TheVariants.{Module}

-- one way where there is nothing, another where there is an entity
abbrev pub choose : {A : Type 0} → Option Entity → A → (Entity → A) → A
choose None nothing found = nothing
choose (Some e) nothing found = found e

-- what a base itself declares a name as, or else its bases
abbrev pub entered : List ℕ → List (List ℕ) → Lookup (Option Entity × List (List (List ℕ)))
entered n b =
    Ask (Declared n b) (λ own. choose (entity_in own)
    (Ask (entity_key b) (λ base. Done (None, bases_of (entity_in base))))
    (λ e. Done (Some e, [])))

-- the entities declared as a name in bases, or else in the bases of these: the queue has each base
-- once, those before a place are entered, and these are found
unfoldable pub walk : ℕ → List ℕ → ℕ → List (List (List ℕ)) → List Entity → Lookup (List Entity)
walk zero n at queue found = Done found
walk (suc turns) n at queue found =
    elim (slice_get queue at) [
      | None ↦ Done found
      | Some b ↦ and_then (entered n b)
          (λ r. walk turns n (at + 1) (joined queue r.1) (found ++ option_to_list r.0))
    ]

-- those reached through bases
abbrev pub reached : ℕ → List ℕ → List (List (List ℕ)) → Lookup (List Entity)
reached turns n bases = walk turns n 0 (joined [] bases) []

-- what a scope has under a name: its own declaration, and without one what it reaches through bases
abbrev pub has : ℕ → Kind → List (List ℕ) → List ℕ → Lookup (List Entity)
has turns kind path n =
    Ask (Declared n path) (λ own.
    if inherits kind
    then Ask (entity_key path) (λ scope.
    choose (entity_in own) (reached turns n (bases_of (entity_in scope))) (λ e. Done (e ∷ [])))
    else Done (option_to_list (entity_in own)))

abbrev pub is_nothing : {A : Type 0} → List A → Bool
is_nothing [] = true
is_nothing (x ∷ xs) = false

-- what the innermost of these scopes has that has the name, and how many scopes are inside that one,
-- where so many are inside all of these
abbrev pub decided : ℕ → ℕ → List Scope → List ℕ → Lookup (List Entity × ℕ)
decided turns inside [] n = Done ([], 0)
decided turns inside (s ∷ scopes) n =
    and_then (has turns s.kind s.path n)
    (λ found. if is_nothing found then decided turns (inside + 1) scopes n
    else Done (found, inside))

-- the one entity, spelled so, or the fault
abbrev pub judged : List ℕ → List Entity → Result Entity NameCode
judged name [] = Err Undeclared
judged name (e ∷ []) = if bytes_eq (name_of e.path) name then Ok e else Err OtherSpelling
judged name (e ∷ f ∷ found) = Err Ambiguous

-- a fault at the part with this number
abbrev pub placed : ℕ → Result Entity NameCode → Result Entity NameFault
placed part (Ok e) = Ok e
placed part (Err code) = Err (At code part)

-- what a part of a name denotes, by what is there under it
abbrev pub part_of : ℕ → List ℕ → Lookup (List Entity) → Lookup (Result Entity NameFault)
part_of part name there = and_then there (λ found. Done (placed part (judged name found)))

-- what the further parts denote, each asked of the entity before it, which the part with this
-- number denotes
abbrev pub further : ℕ → ℕ → Entity → List (List ℕ) → Lookup (Result Entity NameFault)
further turns part e [] = Done (Ok e)
further turns part e (name ∷ names) =
    if is_scope e.kind
    then and_then (part_of (part + 1) name (has turns e.kind e.path (folded name)))
    (λ r. by_result r (λ f. further turns (part + 1) f names) (λ fault. Done (Err fault)))
    else Done (Err (At NoScope part))

-- how many of the scopes outward from one that is no module there are before a module
abbrev pub before_module : List Scope → ℕ
before_module [] = 0
before_module (s ∷ scopes) = if kind_eq s.kind Module then 0 else suc (before_module scopes)

-- into how many of these scopes, the innermost first, the use of a name in them may go: in a module
-- into that one alone
abbrev pub extent : List Scope → ℕ
extent [] = 0
extent (s ∷ scopes) = suc (if kind_eq s.kind Module then 0 else before_module scopes)

-- the scope with so many of these inside it itself declares this
abbrev pub declares_at : List Scope → ℕ → Entity → Bool
declares_at scopes inside e =
    elim (slice_get scopes inside)
    [ None ↦ false | Some s ↦ path_eq (scope_of e.path) s.path ]

-- how far a use goes that may go so far: for certain into the scopes inside the one that decides, and
-- into that if it has the name through bases; and then further outward, where none was asked
abbrev pub reach_by : Bool → ℕ → ℕ → Reach
reach_by true inside extent = record { certain = min inside extent; further = 0 }
reach_by false inside extent =
    record { certain = min (suc inside) extent; further = extent - suc inside }

-- how far the use of a name goes in these scopes, the innermost first, where it is found as this by
-- the one with so many inside it
abbrev pub reach : List Scope → ℕ → Entity → Reach
reach scopes inside e = reach_by (declares_at scopes inside e) inside (extent scopes)

-- how far its first part is introduced
abbrev pub reach_of : ScopedName → List Scope → ℕ → Entity → Reach
reach_of name cursor inside first =
    if name.is_global then record { certain = 0; further = 0 } else reach cursor inside first

-- what is found, and how far the first part is introduced
abbrev pub found_as : Reach → Result Entity NameFault → Result Found NameFault
found_as reach (Ok e) = Ok (record { entity = e; reach = reach })
found_as reach (Err fault) = Err fault

-- what the first part of a scoped name denotes that stands in these scopes, and how many of these are
-- inside the one that decides it
abbrev pub first_part : ℕ → List Scope → ScopedName → Lookup (Result Entity NameFault × ℕ)
first_part turns cursor name =
    and_then (decided turns 0 (searched name.is_global cursor) (folded name.first))
    (λ d. Done (placed 0 (judged name.first d.0), d.1))

-- what a scoped name denotes that stands in these scopes, the innermost first
abbrev pub denoted : ℕ → List Scope → ScopedName → Lookup (Result Found NameFault)
denoted turns cursor name =
    and_then (first_part turns cursor name)
    (λ r. by_result r.0
    (λ first. and_then (further turns 0 first name.rest)
    (λ last. Done (found_as (reach_of name cursor r.1 first) last)))
    (λ fault. Done (Err fault)))

-- the entity to which a result leads
abbrev pub named : {E : Type 0} → Result (Bor Entity) E → Result Entity E
named (Ok e) = Ok e.now
named (Err fault) = Err fault

-- a fact about a result that is no want of memory
abbrev pub IfSettled : {A : Type 0} → Result A NameFault → (Result A NameFault → Type 0) → Type 0
IfSettled (Ok a) Fact = Fact (Ok a)
IfSettled (Err Memory) Fact = Unit {0}
IfSettled (Err (At code part)) Fact = Fact (Err (At code part))
