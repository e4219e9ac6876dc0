-- What units have asked of what is looked at behind the facts that they add.
use Rattle.std.specs.Prelude.{◌≡◌, ◌≤◌, ℕ, List, [], ◌∷◌, ◌++◌, All, Contains, Option, Some, flat_map, length}
use Rattle.idl_block.specs.Behind.{laid}
use Rattle.idl_block.specs.Blocks.{Part, Text, Boundary}
use Rattle.idl_entity.specs.declared.entity.Entity.{Entity}
use Rattle.idl_entity.specs.declared.kind.Kind.TheVariants.{Interface}
use Rattle.idl_env.specs.Facts.{UnitFacts, World, addition_at, after, after_all, boundary, entity_key, scopes_in, stops_of, with_additions}
use Rattle.idl_env.specs.declared.additions.addition.Addition.TheVariants.{Declares}
use Rattle.idl_env.specs.declared.additions.addition.Step.{Step}
use Rattle.idl_env.specs.declared.additions.addition.Step.TheVariants.{Opens, OpensNameless, Closes, Enters, Leaves}
use Rattle.idl_env.specs.declared.answering.answer.Answer.{Answer}
use Rattle.idl_env.specs.declared.answering.answer.Scope.{Scope}
use Rattle.idl_env.specs.declared.keys.key.Key.{Key}
use Rattle.idl_env.specs.declared.keys.key.Key.TheVariants.{Cursor, Declared, Introduced, Opened, Nameless}
use Rattle.idl_memo.specs.Query.{asked, outcome}
use Rattle.idl_block.specs.facts.Answered.{Asking, IsClosing, IsProper, answered}
use Rattle.idl_block.specs.facts.Beneath.{AreTwo, IsThere, start}

-- none of these open scopes stands inside of the one at a path
abbrev pub NoneInside : List Scope → List (List ℕ) → Type 0
NoneInside scopes path = All (λ s. length s.path ≤ length path) scopes

-- a key is asked only behind these, whose answer tells how it is answered, and of no scope in which
-- another one is open
abbrev pub IsBehind : List Scope → List Key → Key → Type 0
IsBehind scopes earlier (Introduced n path body) =
    Contains earlier (Declared n path) × NoneInside scopes path
IsBehind scopes earlier key = Unit {0}

-- so is each of these keys, behind those and the ones before it
abbrev pub AreBehind : List Scope → List Key → List Key → Type 0
AreBehind scopes earlier [] = Unit {0}
AreBehind scopes earlier (k ∷ keys) =
    IsBehind scopes earlier k × AreBehind scopes (earlier ++ k ∷ []) keys

-- of a scope that opens it was asked how often it was open, or how many nameless ones there were;
-- an interface is declared where it opens
abbrev pub HasAskedStep : List Key → UnitFacts → Type 0
HasAskedStep keys f = elim f.step [
  | Opens path kind ↦ Contains keys (Opened path)
      × (kind ≡ Interface → (e : Entity)
      × (addition_at f.additions (entity_key path) ≡ Some (Declares e)))
  | OpensNameless kind ↦ Contains keys Nameless
  | other ↦ Unit {0}
]

-- a unit in these scopes that asked these keys, in order, asked what is looked at behind its facts
pub record HasAsked (scopes : List Scope) (keys : List Key) (f : UnitFacts) : Type 0 where
  pub cursor : Contains keys Cursor
  pub step : HasAskedStep keys f
  -- of what it declares it was asked whether it was declared, and so of its bases
  pub declared : (e : Entity) → Contains f.additions (Declares e)
      → Contains keys (entity_key e.path) × All (λ b. Contains keys (entity_key b)) e.bases
  pub behind : AreBehind scopes [] keys

-- a step closes no scope, and leaves no file, that was there where the block's own file was entered
abbrev pub IsInside : World → Step → Type 0
IsInside w Closes = IsThere w.before.opened
IsInside w Leaves = AreTwo w.before.entered
IsInside w other = Unit {0}

-- so it is with these facts one after another, and a closing closes a scope
abbrev pub AreInside : World → List UnitFacts → Type 0
AreInside w [] = Unit {0}
AreInside w (f ∷ facts) =
    (IsInside w f.step × IsClosing (with_additions f.additions w).answers f.step)
    × AreInside (after w f) facts

-- the facts of a part are as units tell them over a world, and stay inside
pub record IsTold (w : World) (f : UnitFacts) : Type 0 where
  pub proper : IsProper w f
  pub inside : IsInside w f.step

module _ {T O : Type 0} (unit : T → Asking O) (writes : O → UnitFacts)
    (bank : Key → Option Answer) where
  -- the facts of a part behind those before it
  abbrev pub facts_at : Part T Step → List UnitFacts → UnitFacts
  facts_at (Boundary step) written = boundary step
  facts_at (Text t) written = writes (outcome (unit t) (laid answered written bank))

  -- a unit asked what is looked at behind its facts; a boundary enters or leaves a file
  abbrev pub AsksEnough : Part T Step → List UnitFacts → Type 0
  AsksEnough (Boundary Enters) written = Unit {0}
  AsksEnough (Boundary Leaves) written = Unit {0}
  AsksEnough (Boundary other) written = ⊥
  AsksEnough (Text t) written =
      let there = laid answered written bank in
      HasAsked (scopes_in (there Cursor)) (asked (unit t) there) (facts_at (Text t) written)

  -- so it is with each part of a block
  abbrev pub AskEnough : List (Part T Step) → List UnitFacts → Type 0
  AskEnough [] written = Unit {0}
  AskEnough (part ∷ parts) written =
      (AsksEnough part written × IsTold (after_all (start bank) written) (facts_at part written))
      × AskEnough parts (written ++ facts_at part written ∷ [])

-- the keys that tell whether the uses that facts add are stopped
abbrev pub stops_among : List UnitFacts → List Key
stops_among facts = flat_map (λ f. flat_map stops_of f.additions) facts
