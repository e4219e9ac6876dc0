-- Answers that are the same outside some keys, and which keys the facts of a unit look at.
use Rattle.std.specs.Prelude.{◌≡◌, List, [], ◌∷◌, Option, Some, None, ◌++◌, Contains, drop, flat_map, map, if◌then◌else◌}
use Rattle.idl_env.specs.Facts.{UnitFacts, World, entity_key, scopes_in, entity_in, count_in, nameless, path_around, stops_of, with_additions}
use Rattle.idl_entity.specs.Kind.{kind_eq}
use Rattle.idl_env.specs.declared.additions.addition.Step.{Step}
use Rattle.idl_env.specs.declared.additions.addition.Step.TheVariants.{Stays, Opens, OpensNameless, Closes, Prefixes, Enters, Leaves}
use Rattle.idl_env.specs.declared.answering.answer.Answer.{Answer}
use Rattle.idl_env.specs.declared.answering.answer.Scope.{Scope}
use Rattle.idl_env.specs.declared.keys.key.Key.{Key}
use Rattle.idl_env.specs.declared.keys.key.Key.TheVariants.{Cursor, Opened, Nameless, Prefix as PrefixKey}
use Rattle.idl_entity.specs.declared.kind.Kind.TheVariants.{Interface}

-- at each key but these the answers are the same
abbrev pub AgreeOutside : List Key → (Key → Option Answer) → (Key → Option Answer) → Type 0
AgreeOutside keys answers other = (key : Key) → (Contains keys key → ⊥) → other key ≡ answers key

-- and so are two worlds, with the same operations and attributes of the open scopes and the same
-- prefixes that come back
abbrev pub WorldsAgreeOutside : List Key → World → World → Type 0
WorldsAgreeOutside keys w other =
    AgreeOutside keys w.answers other.answers
    × ((other.inside ≡ w.inside) × (other.before ≡ w.before))

-- and two worlds that may have other operations and attributes in the innermost scope
abbrev pub WorldsAgreeAround : List Key → World → World → Type 0
WorldsAgreeAround keys w other =
    AgreeOutside keys w.answers other.answers
    × ((drop 1 other.inside ≡ drop 1 w.inside) × (other.before ≡ w.before))

-- the innermost of the open scopes is this one, and another is around it
abbrev pub IsInnermost : (Key → Option Answer) → Scope → Type 0
IsInnermost answers s =
    (t : Scope) × (outer : List Scope) × (scopes_in (answers Cursor) ≡ s ∷ t ∷ outer)

-- the keys at which an interface's operations are gathered when it closes: its own and its bases'
abbrev pub gathered_at : World → List Scope → List Key
gathered_at w [] = []
gathered_at w (s ∷ []) = []
gathered_at w (s ∷ t ∷ outer) =
    if kind_eq s.kind Interface
    then entity_key s.path ∷ elim (entity_in (w.answers (entity_key s.path)))
    [ None ↦ [] | Some e ↦ map entity_key e.bases ]
    else []

-- the keys whose answers a change of the open scopes, of files or of the prefix looks at
abbrev pub looked_at : World → Step → List Key
looked_at w Stays = []
looked_at w (Opens path kind) = Cursor ∷ Opened path ∷ PrefixKey ∷ []
looked_at w (OpensNameless kind) =
    let name = nameless (count_in (w.answers Nameless)) in
    Nameless ∷ Cursor ∷ Opened (name ∷ path_around (scopes_in (w.answers Cursor))) ∷ PrefixKey ∷ []
looked_at w Closes = Cursor ∷ gathered_at w (scopes_in (w.answers Cursor))
looked_at w (Prefixes text) = Cursor ∷ []
looked_at w Enters = PrefixKey ∷ []
looked_at w Leaves = []

-- the keys that the facts of a unit look at
abbrev pub looked_at_by : World → UnitFacts → List Key
looked_at_by w f =
    flat_map stops_of f.additions ++ looked_at (with_additions f.additions w) f.step

-- none of these keys is one of those
abbrev pub AreApart : List Key → List Key → Type 0
AreApart keys others = (key : Key) → Contains keys key → Contains others key → ⊥
