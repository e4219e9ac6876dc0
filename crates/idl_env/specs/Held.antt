-- How facts are kept, and what they come to: each addition at its key, and each answer at its key.
use Rattle.std.specs.Prelude.{◌≡◌, List, [], ◌∷◌, Option, None, Some, reverse}
use Rattle.idl_env.specs.Facts.{key_of, World}
use Rattle.idl_env.specs.Stamps.{stamped_in}
use Rattle.idl_env.specs.declared.additions.addition.Addition.{Addition}
use Rattle.idl_env.specs.declared.answering.answer.Scope.{Scope}
use Rattle.idl_env.specs.declared.keys.key.Key.{Key}
use Rattle.idl_env.specs.declared.keys.key.Key.TheVariants.{Cursor, Prefix}
use Rattle.idl_env.specs.declared.answering.state.State.{State}

-- each entry has the key of its addition
abbrev pub HaveOwnKeys : List (Key × Addition) → Type 0
HaveOwnKeys [] = Unit {0}
HaveOwnKeys (e ∷ entries) = (e.0 ≡ key_of e.1) × HaveOwnKeys entries

-- the answer at a key is one of those from which the open scopes and the prefix in force stand apart
abbrev pub IsAmongOthers : Key → Type 0
IsAmongOthers Cursor = ⊥
IsAmongOthers Prefix = ⊥
IsAmongOthers key = Unit {0}

-- what is kept comes to: the lists have the innermost scope, and the file that was entered last, last
abbrev pub held : State → World
held state = record {
  answers = (stamped_in state.answers).at;
  inside = reverse state.inside.items;
  before = record { opened = reverse state.opened; entered = reverse state.entered };
}

-- the innermost of these open scopes, and those outward of it, where it is not the last
abbrev pub closable : List Scope → Option (Scope × List Scope)
closable [] = None
closable (s ∷ []) = None
closable (s ∷ t ∷ outer) = Some (s, t ∷ outer)
