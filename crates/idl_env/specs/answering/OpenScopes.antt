-- Open scopes behind pointers.
use Rattle.std.specs.Prelude.{◌≡◌, ℕ, false, List, [], ◌∷◌, Option, None, Some}
use Rattle.std.specs.declared.alloc.Global.{Global}
use Rattle.std.specs.declared.rc.Rc.{Rc}
use Rattle.idl_entity.specs.Path.{scope_of}
use Rattle.idl_env.specs.answering.Scope.{scope_eq}
use Rattle.idl_env.specs.declared.answering.answer.Scope.{Scope}

-- the scope behind a pointer and those outward of it, if there is one
abbrev pub scopes_of : Option (Rc (Scope × List Scope) Global) → List Scope
scopes_of None = []
scopes_of (Some opened) = opened.value.0 ∷ opened.value.1

-- the path is that of a name in the innermost of these scopes, if there is one
abbrev pub IsChild : List (List ℕ) → List Scope → Type 0
IsChild path [] = Unit {0}
IsChild path (scope ∷ outer) = scope.path ≡ scope_of path

-- the innermost of these and of those have one path
abbrev pub BeginAtOnePath : List Scope → List Scope → Type 0
BeginAtOnePath (scope ∷ outer) (other ∷ others) = scope.path ≡ other.path
BeginAtOnePath these those = Unit {0}

-- they are not the same scope
abbrev pub BeginApart : List Scope → List Scope → Type 0
BeginApart (scope ∷ outer) (other ∷ others) = scope_eq scope other ≡ false
BeginApart these those = Unit {0}
