-- Paths: the name of what stands there, and then those of the scopes around, the innermost first.
use Rattle.std.specs.Prelude.{ℕ, List, [], ◌∷◌, Option, None, Some}
use Rattle.std.specs.declared.alloc.Global.{Global}
use Rattle.std.specs.declared.rc.Rc.{Rc}
pub use Rattle.idl_value.specs.Equal.{path_eq}
pub use Rattle.idl_value.specs.Exact.{same_path}
pub use Rattle.idl_value.specs.Spelled.{scope_of}

-- the name, as it is spelled
abbrev pub name_of : List (List ℕ) → List ℕ
name_of [] = []
name_of (name ∷ scope) = name

-- the names from this one on, with those of the scope around
abbrev pub names_of : Option (List ℕ × List (List ℕ)) → List (List ℕ)
names_of None = []
names_of (Some part) = part.0 ∷ part.1

-- the path of a name and of the scope around it, behind a pointer; without one, that of the global scope
abbrev pub path_of : Option (Rc (List ℕ × List (List ℕ)) Global) → List (List ℕ)
path_of None = []
path_of (Some part) = part.value.0 ∷ part.value.1
