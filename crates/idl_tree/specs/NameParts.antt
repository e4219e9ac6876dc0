-- Where the parts of a scoped name stand among tokens.
use Rattle.std.specs.Prelude.{ℕ, ◌+◌, ◌*◌, if◌then◌else◌, length}
use Rattle.idl_tree.specs.declared.name.ScopedName.{ScopedName}

-- the number of a name's part, where the name begins at this token
abbrev pub part_at : ℕ → ScopedName → ℕ → ℕ
part_at at name part = at + (if name.is_global then 1 else 0) + 2 * part

abbrev pub last_at : ℕ → ScopedName → ℕ
last_at at name = part_at at name (length name.rest)
