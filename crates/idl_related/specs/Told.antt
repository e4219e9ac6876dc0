-- Which findings may have second places, how many are told, and which names near ones are looked
-- for among.
use Rattle.std.specs.Prelude.{◌≡◌, ◌≤◌, ℕ, ◌+◌, ◌/◌, Bool, true, false, IfSome, List, None, length, nat_le}
use Rattle.std.specs.List.{last_or}
use Rattle.idl_fault.specs.declared.code.Code.{Code}
use Rattle.idl_fault.specs.declared.code.Code.TheVariants as code
use Rattle.idl_related.specs.declared.second.Second.{Second}

-- E33: a name is declared that is declared already in its scope
abbrev pub is_redeclaration : Code → Bool
is_redeclaration code.AlreadyDeclared = true
is_redeclaration other = false

-- findings of these codes may have second places, and no others
abbrev pub has_second : Code → Bool
has_second code.NameNotFound = true
has_second code.AmbiguousName = true
has_second code.OtherCase = true
has_second code.AlreadyDeclared = true
has_second code.NameOfScope = true
has_second code.DeclaredAfterUse = true
has_second code.WrongKind = true
has_second code.NoScope = true
has_second code.OtherForward = true
has_second code.IncompleteBase = true
has_second code.RepeatedBase = true
has_second code.DeclaredAgain = true
has_second code.LocalBase = true
has_second code.ReachedThroughBase = true
has_second code.NoConstantType = true
has_second code.IncompleteType = true
has_second code.BadDiscriminator = true
has_second code.RepeatedLabel = true
has_second code.OtherPrefix = true
has_second code.RepeatedId = true
has_second code.RepeatedVersion = true
has_second code.RepeatedTypeprefix = true
has_second other = false

-- so many declarations are told of what has several, and so many near names
abbrev pub most_told : ℕ
most_told = 3

abbrev pub AreFew : List Second → Type 0
AreFew seconds = length seconds ≤ most_told

-- the last of these tells that so many more were found
abbrev pub TellsMore : ℕ → List Second → Type 0
TellsMore more seconds = IfSome (last_or None seconds) (λ last. last.more ≡ more)

-- of so many names of a root that aren't declared near ones are looked for
abbrev pub most_unknown : ℕ
most_unknown = 100

-- names of so many bytes at most are compared, for that takes the product of their lengths
abbrev pub longest_compared : ℕ
longest_compared = 64

abbrev pub is_compared : List ℕ → Bool
is_compared name = nat_le (length name) longest_compared

-- a near name is at most so many edits away: one, and one more for each four bytes
abbrev pub most_edits : List ℕ → ℕ
most_edits name = 1 + length name / 4
