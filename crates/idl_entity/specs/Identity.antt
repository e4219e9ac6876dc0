-- What identifies a declared name, and how its id is told.
-- An identity is data: the prefix of the first declaration, the typeprefix around, and what was
-- fixed, which is nothing, a version, or all of the id. One definition, `told`, makes the id of it
-- and of the path.
-- A prefix in an answer is the one in force, shared, where it was met in a scope around the name,
-- and else one of the same text and the global scope: so equal identities are equal answers. An
-- addition is brought to this form, so that is a law of all facts.
use Rattle.std.specs.Prelude.{ℕ, ◌-◌, Bool, List, [], ◌∷◌, ◌++◌, Option, None, Some, codes, decimal, drop, if◌then◌else◌, length, take}
use Rattle.idl_entity.specs.Path.{path_eq, scope_of}
use Rattle.idl_entity.specs.declared.identity.Fixed.{Fixed}
use Rattle.idl_entity.specs.declared.identity.Fixed.TheVariants.{Version, Id}
use Rattle.idl_entity.specs.declared.identity.FixedIdentity.{FixedIdentity}
use Rattle.idl_entity.specs.declared.identity.Identity.{Identity}
use Rattle.idl_entity.specs.declared.identity.Prefix.{Prefix}

-- the parts of a path, the outermost first, with `/` between them
abbrev pub slashed : List (List ℕ) → List ℕ
slashed [] = []
slashed (name ∷ []) = name
slashed (name ∷ scope ∷ outer) = slashed (scope ∷ outer) ++ 47 ∷ name

-- whether a path is that of a scope or of what stands in it
abbrev pub is_within : List (List ℕ) → List (List ℕ) → Bool
is_within path scope = path_eq (drop (length path - length scope) path) scope

-- a path as it is told in a scope: what is declared elsewhere has its whole path
abbrev pub relative : List (List ℕ) → List (List ℕ) → List (List ℕ)
relative path scope =
    if is_within (scope_of path) scope then take (length path - length scope) path else path

-- a prefix with the `/` behind it
abbrev pub prefixed : List ℕ → List ℕ
prefixed [] = []
prefixed (c ∷ text) = (c ∷ text) ++ 47 ∷ []

-- an id up to its version
abbrev pub stem : List (List ℕ) → Prefix → List ℕ
stem path p = codes "IDL:" ++ prefixed p.text ++ slashed (relative path p.scope)

-- the version of what was fixed so, or 1.0
abbrev pub version_text : Option Fixed → List ℕ
version_text (Some (Version major minor)) = decimal major ++ 46 ∷ decimal minor
version_text other = codes "1.0"

abbrev pub told_by : List (List ℕ) → Prefix → Option Fixed → List ℕ
told_by path p (Some (Id text)) = text
told_by path p fixed = stem path p ++ 58 ∷ version_text fixed

-- the prefix that tells an id: a typeprefix, if there is one, before the whole path, and else the one
-- that was in force
abbrev pub prefix_told : Option (List ℕ) → Prefix → Prefix
prefix_told None p = p
prefix_told (Some typeprefix) p = record { text = typeprefix; scope = [] }

-- the id of the name at a path that is identified by this: the one that was given, or prefix, name
-- and version
abbrev pub told : List (List ℕ) → Identity → List ℕ
told path d = told_by path (prefix_told d.typeprefix d.prefix) d.fixed

-- a prefix with its text alone
abbrev pub without_scope : Prefix → Prefix
without_scope p = record p { scope = [] }

-- the prefix as it tells the id of the name at a path: of a name outside of the scope in which it was
-- met, as if it was met in the global scope
abbrev pub prefix_for : List (List ℕ) → Prefix → Prefix
prefix_for path p = if is_within (scope_of path) p.scope then p else without_scope p

-- and where this was fixed: a given id doesn't tell where its prefix was met
abbrev pub prefix_by : List (List ℕ) → Prefix → Fixed → Prefix
prefix_by path p (Version major minor) = prefix_for path p
prefix_by path p (Id text) = without_scope p

-- what identifies the name at a path by a pragma, with no more than tells its id
abbrev pub fixed_for : List (List ℕ) → FixedIdentity → FixedIdentity
fixed_for path d = record d { prefix = prefix_by path d.prefix d.by }

-- what a name is identified by that was declared first under a prefix, and of whose id this was fixed,
-- under a typeprefix, if there is one
abbrev pub first_identity : Option (List ℕ) → Prefix → Identity
first_identity typeprefix p = record { prefix = p; typeprefix = typeprefix; fixed = None }

abbrev pub identity_of : Option (List ℕ) → FixedIdentity → Identity
identity_of typeprefix d = record { prefix = d.prefix; typeprefix = typeprefix; fixed = Some d.by }

-- the empty prefix, met in the global scope: that of a file that is entered
abbrev pub no_prefix : Prefix
no_prefix = record { text = []; scope = [] }
