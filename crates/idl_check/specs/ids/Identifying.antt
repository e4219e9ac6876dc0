-- Repository ids: which names have one, and what pragmas make of it.
use Rattle.idl_check.specs.tables.Rules.{has_id, may_be_ahead}
use Rattle.std.specs.Prelude.{List, Option, None, Some, if◌then◌else◌}
use Rattle.idl_check.specs.declared.ids.identifying.Ids.{Ids}
use Rattle.idl_memo.specs.Query.{Done, Ask, and_then}
use Rattle.idl_env.specs.Facts.{prefix_in, with_addition}
use Rattle.idl_scope.specs.Known.{known}
use Rattle.idl_scope.specs.Lookup.{Lookup}
use Rattle.idl_env.specs.declared.additions.addition.Addition.{Addition}
use Rattle.idl_env.specs.declared.additions.addition.Addition.TheVariants.{Appears}
use Rattle.idl_entity.specs.declared.entity.Entity.{Entity}
use Rattle.idl_entity.specs.declared.identity.Fixed.{Fixed}
use Rattle.idl_entity.specs.declared.identity.FixedIdentity.{FixedIdentity}
use Rattle.idl_entity.specs.declared.identity.Identity.{Identity}
use Rattle.idl_env.specs.declared.keys.key.Key.TheVariants.{Prefix as PrefixKey}

-- what identifies a name once this of its id is fixed
abbrev pub changed : Fixed → Identity → FixedIdentity
changed change d = record { prefix = d.prefix; by = change }

-- the id of what was declared before and may have been ahead, under the name by which it was
abbrev pub id_before : Option Entity → Lookup (Option Identity)
id_before None = Done None
id_before (Some old) = if may_be_ahead old.kind then known old.path else Done None

-- what a declared name that has an id is told of ids: the prefix in force, and its own id
abbrev pub ids_of : Option Entity → Entity → Lookup (Option Ids)
ids_of there e =
    if has_id e.kind
    then Ask PrefixKey (λ answer. and_then (id_before there)
    (λ before. Done (Some (record { prefix = prefix_in answer; before = before }))))
    else Done None

-- what is declared first is identified by its path and the prefix in force
abbrev pub with_identity : Option Entity → Option Ids → Entity → List Addition → List Addition
with_identity (Some old) ids e own = own
with_identity None None e own = own
with_identity None (Some ids) e own =
    with_addition own (Appears e.path ids.prefix)
