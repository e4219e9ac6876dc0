-- Keys as they are held.
use Rattle.idl_env.specs.Facts.{entity_key}
use Rattle.idl_env.specs.declared.keys.held_key.HeldKey.{HeldKey}
use Rattle.idl_env.specs.declared.keys.held_key.HeldKey.TheVariants.{Cursor, Entity, Declared, Introduced, Opened, Nameless, Prefix, IdOf, Typeprefix, Whole}
use Rattle.idl_env.specs.declared.keys.key.Key.{Key}
use Rattle.idl_env.specs.declared.keys.key.Key.TheVariants as key

-- the key that is held
abbrev pub key_in : HeldKey → Key
key_in Cursor = key.Cursor
key_in (Entity path) = entity_key path
key_in (Declared name path) = key.Declared name path
key_in (Introduced name path) = key.Introduced name path 1
key_in (Opened path) = key.Opened path
key_in Nameless = key.Nameless
key_in Prefix = key.Prefix
key_in (IdOf path) = key.IdOf path
key_in (Typeprefix path) = key.Typeprefix path
key_in (Whole whole) = whole.value
