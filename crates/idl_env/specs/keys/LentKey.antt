-- Keys that are lent.
use Rattle.idl_entity.specs.idl_lex.kinds.Keywords.{folded}
use Rattle.idl_env.specs.Facts.{entity_key}
use Rattle.idl_entity.specs.Path.{name_of}
use Rattle.idl_env.specs.declared.keys.key.Key.{Key}
use Rattle.idl_env.specs.declared.keys.key.Key.TheVariants as key
use Rattle.idl_env.specs.declared.keys.lent_key.Parts.{Parts}
use Rattle.idl_env.specs.declared.keys.lent_key.Parts.TheVariants.{Declared, Under, Entity, Introduced, IdOf, Typeprefix}

-- the key with these parts
abbrev pub key_with : Parts → Key
key_with (Declared name scope) = key.Declared name.now scope.now
key_with (Under name scope) = key.Declared name.now scope.now
key_with (Entity path) = entity_key path.now
key_with (Introduced path scope body) = key.Introduced (folded (name_of path.now)) scope.now body
key_with (IdOf path) = key.IdOf path.now
key_with (Typeprefix path) = key.Typeprefix path
