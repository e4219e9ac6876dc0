-- When two keys are one, and what number a key is found by.
use Rattle.std.specs.Prelude.{ℕ, Bool}
use Rattle.idl_base.specs.Digest.{mixed, with_bytes}
use Rattle.idl_entity.specs.Digest.{behind, path_digest, under}
use Rattle.idl_env.specs.contracts.keys.key.KeyPartialEq.TheImpl.{ghosts}
use Rattle.idl_env.specs.declared.keys.key.Key.{Key}
use Rattle.idl_env.specs.declared.keys.key.Key.TheVariants.{Cursor, Declared, Introduced, Opened, Nameless, Prefix, IdOf, Typeprefix}

-- whether two keys are one
abbrev pub key_eq : Key → Key → Bool
key_eq = ghosts.eq

-- the digest of a key: of the path and the name, with a number that is no byte for what is asked
unfoldable pub key_digest : Key → ℕ
key_digest Cursor = 257
key_digest (Declared n path) = under (path_digest path) n
key_digest (Introduced n path body) =
    behind (path_digest path) (mixed (with_bytes (mixed (path_digest path) 259) n) body)
key_digest (Opened path) = behind (path_digest path) (mixed (path_digest path) 260)
key_digest Nameless = 261
key_digest Prefix = 262
key_digest (IdOf path) = behind (path_digest path) (mixed (path_digest path) 263)
key_digest (Typeprefix path) = behind (path_digest path) (mixed (path_digest path) 264)
