-- When two keys of a root are one.
use Rattle.std.specs.Prelude.{◌≡◌, ℕ, Bool, true, List, [], ◌∷◌, refl}
use Rattle.std.specs.Cmp.Lexicographic.{bytes_decides, slice_cmp}
use Rattle.std.specs.Ordering.{nat_cmp}
use Rattle.std.specs.Str.{bytes_eq}
use Rattle.std.specs.declared.cmp.Ordering.{Ordering}
use Rattle.std.proofs.Common.{ap}
use Rattle.idl_base.specs.Digest.{mixed, with_bytes}
use Rattle.idl_event.specs.declared.asked.key.RootKey.{RootKey}
use Rattle.idl_event.specs.declared.asked.key.RootKey.TheVariants.{Macro, File, Search}

-- a key as a list: a number that tells what it asks about, and its word or name
abbrev pub key_code : RootKey → List ℕ
key_code (Macro word) = 0 ∷ word
key_code (File name) = 1 ∷ name
key_code Search = 2 ∷ []

abbrev pub key_eq : RootKey → RootKey → Bool
key_eq key other = bytes_eq (key_code key) (key_code other)

-- macros come before files, and files before the directories; words and names among themselves go
-- byte by byte
abbrev pub key_cmp : RootKey → RootKey → Ordering
key_cmp key other = slice_cmp nat_cmp (key_code key) (key_code other)

-- keys that `==` finds equal are one
pub same_key : (key other : RootKey) → key_eq key other ≡ true → key ≡ other
same_key (Macro a) (Macro b) h = ap Macro ((bytes_decides a b).0 h)
same_key (Macro a) (File b) h = cc
same_key (Macro a) Search h = cc
same_key (File a) (Macro b) h = cc
same_key (File a) (File b) h = ap File ((bytes_decides a b).0 h)
same_key (File a) Search h = cc
same_key Search (Macro b) h = cc
same_key Search (File b) h = cc
same_key Search Search h = refl

-- the digest of a key: of its bytes, behind a number that is no byte for a file's name
unfoldable pub key_digest : RootKey → ℕ
key_digest (Macro word) = with_bytes 0 word
key_digest (File name) = with_bytes (mixed 0 256) name
key_digest Search = 0
