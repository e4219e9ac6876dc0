-- Why `==` holds of one key alone, and why a clone is its source.
-- Nothing to believe here: all of it is proved.
use Rattle.std.specs.Prelude.{◌≡◌, true, refl}
use Rattle.std.specs.Cmp.Lexicographic.{bytes_decides}
use Rattle.std.proofs.Common.{ap}
use Rattle.idl_base.specs.Exact.{both, same_number}
use Rattle.idl_env.specs.keys.Key.{key_eq}
use Rattle.idl_entity.specs.Path.{same_path}
use Rattle.idl_env.specs.declared.keys.key.Key.{Key}
use Rattle.idl_env.specs.declared.keys.key.Key.TheVariants.{Cursor, Declared, Introduced, Opened, Nameless, Prefix, IdOf, Typeprefix}

pub same_key : (key other : Key) → key_eq key other ≡ true → key ≡ other
same_key Cursor Cursor h = refl
same_key (Declared n p) (Declared m q) h =
    let parts = both _ _ h in
    λ i. Declared ((bytes_decides n m).0 parts.0 i) (same_path p q parts.1 i)
same_key (Introduced n p a) (Introduced m q b) h =
    let parts = both _ _ h in
    let rest = both _ _ parts.1 in
    λ i. Introduced ((bytes_decides n m).0 parts.0 i) (same_path p q rest.0 i) (same_number a b rest.1 i)
same_key (Opened p) (Opened q) h = ap Opened (same_path p q h)
same_key Nameless Nameless h = refl
same_key Prefix Prefix h = refl
same_key (IdOf p) (IdOf q) h = ap IdOf (same_path p q h)
same_key (Typeprefix p) (Typeprefix q) h = ap Typeprefix (same_path p q h)
same_key key other h = cc

-- a copied key is its source, by the copies of its parts
abbrev pub IsKeyCopy : Key → Key → Type 0
IsKeyCopy Cursor Cursor = Unit {0}
IsKeyCopy (Declared n p) (Declared m q) = (m ≡ n) × (q ≡ p)
IsKeyCopy (Introduced n p a) (Introduced m q b) = (m ≡ n) × ((q ≡ p) × (b ≡ a))
IsKeyCopy (Opened p) (Opened q) = q ≡ p
IsKeyCopy Nameless Nameless = Unit {0}
IsKeyCopy Prefix Prefix = Unit {0}
IsKeyCopy (IdOf p) (IdOf q) = q ≡ p
IsKeyCopy (Typeprefix p) (Typeprefix q) = q ≡ p
IsKeyCopy key copy = ⊥

pub copied_key : (key copy : Key) → IsKeyCopy key copy → copy ≡ key
copied_key Cursor Cursor h = refl
copied_key (Declared n p) (Declared m q) h = λ i. Declared (h.0 i) (h.1 i)
copied_key (Introduced n p a) (Introduced m q b) h = λ i. Introduced (h.0 i) (h.1.0 i) (h.1.1 i)
copied_key (Opened p) (Opened q) h = ap Opened h
copied_key Nameless Nameless h = refl
copied_key Prefix Prefix h = refl
copied_key (IdOf p) (IdOf q) h = ap IdOf h
copied_key (Typeprefix p) (Typeprefix q) h = ap Typeprefix h
copied_key key copy h = absurd h
