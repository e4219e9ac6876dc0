-- Keys come in the order of their outlines.
use Rattle.std.proofs.Common.{◌≡◌, ◌∷◌, refl, sym}
use Rattle.std.specs.Cmp.Lexicographic.{slice_cmp}
use Rattle.std.specs.Ordering.{nat_cmp, ordering_then}
use Rattle.std.specs.declared.cmp.Ordering.{Ordering}
use Rattle.std.specs.declared.cmp.Ordering.TheVariants.{Less, Equal}
use Rattle.idl_env.specs.keys.Outline.{outline, outline_cmp}
use Rattle.idl_env.specs.contracts.keys.key.KeyOrd.TheImpl.{ghosts as own_order}
use Rattle.idl_env.specs.declared.keys.key.Key.{Key}
use Rattle.idl_env.specs.declared.keys.key.Key.TheVariants.{Cursor, Declared, Introduced, Opened, Nameless, Prefix, IdOf, Typeprefix}

then-equal : (o : Ordering) → ordering_then o Equal ≡ o
then-equal Less = refl
then-equal other = refl

then-then : (o p q : Ordering) → ordering_then o (ordering_then p q) ≡ ordering_then (ordering_then o p) q
then-then Less p q = refl
then-then other p q = refl

pub cmp-outlines : (x y : Key) → own_order.cmp x y ≡ outline_cmp (outline x) (outline y)
cmp-outlines Cursor Cursor = refl
cmp-outlines Cursor (Declared m q) = refl
cmp-outlines Cursor (Introduced m q b) = refl
cmp-outlines Cursor (Opened q) = refl
cmp-outlines Cursor Nameless = refl
cmp-outlines Cursor Prefix = refl
cmp-outlines Cursor (IdOf q) = refl
cmp-outlines Cursor (Typeprefix q) = refl
cmp-outlines (Declared n p) Cursor = refl
cmp-outlines (Declared n p) (Declared m q) = sym (then-equal (slice_cmp (slice_cmp nat_cmp) (n ∷ p) (m ∷ q)))
cmp-outlines (Declared n p) (Introduced m q b) = refl
cmp-outlines (Declared n p) (Opened q) = refl
cmp-outlines (Declared n p) Nameless = refl
cmp-outlines (Declared n p) Prefix = refl
cmp-outlines (Declared n p) (IdOf q) = refl
cmp-outlines (Declared n p) (Typeprefix q) = refl
cmp-outlines (Introduced n p a) Cursor = refl
cmp-outlines (Introduced n p a) (Declared m q) = refl
cmp-outlines (Introduced n p a) (Introduced m q b) = then-then (slice_cmp nat_cmp n m) (slice_cmp (slice_cmp nat_cmp) p q) (nat_cmp a b)
cmp-outlines (Introduced n p a) (Opened q) = refl
cmp-outlines (Introduced n p a) Nameless = refl
cmp-outlines (Introduced n p a) Prefix = refl
cmp-outlines (Introduced n p a) (IdOf q) = refl
cmp-outlines (Introduced n p a) (Typeprefix q) = refl
cmp-outlines (Opened p) Cursor = refl
cmp-outlines (Opened p) (Declared m q) = refl
cmp-outlines (Opened p) (Introduced m q b) = refl
cmp-outlines (Opened p) (Opened q) = sym (then-equal (slice_cmp (slice_cmp nat_cmp) p q))
cmp-outlines (Opened p) Nameless = refl
cmp-outlines (Opened p) Prefix = refl
cmp-outlines (Opened p) (IdOf q) = refl
cmp-outlines (Opened p) (Typeprefix q) = refl
cmp-outlines Nameless Cursor = refl
cmp-outlines Nameless (Declared m q) = refl
cmp-outlines Nameless (Introduced m q b) = refl
cmp-outlines Nameless (Opened q) = refl
cmp-outlines Nameless Nameless = refl
cmp-outlines Nameless Prefix = refl
cmp-outlines Nameless (IdOf q) = refl
cmp-outlines Nameless (Typeprefix q) = refl
cmp-outlines Prefix Cursor = refl
cmp-outlines Prefix (Declared m q) = refl
cmp-outlines Prefix (Introduced m q b) = refl
cmp-outlines Prefix (Opened q) = refl
cmp-outlines Prefix Nameless = refl
cmp-outlines Prefix Prefix = refl
cmp-outlines Prefix (IdOf q) = refl
cmp-outlines Prefix (Typeprefix q) = refl
cmp-outlines (IdOf p) Cursor = refl
cmp-outlines (IdOf p) (Declared m q) = refl
cmp-outlines (IdOf p) (Introduced m q b) = refl
cmp-outlines (IdOf p) (Opened q) = refl
cmp-outlines (IdOf p) Nameless = refl
cmp-outlines (IdOf p) Prefix = refl
cmp-outlines (IdOf p) (IdOf q) = sym (then-equal (slice_cmp (slice_cmp nat_cmp) p q))
cmp-outlines (IdOf p) (Typeprefix q) = refl
cmp-outlines (Typeprefix p) Cursor = refl
cmp-outlines (Typeprefix p) (Declared m q) = refl
cmp-outlines (Typeprefix p) (Introduced m q b) = refl
cmp-outlines (Typeprefix p) (Opened q) = refl
cmp-outlines (Typeprefix p) Nameless = refl
cmp-outlines (Typeprefix p) Prefix = refl
cmp-outlines (Typeprefix p) (IdOf q) = refl
cmp-outlines (Typeprefix p) (Typeprefix q) = sym (then-equal (slice_cmp (slice_cmp nat_cmp) p q))
