-- Answers beside which those of two keys stand apart.
use Rattle.std.proofs.Common.{◌≡◌, ◌∙◌, ◌<◌, ℕ, List, ◌∷◌, Result, Ok, Err, None, Some, false, ap, refl, arith}
use Rattle.std.specs.Prelude.{OnErr, OnOk, if◌then◌else◌}
use Rattle.std.specs.Map.{lookup}
use Rattle.idl_env.specs.Facts.{key_of}
use Rattle.idl_env.specs.Held.{IsAmongOthers}
use Rattle.idl_env.specs.keys.Key.{key_digest, key_eq}
use Rattle.idl_env.specs.declared.additions.addition.Addition.{Addition}
use Rattle.idl_env.specs.declared.additions.addition.Addition.TheVariants.{Declares}
use Rattle.idl_env.specs.declared.keys.key.Key.{Key}
use Rattle.idl_env.specs.declared.keys.key.Key.TheVariants.{Cursor, Prefix, Typeprefix}

-- those of the two are asked at no other key
pub lookup-others : {A : Type 0} (k : Key) (cursor prefix : A) (others : List (Key × A)) → IsAmongOthers k → lookup (key_eq k) ((Cursor, cursor) ∷ (Prefix, prefix) ∷ others) ≡ lookup (key_eq k) others
lookup-others Cursor cursor prefix others h = absurd h
lookup-others Prefix cursor prefix others h = absurd h
lookup-others other cursor prefix others h = refl

-- nothing that is added changes those of the two
pub key_of-others : (a : Addition) → IsAmongOthers (key_of a)
key_of-others (Declares e) = tt
key_of-others other = tt

-- their keys have no larger digests
pub among_others-digest : (k : Key) → 262 < key_digest k → IsAmongOthers k
unfolding key_digest
among_others-digest Cursor h = omega (h, arith)
among_others-digest Prefix h = omega (h, arith)
among_others-digest other h = tt

-- where an answer is put in at no key of a typeprefix, there are as few as before
pub no-typeprefixes : {A E X : Type 0} (r : Result A E) (key : Key) (answer : X) (old new : List (Key × X))
    → OnOk r ((k : Key) → lookup (key_eq k) new ≡ (if key_eq k key then Some answer else lookup (key_eq k) old))
    → OnErr r ((k : Key) → lookup (key_eq k) new ≡ lookup (key_eq k) old)
    → (path : List (List ℕ)) → key_eq (Typeprefix path) key ≡ false
    → lookup (key_eq (Typeprefix path)) old ≡ None → lookup (key_eq (Typeprefix path)) new ≡ None
no-typeprefixes (Ok x) key answer old new put kept path other none =
    put (Typeprefix path) ∙ ap (λ b. if b then Some answer else lookup (key_eq (Typeprefix path)) old) other ∙ none
no-typeprefixes (Err x) key answer old new put kept path other none = kept (Typeprefix path) ∙ none
