-- Marks of the digests at whose keys additions are.
use Rattle.std.proofs.Common.{◌≡◌, ℕ, true, List, ap, ◌∙◌}
use Rattle.idl_map.specs.Marks.{AreMarked, is_marked}
use Rattle.idl_map.proofs.MarkLemmas.{AreMarked-put}
use Rattle.idl_env.specs.Facts.{addition_at, key_of, with_addition}
use Rattle.idl_env.specs.keys.Key.{key_digest, key_eq}
use Rattle.idl_env.specs.SameKey.{same_key}
use Rattle.idl_env.specs.declared.additions.addition.Addition.{Addition}
use Rattle.idl_env.proofs.FirstLemmas.{addition_at-with_addition}

-- with one addition more, and its mark
pub AreMarked-with_addition : (marks more : List ℕ) (additions after : List Addition) (a : Addition) → ((other : ℕ) → is_marked marks other ≡ true → is_marked more other ≡ true)
    → is_marked more (key_digest (key_of a)) ≡ true → after ≡ with_addition additions a → AreMarked marks key_digest (addition_at additions) → AreMarked more key_digest (addition_at after)
AreMarked-with_addition marks more additions after a kept marked put are =
    AreMarked-put marks more key_digest kept (addition_at additions) key_eq same_key (addition_at after) (key_of a) a marked
    (λ k. ap (λ l. addition_at l k) put ∙ addition_at-with_addition additions a k)
    are
