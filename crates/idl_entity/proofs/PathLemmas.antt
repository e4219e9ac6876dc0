-- Paths, and the digests beside them.
use Rattle.std.proofs.Common.{◌≡◌, ℕ, Bool, true, false, nat_eq, ◌&&◌, List, ◌∷◌, refl, sym, ap, ◌∙◌}
use Rattle.std.proofs.lemmas.Bool.{eqb-false}
use Rattle.std.specs.Cmp.Lexicographic.{bytes_decides, lists_equiv, nat_list_eq_equiv, slice_cmp}
use Rattle.std.specs.Ordering.{nat_cmp, ordering_then}
use Rattle.std.specs.Str.{bytes_eq}
use Rattle.std.specs.declared.cmp.Ordering.{Ordering}
use Rattle.std.specs.declared.cmp.Ordering.TheVariants.{Less, Equal, Greater}
use Rattle.idl_entity.specs.Digest.{path_digest}
use Rattle.idl_entity.specs.Path.{path_eq, same_path}

differ-test : (p q : List (List ℕ)) (d e : ℕ) → d ≡ path_digest p → e ≡ path_digest q → nat_eq d e ≡ false → (b : Bool) → path_eq p q ≡ b → b ≡ false
differ-test p q d e here there h true one = let same : d ≡ e = here ∙ ap path_digest (same_path p q one) ∙ sym there in absurd (eqb-false d e h same)
differ-test p q d e here there h false other = refl

-- paths with different digests are not one
pub digests_differ : (p q : List (List ℕ)) (d e : ℕ) → d ≡ path_digest p → e ≡ path_digest q → nat_eq d e ≡ false → path_eq p q ≡ false
digests_differ p q d e here there h = differ-test p q d e here there h (path_eq p q) refl

-- behind one name, paths are one where those around are
pub same_first : (m n : List ℕ) (p q : List (List ℕ)) → m ≡ n → path_eq (m ∷ p) (n ∷ q) ≡ path_eq p q
same_first m n p q h = ap (λ b. b && path_eq p q) ((bytes_decides m n).1 h)

-- behind one name, paths come in the order of those around
pub equal_first : (m n : List ℕ) (p q : List (List ℕ)) → slice_cmp nat_cmp m n ≡ Equal → slice_cmp (slice_cmp nat_cmp) (m ∷ p) (n ∷ q) ≡ slice_cmp (slice_cmp nat_cmp) p q
equal_first m n p q h = ap (λ o. ordering_then o (slice_cmp (slice_cmp nat_cmp) p q)) h

-- two names and the scopes of both are one whichever comes first
pub turned : (m n : List ℕ) (p q : List (List ℕ)) → (bytes_eq m n && path_eq p q) ≡ (bytes_eq n m && path_eq q p)
turned m n p q i = nat_list_eq_equiv.symm m n i && (lists_equiv nat_list_eq_equiv).symm p q i

-- behind different names, they come in the order of these
pub less_first : (m n : List ℕ) (p q : List (List ℕ)) → slice_cmp nat_cmp m n ≡ Less → slice_cmp (slice_cmp nat_cmp) (m ∷ p) (n ∷ q) ≡ Less
less_first m n p q h = ap (λ o. ordering_then o (slice_cmp (slice_cmp nat_cmp) p q)) h

pub greater_first : (m n : List ℕ) (p q : List (List ℕ)) → slice_cmp nat_cmp m n ≡ Greater → slice_cmp (slice_cmp nat_cmp) (m ∷ p) (n ∷ q) ≡ Greater
greater_first m n p q h = ap (λ o. ordering_then o (slice_cmp (slice_cmp nat_cmp) p q)) h

pub unequal_first : (m n : List ℕ) (p q : List (List ℕ)) (o : Ordering) → slice_cmp nat_cmp m n ≡ o → (o ≡ Equal → ⊥) → slice_cmp (slice_cmp nat_cmp) (m ∷ p) (n ∷ q) ≡ o
unequal_first m n p q Less h u = less_first m n p q h
unequal_first m n p q Equal h u = absurd (u refl)
unequal_first m n p q Greater h u = greater_first m n p q h
