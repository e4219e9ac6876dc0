-- What is inherited, as chains of bases.
use Rattle.std.proofs.Common.{◌≡◌, ◌<◌, ◌++◌, ◌∷◌, [], ℕ, zero, suc, Contains, List, inl, inr, length, true}
use Rattle.std.specs.Prelude.{◌↔◌}
use Rattle.idl_changes.specs.Laws.{IsChain}
use Rattle.idl_changes.specs.Offered.{ancestors, base_places, is_reached, last_first}
use Rattle.idl_changes.proofs.AncestorLemmas.{base-reached, has-last_first, interface-within, last_first-has, reached-either, reached-holds, reached-on}
use Rattle.idl_changes.proofs.HasLemmas.{contains-has, has-contains}
use Rattle.idl_repo.specs.declared.details.row_tree.RowTree.{RowTree}

module _ (L : List RowTree) where
  -- one chain behind another
  chain-on : (ms : List ℕ) (i m n : ℕ) (ns : List ℕ) → IsChain L i ms m → IsChain L m ns n → IsChain L i (ms ++ m ∷ ns) n
  chain-on [] i m n ns first rest = (first, rest)
  chain-on (k ∷ ms) i m n ns first rest = (first.0, chain-on ms k m n ns first.1 rest)

  reached-chain : (z i n : ℕ) → is_reached L z i n ≡ true → (ms : List ℕ) × IsChain L i ms n
  reached-chain zero i n is = ([], has-contains (base_places L i) n is)
  reached-chain (suc z) i n is = elim (reached-either L z i n is) [
    | inl a ↦ reached-chain z i n a
    | inr b ↦
        let front = reached-chain z i z b.0 in
        let back = reached-chain z z n b.1 in
        (front.0 ++ z ∷ back.0, chain-on front.0 i z n back.0 front.1 back.1)
  ]

  within : (i n : ℕ) → is_reached L (length L) i n ≡ true → n < length L
  within i n is = reached-holds L (λ (m : ℕ). m < length L) (interface-within L) (length L) i n is

  chain-reached : (ms : List ℕ) (i n : ℕ) → IsChain L i ms n → is_reached L (length L) i n ≡ true
  chain-reached [] i n is = base-reached L (length L) i n (contains-has (base_places L i) n is)
  chain-reached (m ∷ ms) i n is =
      let first = base-reached L (length L) i m (contains-has (base_places L i) m is.0) in
      reached-on L (length L) i m n (within i m first) first (chain-reached ms m n is.1)

  inherited-chain : (i n : ℕ) → Contains (ancestors L i) n → (ms : List ℕ) × IsChain L i ms n
  unfolding ancestors
  inherited-chain i n is =
      let has = contains-has (ancestors L i) n is in
      reached-chain (length L) i n (last_first-has (is_reached L (length L) i) (length L) n has).1

  chain-inherited : (i n : ℕ) → (ms : List ℕ) × IsChain L i ms n → Contains (ancestors L i) n
  unfolding ancestors
  chain-inherited i n chain =
      let is = chain-reached chain.0 i n chain.1 in
      has-contains (ancestors L i) n (has-last_first (is_reached L (length L) i) (length L) n (within i n is) is)

-- each way
pub inherited-by-chains : (L : List RowTree) (i n : ℕ) → Contains (ancestors L i) n ↔ ((ms : List ℕ) × IsChain L i ms n)
inherited-by-chains L i n = (inherited-chain L i n, chain-inherited L i n)
