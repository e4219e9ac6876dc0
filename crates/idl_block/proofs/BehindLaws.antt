-- Queries behind what was written.
use Rattle.std.proofs.Common.{◌≡◌, List, ◌++◌, refl, ap, ◌∙◌}
use Rattle.std.specs.Prelude.{flat_map}
use Rattle.idl_memo.specs.Query.{Query, Done, Ask, Tell, outcome, asked}
use Rattle.idl_memo.proofs.QueryLaws.{outcome-and_then, asked-and_then}
use Rattle.idl_block.specs.Behind.{Answering, behind, laid}

module _ {K V X W A : Type 0} (answered : Answering K V X W) (written : List W) where
  -- the outcome is that over the bank with what was written laid over it
  pub outcome-behind : (query : Query K V X A) (bank : K → V) → outcome (behind answered written query) bank ≡ outcome query (laid answered written bank)
  outcome-behind (Done a) bank = refl
  outcome-behind (Ask k next) bank =
      outcome-and_then (answered written k) (λ v. behind answered written (next v)) bank
      ∙ outcome-behind (next (outcome (answered written k) bank)) bank
  outcome-behind (Tell x query) bank = outcome-behind query bank

  -- the keys asked are, for each key that is asked there, those by which it is answered
  pub asked-behind : (query : Query K V X A) (bank : K → V)
      → asked (behind answered written query) bank ≡ flat_map (λ k. asked (answered written k) bank) (asked query (laid answered written bank))
  asked-behind (Done a) bank = refl
  asked-behind (Ask k next) bank =
      asked-and_then (answered written k) (λ v. behind answered written (next v)) bank
      ∙ ap (λ ks. asked (answered written k) bank ++ ks) (asked-behind (next (outcome (answered written k) bank)) bank)
  asked-behind (Tell x query) bank = asked-behind query bank
