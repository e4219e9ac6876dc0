-- Blocks of units: what they come to, and which keys of the bank they ask.
use Rattle.std.proofs.Common.{◌≡◌, List, [], ◌∷◌, ◌++◌, append-nil, append_assoc, refl, sym, ap, ◌∙◌}
use Rattle.std.specs.Prelude.{flat_map, map}
use Rattle.std.proofs.lemmas.List.Elements.{All-head, All-tail}
use Rattle.std.proofs.lemmas.List.Concat.{flat_map-append}
use Rattle.idl_memo.specs.Query.{Query, Done, outcome, asked, and_then}
use Rattle.idl_memo.proofs.QueryLaws.{outcome-and_then, asked-and_then}
use Rattle.idl_block.specs.Behind.{behind, laid}
use Rattle.idl_block.specs.Blocks.{Part, Text, Boundary, Ways, block, walk}
use Rattle.idl_block.specs.Questions.{Question, asked_by, written_after, questions, looked_at, befores, IsOver, AreOver}
use Rattle.idl_block.proofs.BehindLaws.{outcome-behind, asked-behind}

module _ {K V X T D W O : Type 0} (ways : Ways K V X T D W O) where
  -- what follows the outcome of a unit
  abbrev behind_unit : List (Part T D) → List W → O → Query K V X (List O × List W)
  behind_unit parts written o = and_then (block ways parts (written ++ ways.writes o ∷ [])) (λ rest. Done (o ∷ rest.0, rest.1))

  -- a unit first
  pub outcome-unit : (t : T) (parts : List (Part T D)) (written : List W) (bank : K → V)
      → let o = outcome (ways.unit t) (laid ways.answered written bank) in
      let rest = outcome (block ways parts (written ++ ways.writes o ∷ [])) bank in
      outcome (block ways (Text t ∷ parts) written) bank ≡ (o ∷ rest.0, rest.1)
  outcome-unit t parts written bank =
      let o : O = outcome (ways.unit t) (laid ways.answered written bank) in
      outcome-and_then (behind ways.answered written (ways.unit t)) (behind_unit parts written) bank
      ∙ ap (λ p. outcome (behind_unit parts written p) bank) (outcome-behind ways.answered written (ways.unit t) bank)
      ∙ outcome-and_then (block ways parts (written ++ ways.writes o ∷ [])) (λ rest. Done (o ∷ rest.0, rest.1)) bank

  -- ---- over what stands before

  module _ (answers : List W → K → V) (before : List W) where
    abbrev Walked : List (Part T D) → List W → Type 0
    Walked parts written =
        let end = outcome (block ways parts written) (answers before) in
        walk ways answers parts (before ++ written) ≡ (end.0, before ++ end.1)

    walked-part : (part : Part T D) (parts : List (Part T D)) (written : List W) → IsOver ways answers before written
        → Walked parts (written_after ways part written (answers before)) → Walked (part ∷ parts) written
    walked-part (Boundary d) parts written over rest = ap (walk ways answers parts) (append_assoc before written (ways.boundary d ∷ [])) ∙ rest
    walked-part (Text t) parts written over rest =
        let o : O = outcome (ways.unit t) (laid ways.answered written (answers before)) in
        let all : List O × List W = outcome (block ways parts (written ++ ways.writes o ∷ [])) (answers before) in
        let same : outcome (ways.unit t) (answers (before ++ written)) ≡ o = ap (outcome (ways.unit t)) (λ i k. sym (over k) i) in
        let next : O → List O × List W = λ o. (let rest = walk ways answers parts ((before ++ written) ++ ways.writes o ∷ []) in (o ∷ rest.0, rest.1)) in
        let more : List O × List W → List O × List W = λ rest. (o ∷ rest.0, rest.1) in
        ap next same
        ∙ ap (λ ws. more (walk ways answers parts ws)) (append_assoc before written (ways.writes o ∷ []))
        ∙ ap more rest
        ∙ ap (λ (end : List O × List W). (end.0, before ++ end.1)) (sym (outcome-unit t parts written (answers before)))

    -- the units come to what they come to one after another
    pub walk-block : (parts : List (Part T D)) (written : List W) → AreOver ways answers before parts written → Walked parts written
    walk-block [] written over = refl
    walk-block (part ∷ parts) written over =
        let next : List W = written_after ways part written (answers before) in
        let others : List (List W) = befores ways parts next (answers before) in
        walked-part part parts written (All-head (IsOver ways answers before) written others over)
        (walk-block parts next (All-tail (IsOver ways answers before) written others over))

  -- ---- what is asked

  -- of keys that are asked at one place
  looked_at-keys : (written : List W) (keys : List K) (bank : K → V)
      → flat_map (λ q. looked_at ways q bank) (map (λ k. record { written = written; key = k }) keys) ≡ flat_map (λ k. asked (ways.answered written k) bank) keys
  looked_at-keys written [] bank = refl
  looked_at-keys written (k ∷ keys) bank = ap (λ ks. asked (ways.answered written k) bank ++ ks) (looked_at-keys written keys bank)

  asked-part : (part : Part T D) (parts : List (Part T D)) (written : List W) (bank : K → V)
      → asked (block ways (part ∷ parts) written) bank
      ≡ flat_map (λ k. asked (ways.answered written k) bank) (asked_by ways part written bank) ++ asked (block ways parts (written_after ways part written bank)) bank
  asked-part (Boundary d) parts written bank = refl
  asked-part (Text t) parts written bank =
      let o : O = outcome (ways.unit t) (laid ways.answered written bank) in
      let unit : Query K V X O = behind ways.answered written (ways.unit t) in
      let rest : Query K V X (List O × List W) = block ways parts (written ++ ways.writes o ∷ []) in
      let keys : List K = flat_map (λ k. asked (ways.answered written k) bank) (asked (ways.unit t) (laid ways.answered written bank)) in
      asked-and_then unit (behind_unit parts written) bank
      ∙ ap (λ p. asked unit bank ++ asked (behind_unit parts written p) bank) (outcome-behind ways.answered written (ways.unit t) bank)
      ∙ ap (λ ks. ks ++ asked (behind_unit parts written o) bank) (asked-behind ways.answered written (ways.unit t) bank)
      ∙ ap (λ ks. keys ++ ks) (asked-and_then rest (λ rest. Done (o ∷ rest.0, rest.1)) bank ∙ append-nil (asked rest bank))

  -- a block asks, for each of its questions, the keys by which that is answered
  pub asked-block : (parts : List (Part T D)) (written : List W) (bank : K → V)
      → asked (block ways parts written) bank ≡ flat_map (λ q. looked_at ways q bank) (questions ways parts written bank)
  asked-block [] written bank = refl
  asked-block (part ∷ parts) written bank =
      let looked : Question K W → List K = λ q. looked_at ways q bank in
      let next : List W = written_after ways part written bank in
      let here : List (Question K W) = map (λ k. record { written = written; key = k }) (asked_by ways part written bank) in
      asked-part part parts written bank
      ∙ ap (λ ks. ks ++ asked (block ways parts next) bank) (sym (looked_at-keys written (asked_by ways part written bank) bank))
      ∙ ap (λ ks. flat_map looked here ++ ks) (asked-block parts next bank)
      ∙ sym (flat_map-append looked here (questions ways parts next bank))
