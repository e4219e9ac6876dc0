-- Parts of a block one after another.
use Rattle.std.proofs.Common.{◌≡◌, Bool, true, false, cond, not, List, [], ◌∷◌, ◌++◌, append-nil, append_assoc, refl, sym, ap, ◌∙◌}
use Rattle.std.specs.Prelude.{flat_map, map}
use Rattle.std.proofs.lemmas.List.Concat.{flat_map-append}
use Rattle.idl_memo.specs.Query.{outcome, asked}
use Rattle.idl_block.specs.Behind.{laid}
use Rattle.idl_block.specs.Blocks.{Part, Text, Boundary, Ways, block, walk}
use Rattle.idl_block.specs.Questions.{Question, asked_by, looked_at, outer_asked, outer_of, questions, unwritten, written_after}
use Rattle.idl_block.proofs.BlockLaws.{asked-block, outcome-unit}

module _ {K V X T D W O : Type 0} (ways : Ways K V X T D W O) (bank : K → V) where
  -- what is written behind parts
  abbrev pub ended : List (Part T D) → List W → List W
  ended parts written = (outcome (block ways parts written) bank).1

  pub ended-part : (part : Part T D) (parts : List (Part T D)) (written : List W) → ended (part ∷ parts) written ≡ ended parts (written_after ways part written bank)
  ended-part (Boundary d) parts written = refl
  ended-part (Text t) parts written = ap (λ (e : List O × List W). e.1) (outcome-unit ways t parts written bank)

  pub ended-joined : (front parts : List (Part T D)) (written : List W) → ended (front ++ parts) written ≡ ended parts (ended front written)
  ended-joined [] parts written = refl
  ended-joined (part ∷ front) parts written =
      let next : List W = written_after ways part written bank in
      ended-part part (front ++ parts) written
      ∙ ended-joined front parts next
      ∙ ap (ended parts) (sym (ended-part part front written))

  pub questions-joined : (front parts : List (Part T D)) (written : List W)
      → questions ways (front ++ parts) written bank ≡ questions ways front written bank ++ questions ways parts (ended front written) bank
  questions-joined [] parts written = refl
  questions-joined (part ∷ front) parts written =
      let next : List W = written_after ways part written bank in
      let here : List (Question K W) = map (λ k. record { written = written; key = k }) (asked_by ways part written bank) in
      ap (λ qs. here ++ qs) (questions-joined front parts next)
      ∙ sym (append_assoc here (questions ways front next bank) (questions ways parts (ended front next) bank))
      ∙ ap (λ ws. (here ++ questions ways front next bank) ++ questions ways parts ws bank) (sym (ended-part part front written))

  pub outer-joined : (front parts : List (Part T D)) (written : List W)
      → outer_asked ways (front ++ parts) written bank ≡ outer_asked ways front written bank ++ outer_asked ways parts (ended front written) bank
  outer-joined front parts written =
      ap (flat_map (λ q. outer_of ways q bank)) (questions-joined front parts written)
      ∙ flat_map-append (λ q. outer_of ways q bank) (questions ways front written bank) (questions ways parts (ended front written) bank)

  pub asked-joined : (front parts : List (Part T D)) (written : List W)
      → asked (block ways (front ++ parts) written) bank ≡ asked (block ways front written) bank ++ asked (block ways parts (ended front written)) bank
  asked-joined front parts written =
      let looked : Question K W → List K = λ q. looked_at ways q bank in
      asked-block ways (front ++ parts) written bank
      ∙ ap (flat_map looked) (questions-joined front parts written)
      ∙ flat_map-append looked (questions ways front written bank) (questions ways parts (ended front written) bank)
      ∙ (λ i. sym (asked-block ways front written bank) i ++ sym (asked-block ways parts (ended front written) bank) i)

  -- the outer keys of one unit
  outer-keys : (written : List W) (keys : List K) → flat_map (λ q. outer_of ways q bank) (map (λ k. record { written = written; key = k }) keys) ≡ unwritten ways written bank keys
  outer-keys written [] = refl
  outer-keys written (k ∷ keys) = ap (λ ks. outer_of ways (record { written = written; key = k }) bank ++ ks) (outer-keys written keys) ∙ by (ways.is_written written bank k)
    where
      by : (b : Bool) → cond b [] (k ∷ []) ++ unwritten ways written bank keys ≡ cond (not b) (k ∷ unwritten ways written bank keys) (unwritten ways written bank keys)
      by true = refl
      by false = refl

  pub outer-unit : (t : T) (written : List W) → outer_asked ways (Text t ∷ []) written bank ≡ unwritten ways written bank (asked (ways.unit t) (laid ways.answered written bank))
  outer-unit t written =
      let keys : List K = asked (ways.unit t) (laid ways.answered written bank) in
      ap (flat_map (λ q. outer_of ways q bank)) (append-nil (map (λ k. record { written = written; key = k }) keys))
      ∙ outer-keys written keys

module _ {K V X T D W O : Type 0} (ways : Ways K V X T D W O) (answers : List W → K → V) where
  -- what was written stays where units write more, one after another
  pub walk-grows : (parts : List (Part T D)) (written : List W) → (rest : List W) × ((walk ways answers parts written).1 ≡ written ++ rest)
  walk-grows [] written = ([], sym (append-nil written))
  walk-grows (Boundary d ∷ parts) written =
      let r : (rest : List W) × ((walk ways answers parts (written ++ ways.boundary d ∷ [])).1 ≡ (written ++ ways.boundary d ∷ []) ++ rest) =
      walk-grows parts (written ++ ways.boundary d ∷ []) in
      (ways.boundary d ∷ r.0, r.1 ∙ append_assoc written (ways.boundary d ∷ []) r.0)
  walk-grows (Text t ∷ parts) written =
      let w : W = ways.writes (outcome (ways.unit t) (answers written)) in
      let r : (rest : List W) × ((walk ways answers parts (written ++ w ∷ [])).1 ≡ (written ++ w ∷ []) ++ rest) = walk-grows parts (written ++ w ∷ []) in
      (w ∷ r.0, r.1 ∙ append_assoc written (w ∷ []) r.0)
