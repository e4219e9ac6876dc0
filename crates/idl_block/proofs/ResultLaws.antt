-- What is kept of the units of a block, at two places that agree on its outer keys.
use Rattle.std.proofs.Common.{◌≡◌, Bool, List, [], ◌∷◌, ◌++◌, append_assoc, refl, sym, ap, ◌∙◌}
use Rattle.std.specs.Prelude.{All, flat_map, map}
use Rattle.std.proofs.lemmas.List.Elements.{All-nil, All-cons, All-head, All-tail}
use Rattle.idl_memo.specs.Fresh.{Place}
use Rattle.idl_memo.specs.Kept.{Kept, result_over}
use Rattle.idl_memo.specs.Query.{outcome, asked, Agree}
use Rattle.idl_memo.proofs.QueryLaws.{outcome-agree, run-agree}
use Rattle.idl_block.specs.Behind.{laid}
use Rattle.idl_block.specs.Blocks.{Part, Text, Boundary, Ways, unit_places}
use Rattle.idl_block.specs.Questions.{Question, questions, outer_asked, written_after, looked_at, befores, AreKnown, IsOver, AreOver}
use Rattle.idl_block.proofs.OuterLaws.{All-left, All-right, all_looked}

-- what holds of all that come of others
pub All-unmap : {X Y : Type 0} (P : Y → Type 0) (f : X → Y) (xs : List X) → All P (map f xs) → All (λ x. P (f x)) xs
All-unmap P f [] all = All-nil (λ x. P (f x))
All-unmap P f (x ∷ xs) all = All-cons (λ x. P (f x)) x xs (All-head P (f x) (map f xs) all) (All-unmap P f xs (All-tail P (f x) (map f xs) all))

module _ {K V X T D W O : Type 0} (ways : Ways K V X T D W O) where
  -- the answers that a block has laid over a bank
  abbrev pub over : (K → V) → List W → K → V
  over bank written = laid ways.answered written bank

  -- where what it has written lies over what stands before, its units stand over the same answers
  places-block : (answers : List W → K → V) (before : List W) (parts : List (Part T D)) (written : List W) → AreOver ways answers before parts written
      → unit_places ways answers parts (before ++ written) ≡ unit_places ways (over (answers before)) parts written
  places-block answers before [] written lies = refl
  places-block answers before (Boundary d ∷ parts) written lies =
      let next : List W = written ++ ways.boundary d ∷ [] in
      ap (unit_places ways answers parts) (append_assoc before written (ways.boundary d ∷ []))
      ∙ places-block answers before parts next (All-tail (IsOver ways answers before) written (befores ways parts next (answers before)) lies)
  places-block answers before (Text t ∷ parts) written lies =
      let here : K → V = over (answers before) written in
      let o : O = outcome (ways.unit t) here in
      let next : List W = written ++ ways.writes o ∷ [] in
      let others : List (List W) = befores ways parts next (answers before) in
      let same : answers (before ++ written) ≡ here = λ i k. sym (All-head (IsOver ways answers before) written others lies k) i in
      ap (λ (bank : K → V). (t, bank) ∷ unit_places ways answers parts ((before ++ written) ++ ways.writes (outcome (ways.unit t) bank) ∷ [])) same
      ∙ ap (λ (ws : List W). (t, here) ∷ unit_places ways answers parts ws) (append_assoc before written (ways.writes o ∷ []))
      ∙ ap (λ (places : List (Place K V T)). (t, here) ∷ places)
      (places-block answers before parts next (All-tail (IsOver ways answers before) written others lies))

  module _ (bank other : K → V) where
    -- a question is answered over both alike
    abbrev pub Same : Question K W → Type 0
    Same q = over other q.written q.key ≡ over bank q.written q.key

    pub all-same : (qs : List (Question K W)) → All (λ k. other k ≡ bank k) (flat_map (λ q. looked_at ways q bank) qs) → All Same qs
    all-same [] all = All-nil Same
    all-same (q ∷ qs) all =
        let here : List K = looked_at ways q bank in
        let rest : List K = flat_map (λ q. looked_at ways q bank) qs in
        All-cons Same q qs (outcome-agree (ways.answered q.written q.key) bank other (All-left (λ k. other k ≡ bank k) here rest all))
        (all-same qs (All-right (λ k. other k ≡ bank k) here rest all))

    module _ (eq : K → K → Bool) where
      abbrev result : Place K V T → Kept K V T O
      result place = result_over eq ways.unit place

      -- so the same is kept of its units
      results-same : (parts : List (Part T D)) (written : List W) → All Same (questions ways parts written bank)
          → map result (unit_places ways (over other) parts written) ≡ map result (unit_places ways (over bank) parts written)
      results-same [] written all = refl
      results-same (Boundary d ∷ parts) written all = results-same parts (written ++ ways.boundary d ∷ []) all
      results-same (Text t ∷ parts) written all =
          let keys : List K = asked (ways.unit t) (over bank written) in
          let question : K → Question K W = λ k. record { written = written; key = k } in
          let next : List W = written_after ways (Text t) written bank in
          let rest : List (Question K W) = questions ways parts next bank in
          let agree : Agree keys (over bank written) (over other written) = All-unmap Same question keys (All-left Same (map question keys) rest all) in
          let later = results-same parts next (All-right Same (map question keys) rest all) in
          ap (λ (r : O × List (K × V)). record { text = t; log = r.1; out = r.0 } ∷ map result (unit_places ways (over other) parts (written ++ ways.writes r.0 ∷ [])))
          (run-agree eq (ways.unit t) (over bank written) (over other written) [] agree)
          ∙ ap (λ (results : List (Kept K V T O)). result (t, over bank written) ∷ results) later

  pub results-alike : (eq : K → K → Bool) (answers : List W → K → V) (before other : List W) (parts : List (Part T D)) (written : List W)
      → AreKnown ways parts written (answers before) → Agree (outer_asked ways parts written (answers before)) (answers before) (answers other)
      → AreOver ways answers before parts written → AreOver ways answers other parts written
      → map (λ p. result_over eq ways.unit p) (unit_places ways answers parts (other ++ written)) ≡ map (λ p. result_over eq ways.unit p) (unit_places ways answers parts (before ++ written))
  results-alike eq answers before other parts written known agree here there =
      let qs : List (Question K W) = questions ways parts written (answers before) in
      let looked = all_looked ways (answers before) (λ k. answers other k ≡ answers before k) [] qs known (All-nil (λ k. answers other k ≡ answers before k)) agree in
      ap (map (λ p. result_over eq ways.unit p)) (places-block answers other parts written there)
      ∙ results-same (answers before) (answers other) eq parts written (all-same (answers before) (answers other) qs looked)
      ∙ ap (map (λ p. result_over eq ways.unit p)) (sym (places-block answers before parts written here))
