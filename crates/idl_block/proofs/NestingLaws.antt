-- A block in a block.
use Rattle.std.proofs.Common.{◌≡◌, Bool, true, false, cond, ◌||◌, not, List, [], ◌∷◌, ◌++◌, map, append_assoc, refl, sym, ap, ◌∙◌, subst}
use Rattle.std.specs.Prelude.{flat_map}
use Rattle.std.specs.List.{filter, list_any}
use Rattle.std.proofs.lemmas.List.Elements.{All-head, All-tail, filter-append}
use Rattle.std.proofs.lemmas.List.Concat.{flat_map-append}
use Rattle.std.proofs.lemmas.List.{map-append}
use Rattle.idl_memo.specs.Query.{asked, is_logged, noted, noted_all, outcome, run}
use Rattle.idl_memo.proofs.QueryLaws.{noted_all-append}
use Rattle.idl_block.specs.Behind.{laid}
use Rattle.idl_block.specs.Blocks.{Boundary, Part, Text, Ways, block}
use Rattle.idl_block.specs.Questions.{AreKnown, AreNested, IsNested, Question, asked_by, befores, outer_asked, outer_of, questions, unwritten, written_after, written_by}
use Rattle.idl_block.proofs.BlockLaws.{outcome-unit}
use Rattle.idl_block.proofs.Logged.{here_by, noted-logged, stays}
use Rattle.idl_block.proofs.OuterLaws.{log-outer}

module _ {K V X T D W O : Type 0} (ways : Ways K V X T D W O) (outer : List W) (bank : K → V) where
  -- what is answered where the block stands
  abbrev there : K → V
  there = laid ways.answered outer bank

  -- ---- parts

  same-bank : (written : List W) → IsNested ways outer bank written → laid ways.answered (outer ++ written) bank ≡ laid ways.answered written there
  same-bank written nested = λ i k. nested.laid_over k i

  pub same-asked : (part : Part T D) (written : List W) → IsNested ways outer bank written → asked_by ways part (outer ++ written) bank ≡ asked_by ways part written there
  same-asked (Boundary d) written nested = refl
  same-asked (Text t) written nested = ap (asked (ways.unit t)) (same-bank written nested)

  pub same-after : (part : Part T D) (written : List W) → IsNested ways outer bank written → written_after ways part (outer ++ written) bank ≡ outer ++ written_after ways part written there
  same-after (Boundary d) written nested = append_assoc outer written (ways.boundary d ∷ [])
  same-after (Text t) written nested =
      ap (λ b. (outer ++ written) ++ ways.writes (outcome (ways.unit t) b) ∷ []) (same-bank written nested)
      ∙ append_assoc outer written (written_by ways (Text t) written there ∷ [])

  abbrev Nested : List (Part T D) → List W → Type 0
  Nested parts written =
      let end = outcome (block ways parts written) there in
      outcome (block ways parts (outer ++ written)) bank ≡ (end.0, outer ++ end.1)

  nested-part : (part : Part T D) (parts : List (Part T D)) (written : List W) → IsNested ways outer bank written → Nested parts (written_after ways part written there) → Nested (part ∷ parts) written
  nested-part (Boundary d) parts written nested rest = ap (λ ws. outcome (block ways parts ws) bank) (same-after (Boundary d) written nested) ∙ rest
  nested-part (Text t) parts written nested rest =
      let o : (K → V) → O = λ b. outcome (ways.unit t) b in
      let all : O → List O × List W → List O × List W = λ o end. (o ∷ end.0, end.1) in
      outcome-unit ways t parts (outer ++ written) bank
      ∙ (λ i. all (o (same-bank written nested i)) (outcome (block ways parts ((outer ++ written) ++ ways.writes (o (same-bank written nested i)) ∷ [])) bank))
      ∙ ap (λ ws. all (o (laid ways.answered written there)) (outcome (block ways parts ws) bank)) (append_assoc outer written (written_by ways (Text t) written there ∷ []))
      ∙ ap (all (o (laid ways.answered written there))) rest
      ∙ ap (λ (end : List O × List W). (end.0, outer ++ end.1)) (sym (outcome-unit ways t parts written there))

  -- the units come to the same
  pub outcome-nested : (parts : List (Part T D)) (written : List W) → AreNested ways outer bank parts written → Nested parts written
  outcome-nested [] written nested = refl
  outcome-nested (part ∷ parts) written nested =
      let next : List W = written_after ways part written there in
      let others : List (List W) = befores ways parts next there in
      nested-part part parts written (All-head (IsNested ways outer bank) written others nested) (outcome-nested parts next (All-tail (IsNested ways outer bank) written others nested))

  -- ---- outer keys

  one-nested : (k : K) (b c : Bool) → b ≡ (c || ways.is_written outer bank k) → cond b [] (k ∷ []) ≡ unwritten ways outer bank (cond c [] (k ∷ []))
  one-nested k b true is = ap (λ b. cond b [] (k ∷ [])) is
  one-nested k b false is = ap (λ b. cond b [] (k ∷ [])) is ∙ by (ways.is_written outer bank k)
    where
      by : (d : Bool) → cond d [] (k ∷ []) ≡ cond (not d) (k ∷ []) []
      by true = refl
      by false = refl

  keys-nested : (keys : List K) (written : List W) → IsNested ways outer bank written
      → flat_map (λ q. outer_of ways q bank) (map (λ k. record { written = outer ++ written; key = k }) keys)
      ≡ unwritten ways outer bank (flat_map (λ q. outer_of ways q there) (map (λ k. record { written = written; key = k }) keys))
  keys-nested [] written nested = refl
  keys-nested (k ∷ keys) written nested =
      let p : K → Bool = λ k. not (ways.is_written outer bank k) in
      let first : List K = cond (ways.is_written written there k) [] (k ∷ []) in
      let rest : List K = flat_map (λ q. outer_of ways q there) (map (λ k. record { written = written; key = k }) keys) in
      (λ i. one-nested k (ways.is_written (outer ++ written) bank k) (ways.is_written written there k) (nested.writes k) i ++ keys-nested keys written nested i)
      ∙ sym (filter-append p first rest)

  -- of its outer keys those are asked that the block around it has not written
  pub outer-nested : (parts : List (Part T D)) (written : List W) → AreNested ways outer bank parts written
      → outer_asked ways parts (outer ++ written) bank ≡ unwritten ways outer bank (outer_asked ways parts written there)
  outer-nested [] written nested = refl
  outer-nested (part ∷ parts) written nested =
      let p : K → Bool = λ k. not (ways.is_written outer bank k) in
      let next : List W = written_after ways part written there in
      let others : List (List W) = befores ways parts next there in
      let one : IsNested ways outer bank written = All-head (IsNested ways outer bank) written others nested in
      let here : Question K W → List K = λ q. outer_of ways q bank in
      let inner : Question K W → List K = λ q. outer_of ways q there in
      let asks : List K → List (Question K W) = λ keys. map (λ k. record { written = outer ++ written; key = k }) keys in
      let own : List (Question K W) = map (λ k. record { written = written; key = k }) (asked_by ways part written there) in
      flat_map-append here (asks (asked_by ways part (outer ++ written) bank)) (questions ways parts (written_after ways part (outer ++ written) bank) bank)
      ∙ (λ i. flat_map here (asks (same-asked part written one i)) ++ flat_map here (questions ways parts (same-after part written one i) bank))
      ∙ (λ i. keys-nested (asked_by ways part written there) written one i ++ outer-nested parts next (All-tail (IsNested ways outer bank) written others nested) i)
      ∙ sym (filter-append p (flat_map inner own) (outer_asked ways parts next there))
      ∙ sym (ap (filter p) (flat_map-append inner own (questions ways parts next there)))

  -- ---- the log

  module _ (eq : K → K → Bool) (itself : (x : K) → eq x x ≡ true) (same : (x y : K) → eq x y ≡ true → x ≡ y) where
    module _ (p : K → Bool) where
      logged_in : (log : List (K × V)) (k : K) → is_logged eq log k ≡ list_any (eq k) (map (λ e. e.0) log)
      logged_in [] k = refl
      logged_in (e ∷ log) k = ap (λ b. eq k e.0 || b) (logged_in log k)

      -- a key that passes is logged with those that do
      passes : (keys : List K) (log : List (K × V)) (k : K) → p k ≡ true → list_any (eq k) keys ≡ true → is_logged eq (noted_all eq bank log (filter p keys)) k ≡ true
      passes [] log k pass any = cc
      passes (x ∷ keys) log k pass any = by (λ log any. passes keys log k pass any) (eq k x) refl (p x) refl any
        where
          by : ((log : List (K × V)) → list_any (eq k) keys ≡ true → is_logged eq (noted_all eq bank log (filter p keys)) k ≡ true)
              → (b : Bool) → eq k x ≡ b → (t : Bool) → p x ≡ t → (b || list_any (eq k) keys) ≡ true → is_logged eq (noted_all eq bank log (cond t (x ∷ filter p keys) (filter p keys))) k ≡ true
          by rest true is true px any =
              stays eq bank (filter p keys) (noted eq bank log x) k (subst (λ q. is_logged eq (noted eq bank log x) q ≡ true) (sym (same k x is)) (here_by eq bank itself log x (is_logged eq log x) refl))
          by rest true is false px any = let never : true ≡ false = sym pass ∙ ap p (same k x is) ∙ px in cc
          by rest false is true px any = rest (noted eq bank log x) any
          by rest false is false px any = rest log any

      -- keys that were noted are noted elsewhere as they are themselves
      pub noted-passing : (other : K → V) (keys : List K) (own log : List (K × V))
          → noted_all eq bank log (filter p (map (λ e. e.0) (noted_all eq other own keys))) ≡ noted_all eq bank (noted_all eq bank log (filter p (map (λ e. e.0) own))) (filter p keys)
      noted-passing other [] own log = refl
      noted-passing other (k ∷ keys) own log =
          noted-passing other keys (noted eq other own k) log
          ∙ by (is_logged eq own k) refl (p k) refl
        where
          L : List (K × V)
          L = noted_all eq bank log (filter p (map (λ e. e.0) own))

          by : (b : Bool) → is_logged eq own k ≡ b → (t : Bool) → p k ≡ t
              → noted_all eq bank (noted_all eq bank log (filter p (map (λ e. e.0) (cond b own (own ++ (k, other k) ∷ []))))) (filter p keys)
              ≡ noted_all eq bank L (cond t (k ∷ filter p keys) (filter p keys))
          by true is true pass =
              ap (λ l. noted_all eq bank l (filter p keys))
              (sym (noted-logged eq bank L k (is_logged eq L k) (passes (map (λ e. e.0) own) log k pass (sym (logged_in own k) ∙ is))))
          by true is false pass = refl
          by false is t pass =
              ap (λ ks. noted_all eq bank (noted_all eq bank log (filter p ks)) (filter p keys)) (map-append (λ e. e.0) own ((k, other k) ∷ []))
              ∙ ap (λ ks. noted_all eq bank (noted_all eq bank log ks) (filter p keys)) (filter-append p (map (λ e. e.0) own) (k ∷ []))
              ∙ ap (λ l. noted_all eq bank l (filter p keys)) (noted_all-append eq bank log (filter p (map (λ e. e.0) own)) (filter p (k ∷ [])))
              ∙ last (p k) t pass
            where
              last : (b t : Bool) → b ≡ t → noted_all eq bank (noted_all eq bank L (cond b (k ∷ []) [])) (filter p keys) ≡ noted_all eq bank L (cond t (k ∷ filter p keys) (filter p keys))
              last true true e = refl
              last false false e = refl
              last true false e = cc
              last false true e = cc

    -- the log of the block around it goes on with the keys of the block's
    pub log-nested : (parts : List (Part T D)) (written : List W) (log : List (K × V)) → AreNested ways outer bank parts written → AreKnown ways parts written there
        → let own = (run eq (block ways parts written) there []).1 in
        noted_all eq bank log (outer_asked ways parts (outer ++ written) bank) ≡ noted_all eq bank log (unwritten ways outer bank (map (λ e. e.0) own))
    log-nested parts written log nested known =
        let p : K → Bool = λ k. not (ways.is_written outer bank k) in
        ap (noted_all eq bank log) (outer-nested parts written nested)
        ∙ sym (noted-passing p there (outer_asked ways parts written there) [] log)
        ∙ ap (λ own. noted_all eq bank log (filter p (map (λ e. e.0) own))) (sym (log-outer ways there eq itself same parts written [] known))
