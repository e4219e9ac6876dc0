-- Runs of a walk and of its sites.
use Rattle.std.proofs.Common.{◌≡◌, ◌∙◌, ℕ, true, false, cond, List, [], ◌∷◌, Option, None, Some, Result, Ok, Err, refl, sym, ap, ◌+◌, ◌≤◌, arith}
use Rattle.std.specs.Prelude.{Bool, slice_get}
use Rattle.idl_memo.specs.Query.{Done, and_then, run}
use Rattle.idl_memo.proofs.QueryLaws.{run-and_then, run-and_then_at}
use Rattle.idl_check.specs.walk.Held.{cut_noted, head_noted, used_noted, visited, spoken_noted}
use Rattle.idl_check.specs.tables.Declaring.{entity_of, standing}
use Rattle.idl_check.specs.told.Types.{looked_through}
use Rattle.idl_check.specs.walk.Walk.{turns_at, Visit, Walk, cut_name, past_name, declared_visit, head_of, head_visit, is_known, is_over, looked_at, noted_in, passed, quiet, unfound_visit, used, used_visit, visit, walk, spoken_of, spoken_visit, unspoken_visit}
use Rattle.idl_check.specs.declared.tables.standing.Standing.{Standing}
use Rattle.idl_env.specs.keys.Key.{key_eq}
use Rattle.idl_scope.specs.Lookup.{Lookup, by_result, denoted, under}
use Rattle.idl_env.specs.declared.answering.answer.Answer.{Answer}
use Rattle.idl_env.specs.declared.answering.answer.Scope.{Scope}
use Rattle.idl_entity.specs.declared.entity.Entity.{Entity}
use Rattle.idl_scope.specs.declared.fault.NameFault.{NameFault}
use Rattle.idl_scope.specs.declared.found.Found.{Found}
use Rattle.idl_env.specs.declared.keys.key.Key.{Key}
use Rattle.idl_parts.specs.Item.{Item}
use Rattle.idl_parts.specs.Part.{Part as item}
use Rattle.idl_parts.specs.declared.part.Declaration.{Declaration}
use Rattle.idl_parts.specs.declared.part.Use.{Use}
use Rattle.idl_tree.specs.declared.name.ScopedName.{ScopedName}
use Rattle.idl_unit.specs.TokenRules.{first}
use Rattle.idl_unit.specs.declared.fault.Fault.{Fault}
use Rattle.idl_env.specs.Facts.{UnitFacts}
use Rattle.idl_env.specs.Turns.{HasTurnsFor, turns_among, turns_for}
use Rattle.idl_env.specs.declared.additions.addition.Addition.{Addition}
use Rattle.idl_check.proofs.Faults.NotedLemmas.{noted_in-quiet}
use Rattle.idl_parts.specs.declared.part.TextPurpose.{TextPurpose}
use Rattle.idl_check.specs.ids.Remarks.{purpose_of, remark}
use Rattle.idl_check.specs.ids.About.{Said}
use Rattle.idl_tree.specs.NameParts.{last_at}

-- turns for the facts before a unit are, with those for its tokens so far, turns for both
pub turns-here : (facts : List UnitFacts) (own : List Addition) (turns : ℕ) → turns_for facts ≤ turns → HasTurnsFor facts own (turns + turns_among own)
turns-here facts own turns h = omega (arith, h)

-- the innermost of scopes
pub first-at : {A : Type 0} (xs : List A) → first xs ≡ slice_get xs 0
first-at [] = refl
first-at (x ∷ xs) = refl

-- a name that is cut, by whether it begins with `::`, and by the parts behind its first
abbrev pub cut_by : ℕ → Use → ScopedName → Walk → Bool → List (List ℕ) → Lookup Visit
cut_by turns way name w is_global parts =
    cond is_global (Done (quiet (past_name name w))) (elim parts [
      | [] ↦ used turns way name w
      | part ∷ parts ↦ and_then (under w.own (denoted (turns_at turns w) w.cursor (head_of name)))
          (λ r. Done (head_visit name w r))
    ])

cut-is : (turns : ℕ) (way : Use) (name : ScopedName) (w : Walk) (is_global : Bool) (parts : List (List ℕ)) → name.is_global ≡ is_global → name.rest ≡ parts
    → cut_noted turns way name w ≡ and_then (cut_by turns way name w is_global parts) (λ v. Done (noted_in v w.fault))
unfolding cut_name
cut-is turns way name w is_global parts global rest = λ i. and_then (cut_by turns way name w (global i) (rest i)) (λ v. Done (noted_in v w.fault))

module _ (bank : Key → Option Answer) where
  -- a run over a bank
  abbrev pub runs_over : {A : Type 0} → Lookup A → List (Key × Option Answer) → A × List (Key × Option Answer)
  runs_over q log = run key_eq q bank log

  -- a site by what it asks
  pub visited_by : {X : Type 0} (q : Lookup X) (g : X → Visit) (fault : Option Fault) (log : List (Key × Option Answer)) (x : X) (after : List (Key × Option Answer))
      → (x, after) ≡ runs_over q log
      → runs_over (and_then (and_then q (λ x. Done (g x))) (λ v. Done (noted_in v fault))) log ≡ (noted_in (g x) fault, after)
  visited_by q g fault log x after h =
      run-and_then_at key_eq (and_then q (λ x. Done (g x))) (λ v. Done (noted_in v fault)) bank log (g x) after
      (sym (run-and_then_at key_eq q (λ x. Done (g x)) bank log x after h))

  -- and one in a scope, by what stands there under it
  pub declared_in : (turns : ℕ) (way : Declaration) (name : List ℕ) (w : Walk) (log : List (Key × Option Answer)) (s : Scope) (there : Standing) (after : List (Key × Option Answer))
      → first w.cursor ≡ Some s → (there, after) ≡ runs_over (under w.own (standing (turns_at turns w) s (entity_of w.written way name s.path))) log
      → runs_over (visited turns (item.Declares way name) w) log ≡ (noted_in (declared_visit w way s (entity_of w.written way name s.path) there) w.fault, after)
  unfolding visit
  declared_in turns way name w log s there after h gives =
      ap (λ o. runs_over (and_then (elim o [
        | None ↦ Done (quiet (passed 1 w))
        | Some s ↦ and_then (under w.own (standing (turns_at turns w) s (entity_of w.written way name s.path)))
            (λ there. Done (declared_visit w way s (entity_of w.written way name s.path) there))
      ]) (λ v. Done (noted_in v w.fault))) log) h
      ∙ visited_by (under w.own (standing (turns_at turns w) s (entity_of w.written way name s.path))) (declared_visit w way s (entity_of w.written way name s.path)) w.fault log there after gives

  -- a used name, by what it denotes and what stands behind that
  abbrev by_found : ℕ → Use → ScopedName → Walk → Result Found NameFault → Lookup Visit
  by_found turns way name w r =
      by_result r
      (λ found. and_then (under w.own (looked_through (turns_at turns w) way found.entity)) (λ behind. Done (used_visit w way name found behind)))
      (λ fault. Done (unfound_visit w way name fault))

  pub used_by : (turns : ℕ) (way : Use) (name : ScopedName) (w : Walk) (log : List (Key × Option Answer)) (found : Found) (middle : List (Key × Option Answer)) (behind : Entity) (after : List (Key × Option Answer))
      → (Ok found, middle) ≡ runs_over (under w.own (denoted (turns_at turns w) w.cursor name)) log
      → (behind, after) ≡ runs_over (under w.own (looked_through (turns_at turns w) way found.entity)) middle
      → runs_over (used_noted turns way name w) log ≡ (noted_in (used_visit w way name found behind) w.fault, after)
  unfolding used
  used_by turns way name w log found middle behind after gives through =
      let found_by = under w.own (denoted (turns_at turns w) w.cursor name) in
      let behind_by = under w.own (looked_through (turns_at turns w) way found.entity) in
      run-and_then_at key_eq (and_then found_by (by_found turns way name w)) (λ v. Done (noted_in v w.fault)) bank log (used_visit w way name found behind) after
      (sym (run-and_then_at key_eq found_by (by_found turns way name w) bank log (Ok found) middle gives
      ∙ run-and_then_at key_eq behind_by (λ b. Done (used_visit w way name found b)) bank middle behind after through))

  -- and one that denotes nothing
  pub unfound_by : (turns : ℕ) (way : Use) (name : ScopedName) (w : Walk) (log : List (Key × Option Answer)) (fault : NameFault) (after : List (Key × Option Answer))
      → (Err fault, after) ≡ runs_over (under w.own (denoted (turns_at turns w) w.cursor name)) log
      → runs_over (used_noted turns way name w) log ≡ (noted_in (unfound_visit w way name fault) w.fault, after)
  unfolding used
  unfound_by turns way name w log fault after gives =
      let found_by = under w.own (denoted (turns_at turns w) w.cursor name) in
      run-and_then_at key_eq (and_then found_by (by_found turns way name w)) (λ v. Done (noted_in v w.fault)) bank log (unfound_visit w way name fault) after
      (sym (run-and_then_at key_eq found_by (by_found turns way name w) bank log (Err fault) after gives))

  -- a name of which something is said, by what it denotes and what that is
  abbrev by_spoken : ℕ → TextPurpose → ScopedName → Walk → Result Found NameFault → Lookup Visit
  by_spoken turns p name w r =
      by_result r
      (λ found. and_then (under w.own (remark p (last_at w.at name) w.text found.entity)) (λ s. Done (spoken_visit w name found s)))
      (λ fault. Done (unspoken_visit w name fault))

  pub spoken_by : (turns : ℕ) (p : TextPurpose) (name : ScopedName) (w : Walk) (log : List (Key × Option Answer)) (found : Found) (middle : List (Key × Option Answer)) (s : Said) (after : List (Key × Option Answer))
      → (Ok found, middle) ≡ runs_over (under w.own (denoted (turns_at turns w) w.cursor name)) log
      → (s, after) ≡ runs_over (under w.own (remark p (last_at w.at name) w.text found.entity)) middle
      → runs_over (spoken_noted turns p name w) log ≡ (noted_in (spoken_visit w name found s) w.fault, after)
  unfolding spoken_of
  spoken_by turns p name w log found middle s after gives said =
      let found_by = under w.own (denoted (turns_at turns w) w.cursor name) in
      let said_by = under w.own (remark p (last_at w.at name) w.text found.entity) in
      run-and_then_at key_eq (and_then found_by (by_spoken turns p name w)) (λ v. Done (noted_in v w.fault)) bank log (spoken_visit w name found s) after
      (sym (run-and_then_at key_eq found_by (by_spoken turns p name w) bank log (Ok found) middle gives
      ∙ run-and_then_at key_eq said_by (λ s. Done (spoken_visit w name found s)) bank middle s after said))

  pub unspoken_by : (turns : ℕ) (p : TextPurpose) (name : ScopedName) (w : Walk) (log : List (Key × Option Answer)) (fault : NameFault) (after : List (Key × Option Answer))
      → (Err fault, after) ≡ runs_over (under w.own (denoted (turns_at turns w) w.cursor name)) log
      → runs_over (spoken_noted turns p name w) log ≡ (noted_in (unspoken_visit w name fault) w.fault, after)
  unfolding spoken_of
  unspoken_by turns p name w log fault after gives =
      let found_by = under w.own (denoted (turns_at turns w) w.cursor name) in
      run-and_then_at key_eq (and_then found_by (by_spoken turns p name w)) (λ v. Done (noted_in v w.fault)) bank log (unspoken_visit w name fault) after
      (sym (run-and_then_at key_eq found_by (by_spoken turns p name w) bank log (Err fault) after gives))

  -- a name of which something is said, and else one that is looked at whole or cut
  abbrev named : ℕ → Use → ScopedName → Walk → List (Key × Option Answer) → Option TextPurpose → Bool → Walk × List (Key × Option Answer)
  named turns way name w log o b =
      runs_over (and_then (elim o as (λ _. Lookup Visit) [ None ↦ cond b (cut_name turns way name w) (used turns way name w) | Some p ↦ spoken_of turns p name w ]) (λ v. Done (noted_in v w.fault))) log

  pub named-spoken : (turns : ℕ) (way : Use) (p : TextPurpose) (name : ScopedName) (w : Walk) (log : List (Key × Option Answer)) → purpose_of way ≡ Some p
      → runs_over (visited turns (item.Uses way name) w) log ≡ runs_over (spoken_noted turns p name w) log
  named-spoken turns way p name w log some = λ i. named turns way name w log (some i) (is_known (w.at + 1) w)

  pub named-whole : (turns : ℕ) (way : Use) (name : ScopedName) (w : Walk) (log : List (Key × Option Answer)) → purpose_of way ≡ None → is_known (w.at + 1) w ≡ false
      → runs_over (visited turns (item.Uses way name) w) log ≡ runs_over (used_noted turns way name w) log
  named-whole turns way name w log none h = λ i. named turns way name w log (none i) (h i)

  pub named-cut : (turns : ℕ) (way : Use) (name : ScopedName) (w : Walk) (log : List (Key × Option Answer)) → purpose_of way ≡ None → is_known (w.at + 1) w ≡ true
      → runs_over (visited turns (item.Uses way name) w) log ≡ runs_over (cut_noted turns way name w) log
  named-cut turns way name w log none h = λ i. named turns way name w log (none i) (h i)

  -- of one that is cut, nothing, all, or the first part
  pub cut-global : (turns : ℕ) (way : Use) (name : ScopedName) (w : Walk) (log : List (Key × Option Answer)) → name.is_global ≡ true
      → runs_over (cut_noted turns way name w) log ≡ (past_name name w, log)
  cut-global turns way name w log global = ap (λ q. runs_over q log) (cut-is turns way name w true name.rest global refl) ∙ (λ i. (noted_in-quiet (past_name name w) w.fault i, log))

  pub cut-whole : (turns : ℕ) (way : Use) (name : ScopedName) (w : Walk) (log : List (Key × Option Answer)) → name.is_global ≡ false → name.rest ≡ []
      → runs_over (cut_noted turns way name w) log ≡ runs_over (used_noted turns way name w) log
  cut-whole turns way name w log local none = ap (λ q. runs_over q log) (cut-is turns way name w false [] local none)

  pub cut-head : (turns : ℕ) (way : Use) (name : ScopedName) (w : Walk) (log : List (Key × Option Answer)) → name.is_global ≡ false → (name.rest ≡ [] → ⊥)
      → runs_over (cut_noted turns way name w) log ≡ runs_over (head_noted turns name w) log
  cut-head turns way name w log local some = by_rest name.rest refl
    where
      head : Lookup (Result Found NameFault)
      head = under w.own (denoted (turns_at turns w) w.cursor (head_of name))

      by_rest : (rest : List (List ℕ)) → name.rest ≡ rest → runs_over (cut_noted turns way name w) log ≡ runs_over (head_noted turns name w) log
      by_rest [] none = absurd (some none)
      by_rest (part ∷ parts) is =
          ap (λ q. runs_over q log) (cut-is turns way name w false (part ∷ parts) local is)
          ∙ visited_by head (head_visit name w) w.fault log (runs_over head log).0 (runs_over head log).1 refl
          ∙ sym (run-and_then key_eq head (λ r. Done (noted_in (head_visit name w r) w.fault)) bank log)

  -- of the first part of a name, by what it denotes
  pub head_by : (turns : ℕ) (name : ScopedName) (w : Walk) (log : List (Key × Option Answer)) (r : Result Found NameFault) (after : List (Key × Option Answer))
      → (r, after) ≡ runs_over (under w.own (denoted (turns_at turns w) w.cursor (head_of name))) log
      → runs_over (head_noted turns name w) log ≡ (noted_in (head_visit name w r) w.fault, after)
  head_by turns name w log r after h =
      run-and_then_at key_eq (under w.own (denoted (turns_at turns w) w.cursor (head_of name))) (λ r. Done (noted_in (head_visit name w r) w.fault)) bank log r after h

  -- a walk that is over
  pub walk_over : (turns : ℕ) (sites : List Item) (w : Walk) (log : List (Key × Option Answer)) → is_over w ≡ true → runs_over (walk turns sites w) log ≡ (w, log)
  unfolding walk
  walk_over turns [] w log h = refl
  walk_over turns (site ∷ sites) w log h = ap (λ b. runs_over (cond b (Done w) (and_then (looked_at turns site w) (λ v. walk turns sites (noted_in v w.fault)))) log) h

  -- a walk with no site left
  pub walk_end : (turns : ℕ) (w : Walk) (log : List (Key × Option Answer)) → runs_over (walk turns [] w) log ≡ (w, log)
  unfolding walk
  walk_end turns w log = refl

  -- one site more
  pub walk_on : (turns : ℕ) (site : Item) (sites : List Item) (w : Walk) (log : List (Key × Option Answer)) (next : Walk) (after : List (Key × Option Answer))
      → is_over w ≡ false → (next, after) ≡ runs_over (visited turns site w) log
      → runs_over (walk turns (site ∷ sites) w) log ≡ runs_over (walk turns sites next) after
  unfolding walk
  walk_on turns site sites w log next after h gives =
      ap (λ b. runs_over (cond b (Done w) (and_then (looked_at turns site w) (λ v. walk turns sites (noted_in v w.fault)))) log) h
      ∙ run-and_then key_eq (looked_at turns site w) (λ v. walk turns sites (noted_in v w.fault)) bank log
      ∙ ap (λ (p : Walk × List (Key × Option Answer)). runs_over (walk turns sites p.0) p.1)
      (sym (gives ∙ run-and_then key_eq (looked_at turns site w) (λ v. Done (noted_in v w.fault)) bank log))
