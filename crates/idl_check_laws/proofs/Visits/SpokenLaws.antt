-- A name of which something is said: a typeid says what the pragma of an id says, and no name is declared or introduced.
use Rattle.std.proofs.Common.{◌≡◌, ◌∙◌, ℕ, Bool, true, false, cond, List, [], ◌∷◌, Option, None, Some, Result, Ok, Err, refl, sym, ap, subst}
use Rattle.std.proofs.lemmas.List.Elements.{All-head, All-tail}
use Rattle.std.specs.Prelude.{All, fold}
use Rattle.idl_check.specs.ids.About.{Said, about, about_entity, refused_for, unnamed_faults}
use Rattle.idl_check.specs.ids.Remarks.{purpose_of, remark, unless}
use Rattle.idl_check.specs.tables.Rules.{is_no_id}
use Rattle.idl_check.specs.walk.Walk.{Visit, Walk, spoken_of, spoken_visit, turns_at, used, visit}
use Rattle.idl_memo.proofs.QueryLaws.{outcome-and_then}
use Rattle.idl_memo.specs.Query.{Done, outcome}
use Rattle.idl_entity.specs.declared.identity.Fixed.TheVariants.{Id}
use Rattle.idl_env.proofs.FirstLemmas.{addition_at-with_addition}
use Rattle.idl_env.specs.Facts.{addition_at, key_of, over, with_addition}
use Rattle.idl_env.specs.declared.additions.addition.Addition.{Addition}
use Rattle.idl_env.specs.declared.answering.answer.Answer.{Answer}
use Rattle.idl_env.specs.declared.keys.key.Key.{Key}
use Rattle.idl_env.specs.declared.keys.key.Key.TheVariants.{Declared, Introduced}
use Rattle.idl_env.specs.keys.Key.{key_eq}
use Rattle.idl_parts.specs.Part.{Part as item}
use Rattle.idl_parts.specs.declared.part.TextPurpose.{TextPurpose}
use Rattle.idl_parts.specs.declared.part.TextPurpose.TheVariants as purpose
use Rattle.idl_parts.specs.declared.part.Use.{Use}
use Rattle.idl_parts.specs.declared.part.Use.TheVariants.{AsIdentified}
use Rattle.idl_scope.proofs.FactsLaws.{outcome-under}
use Rattle.idl_scope.specs.Lookup.{Lookup, by_result, denoted, under}
use Rattle.idl_scope.specs.declared.fault.NameFault.{NameFault}
use Rattle.idl_scope.specs.declared.found.Found.{Found}
use Rattle.idl_tree.specs.NameParts.{last_at}
use Rattle.idl_tree.specs.declared.name.ScopedName.{ScopedName}
use Rattle.idl_check.proofs.Visits.RemarkLaws.{IsOfIds, of-ids-apart, of-ids-unused, remark-is}
use Rattle.idl_check.proofs.Visits.SiteLaws.{spoken_by}

unless-faults : (b : Bool) (s : Said) → (unless b s).faults ≡ s.faults
unless-faults true s = refl
unless-faults false s = refl

module _ (turns : ℕ) (answers : Key → Option Answer) (w : Walk) (name : ScopedName) where
  abbrev bank : Key → Option Answer
  bank k = over w.own k (answers k)

  abbrev at : ℕ
  at = last_at w.at name

  -- what the pragma says, by what the name denotes
  abbrev about_by : Result Found NameFault → Lookup Said
  about_by r = by_result r (λ found. about_entity at (Id w.text) found.entity) (λ fault. Done (refused_for (unnamed_faults w.at name fault)))

  abbrev IsSame : Visit → Said → Type 0
  IsSame v s = (v.faults ≡ s.faults) × (v.after.own ≡ fold with_addition w.own (unless (is_no_id w.text) s).additions)

  remarked : (found : Found) → outcome (under w.own (remark purpose.Id at w.text found.entity)) answers ≡ unless (is_no_id w.text) (outcome (about_entity at (Id w.text) found.entity) bank)
  remarked found =
      outcome-under w.own answers (remark purpose.Id at w.text found.entity)
      ∙ outcome-and_then (about_entity at (Id w.text) found.entity) (λ s. Done (unless (is_no_id w.text) s)) bank

  refused-same : (b : Bool) (fault : NameFault) → w.own ≡ fold with_addition w.own (unless b (refused_for (unnamed_faults w.at name fault))).additions
  refused-same true fault = refl
  refused-same false fault = refl

  by-same : (r : Result Found NameFault) → IsSame (outcome (spoken_by turns answers purpose.Id name w r) answers) (outcome (about_by r) bank)
  by-same (Ok found) =
      let s = outcome (about_entity at (Id w.text) found.entity) bank in
      let query = under w.own (remark purpose.Id at w.text found.entity) in
      subst (λ (v : Visit). IsSame v s) (sym (outcome-and_then query (λ s. Done (spoken_visit w name found s)) answers))
      (subst (λ (t : Said). IsSame (spoken_visit w name found t) s) (sym (remarked found)) (unless-faults (is_no_id w.text) s, refl))
  by-same (Err fault) = (refl, refused-same (is_no_id w.text) fault)

  said-same : IsSame (outcome (spoken_of turns purpose.Id name w) answers) (outcome (under w.own (about w.at (turns_at turns w) w.cursor name (Id w.text))) answers)
  unfolding spoken_of
  said-same =
      let asks = denoted (turns_at turns w) w.cursor name in
      let query = under w.own asks in
      let said = outcome-under w.own answers (about w.at (turns_at turns w) w.cursor name (Id w.text)) ∙ outcome-and_then asks about_by bank in
      let one : outcome query answers ≡ outcome asks bank = outcome-under w.own answers asks in
      subst (λ (s : Said). IsSame (outcome (spoken_of turns purpose.Id name w) answers) s) (sym said)
      (subst (λ (v : Visit). IsSame v (outcome (about_by (outcome asks bank)) bank)) (sym (outcome-and_then query (spoken_by turns answers purpose.Id name w) answers))
      (subst (λ r. IsSame (outcome (spoken_by turns answers purpose.Id name w (outcome query answers)) answers) (outcome (about_by r) bank)) one (by-same (outcome query answers))))

pub id-said : (turns : ℕ) (answers : Key → Option Answer) (w : Walk) (name : ScopedName)
    → let s = outcome (under w.own (about w.at (turns_at turns w) w.cursor name (Id w.text))) answers in
    let v = outcome (visit turns (item.Uses AsIdentified name) w) answers in
    (v.faults ≡ s.faults) × (v.after.own ≡ fold with_addition w.own (unless (is_no_id w.text) s).additions)
unfolding visit
id-said turns answers w name = said-same turns answers w name

-- ---- nothing is declared or introduced

kept-at : (k : Key) → ((a : Addition) → IsOfIds a → key_eq k (key_of a) ≡ false) → (more own : List Addition) → All IsOfIds more → addition_at (fold with_addition own more) k ≡ addition_at own k
kept-at k apart [] own all = refl
kept-at k apart (a ∷ more) own all =
    kept-at k apart more (with_addition own a) (All-tail IsOfIds a more all)
    ∙ addition_at-with_addition own a k
    ∙ ap (λ b. cond b (Some a) (addition_at own k)) (apart a (All-head IsOfIds a more all))

module _ (turns : ℕ) (answers : Key → Option Answer) (w : Walk) (name : ScopedName) (k : Key) (apart : (a : Addition) → IsOfIds a → key_eq k (key_of a) ≡ false) where
  abbrev IsKept : Visit → Type 0
  IsKept v = addition_at v.after.own k ≡ addition_at w.own k

  by-kept : (p : TextPurpose) (r : Result Found NameFault) → IsKept (outcome (spoken_by turns answers p name w r) answers)
  by-kept p (Ok found) =
      let query = under w.own (remark p (last_at w.at name) w.text found.entity) in
      let is = remark-is w.own answers p (last_at w.at name) w.text found.entity in
      subst IsKept (sym (outcome-and_then query (λ s. Done (spoken_visit w name found s)) answers)) (kept-at k apart (outcome query answers).additions w.own is.adds)
  by-kept p (Err fault) = refl

  spoken-kept : (p : TextPurpose) → IsKept (outcome (spoken_of turns p name w) answers)
  unfolding spoken_of
  spoken-kept p =
      let query = under w.own (denoted (turns_at turns w) w.cursor name) in
      subst IsKept (sym (outcome-and_then query (spoken_by turns answers p name w) answers)) (by-kept p (outcome query answers))

  name-kept : (way : Use) (p : TextPurpose) → purpose_of way ≡ Some p → IsKept (outcome (visit turns (item.Uses way name) w) answers)
  unfolding visit
  name-kept way p h =
      subst (λ o. IsKept (outcome (elim o as (λ _. Lookup Visit) [ None ↦ used turns way name w | Some q ↦ spoken_of turns q name w ]) answers)) (sym h) (spoken-kept p)

pub spoken-alone : (turns : ℕ) (answers : Key → Option Answer) (w : Walk) (way : Use) (p : TextPurpose) (name : ScopedName) (n : List ℕ) (path : List (List ℕ)) (body : ℕ) → purpose_of way ≡ Some p
    → let own = (outcome (visit turns (item.Uses way name) w) answers).after.own in
    (addition_at own (Declared n path) ≡ addition_at w.own (Declared n path)) × (addition_at own (Introduced n path body) ≡ addition_at w.own (Introduced n path body))
spoken-alone turns answers w way p name n path body h = (
  name-kept turns answers w name (Declared n path) (λ a is. of-ids-apart a n path is) way p h,
  name-kept turns answers w name (Introduced n path body) (λ a is. of-ids-unused a n path body is) way p h,
)
