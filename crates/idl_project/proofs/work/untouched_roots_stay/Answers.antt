-- What asks for the same and is answered the same comes to the same.
use Rattle.std.proofs.Common.{◌≡◌, ◌∙◌, ◌↔◌, ◌+◌, ◌++◌, ℕ, All, Bool, true, List, [], ◌∷◌, Option, None, Some, if◌then◌else◌, append-nil, refl, sym, subst, take, ap}
use Rattle.std.proofs.lemmas.List.Elements.{All-contains}
use Rattle.std.specs.FinMap as finite
use Rattle.std.specs.List.{Contains, list_any}
use Rattle.std.specs.Option.{option_eq, option_map}
use Rattle.std.specs.Str.{bytes_eq}
use Rattle.idl_event.specs.Key.{key_eq}
use Rattle.idl_event.specs.contracts.asked.key.RootAnswerPartialEq.TheImpl.{ghosts}
use Rattle.idl_event.specs.declared.asked.key.RootAnswer.{RootAnswer}
use Rattle.idl_event.specs.declared.asked.key.RootKey.{RootKey}
use Rattle.idl_event.specs.declared.told.event.Event.{Event}
use Rattle.idl_finding.specs.declared.finding.Finding.{Finding}
use Rattle.idl_memo.specs.Fresh.{fresh_among, fresh_at, is_alike, log_at, places_over}
use Rattle.idl_memo.specs.Kept.{Kept, result_over}
use Rattle.idl_memo.specs.Query.{HoldsIn}
use Rattle.idl_prep.specs.Root.{expanded, expansion}
use Rattle.idl_sources.specs.idl_related.Related.{AreRelated}
use Rattle.idl_sources.specs.idl_related.declared.second.Related.{Related}
use Rattle.idl_sources.specs.idl_root.Details.{details}
use Rattle.idl_inputs.specs.Asked.{asked_files, asked_of, asked_over}
use Rattle.idl_inputs.specs.Bank.{bank_of}
use Rattle.idl_inputs.specs.Project.{Project}
use Rattle.idl_sources.specs.Compile.{compile_over}
use Rattle.idl_sources.specs.Details.{details_over}
use Rattle.idl_project.specs.Details.{details_of, expansion_of}
use Rattle.idl_project.specs.Related.{AreRelatedIn, AreRelatedTo}
use Rattle.idl_project.specs.Tasks.{RootPlace, answer_eq}
use Rattle.idl_project.specs.UpToDate.{compiled_of, findings_of}
use Rattle.idl_project.specs.Work.{IsPassedOver}
use Rattle.idl_sources.specs.declared.compile.CompiledRoot.{CompiledRoot}
use Rattle.idl_project.proofs.AskedLemmas.{files-alike}
use Rattle.idl_project.proofs.KeptLemmas.{answer_eq-derived, compile-again}
use Rattle.idl_project.proofs.TouchedLemmas.{count-touched, untouched-alike}
use Rattle.idl_project.proofs.work.untouched_roots_stay.Goals as goal

abbrev Run : Type 0
Run = List Event × List (RootKey × Option RootAnswer)

-- what is told of it may be second places of findings of another run with the same events
related-over : (old new : Project) (root : List ℕ) (found : Option (List Finding)) (related : Option (List (List Related))) → (expanded root (bank_of old.inputs)).0 ≡ (expanded root (bank_of new.inputs)).0
    → AreRelatedTo old root found related → AreRelatedTo new root found related
related-over old new root None related same h = h
related-over old new root (Some found) None same h = h
related-over old new root (Some found) (Some related) same h = subst (λ (events : List Event). AreRelated events found related) same h

-- what a root comes to that an edit passes over, and the files that it asks for
module _ (class : (here task : RootPlace) → is_alike bytes_eq (option_eq ghosts.eq) expansion here task ≡ true ↔ (here.0 ≡ task.0) × (log_at key_eq expansion here ≡ log_at key_eq expansion task))
    (answers : (root : List ℕ) (bank : RootKey → Option RootAnswer) → HoldsIn bank (expanded root bank).1)
    (again : (root : List ℕ) (was bank : RootKey → Option RootAnswer) → HoldsIn bank (expanded root was).1 → expanded root bank ≡ expanded root was)
    (old new : Project) (root : List ℕ) (passed : IsPassedOver old new root) where
  abbrev was : RootKey → Option RootAnswer
  was = bank_of old.inputs

  abbrev bank : RootKey → Option RootAnswer
  bank = bank_of new.inputs

  run-same : expanded root bank ≡ expanded root was
  run-same =
      let alike = untouched-alike was old.roots bank new.roots root passed.after passed.untouched in
      let told = subst (λ (e : RootAnswer → RootAnswer → Bool). is_alike bytes_eq (option_eq e) expansion (root, bank) (root, was) ≡ true) (sym answer_eq-derived) alike in
      let logs : (expanded root bank).1 ≡ (expanded root was).1 = ((class (root, bank) (root, was)).0 told).1 in
      again root was bank (subst (HoldsIn bank) logs (answers root bank))

  both-there : {X : Type 0} (x y none : X) → x ≡ y → (if list_any (bytes_eq root) new.roots then x else none) ≡ (if list_any (bytes_eq root) old.roots then y else none)
  both-there x y none same = ap (λ c. if c then x else none) passed.after ∙ same ∙ ap (λ c. if c then y else none) (sym passed.before)

  compiled-same : compiled_of new root ≡ compiled_of old root
  compiled-same =
      let kept : Kept RootKey (Option RootAnswer) (List ℕ) (List Event) = result_over key_eq expansion (root, was) in
      both-there (Some (compile_over bank root)) (Some (compile_over was root)) None
      (ap (λ (r : CompiledRoot). Some r) (sym (compile-again was bank kept refl (sym run-same))))

  details-same : details_of new root ≡ details_of old root
  details-same = both-there (Some (details_over bank root)) (Some (details_over was root)) None (ap (λ (p : Run). Some (details p.0)) run-same)

  expansion-same : expansion_of new root ≡ expansion_of old root
  expansion-same = both-there (Some (expanded root bank).0) (Some (expanded root was).0) None (ap (λ (p : Run). Some p.0) run-same)

  asked-same : asked_of new root ≡ asked_of old root
  asked-same = both-there (asked_over bank root) (asked_over was root) [] (ap (λ (p : Run). asked_files p.1) run-same)

  file-same : (name : List ℕ) → Contains (asked_of old root) name → finite.get new.inputs.files name ≡ finite.get old.inputs.files name
  file-same name asks =
      let P = λ (n : List ℕ). finite.get new.inputs.files n ≡ finite.get old.inputs.files n in
      let now : HoldsIn bank (expanded root was).1 = subst (λ (p : Run). HoldsIn bank p.1) run-same (answers root bank) in
      let all : All P (asked_over was root) = files-alike old.inputs new.inputs (expanded root was).1 (answers root was) now in
      All-contains P (asked_over was root) name all (subst (λ b. Contains (if b then asked_over was root else []) name) passed.before asks)

  related-same : (count : ℕ) (related : Option (List (List Related))) → AreRelatedIn new root count related ↔ AreRelatedIn old root count related
  related-same count related =
      let asked : Option (List Finding) = option_map (take count) (findings_of old root) in
      let found : option_map (take count) (findings_of new root) ≡ asked =
      ap (λ (c : Option CompiledRoot). option_map (take count) (option_map (λ (r : CompiledRoot). r.rows.findings) c)) compiled-same in
      let events : (expanded root bank).0 ≡ (expanded root was).0 = ap (λ (p : Run). p.0) run-same in (
        (λ h. related-over new old root asked related events (subst (λ (f : Option (List Finding)). AreRelatedTo new root f related) found h)),
        (λ h. subst (λ (f : Option (List Finding)). AreRelatedTo new root f related) (sym found) (related-over old new root asked related (sym events) h)),
      )

pub returns-clause-compiled : goal.returns-clause-compiled
returns-clause-compiled c = λ old new root passed. compiled-same c.freshness.ensures.class (λ name b. (c.reliance.ensures.log name b).answers) c.reliance.ensures.again old new root passed

pub returns-clause-details : goal.returns-clause-details
returns-clause-details c = λ old new root passed. details-same c.freshness.ensures.class (λ name b. (c.reliance.ensures.log name b).answers) c.reliance.ensures.again old new root passed

pub returns-clause-expansion : goal.returns-clause-expansion
returns-clause-expansion c = λ old new root passed. expansion-same c.freshness.ensures.class (λ name b. (c.reliance.ensures.log name b).answers) c.reliance.ensures.again old new root passed

pub returns-clause-asked : goal.returns-clause-asked
returns-clause-asked c = λ old new root passed. asked-same c.freshness.ensures.class (λ name b. (c.reliance.ensures.log name b).answers) c.reliance.ensures.again old new root passed

pub returns-clause-files : goal.returns-clause-files
returns-clause-files c = λ old new root name passed asks. file-same c.freshness.ensures.class (λ name b. (c.reliance.ensures.log name b).answers) c.reliance.ensures.again old new root passed name asks

pub returns-clause-related : goal.returns-clause-related
returns-clause-related c = λ old new root count related passed. related-same c.freshness.ensures.class (λ name b. (c.reliance.ensures.log name b).answers) c.reliance.ensures.again old new root passed count related

pub returns-clause-count : goal.returns-clause-count
returns-clause-count c = λ old new once.
    let was = bank_of old.inputs in
    let bank = bank_of new.inputs in
    let none = subst (λ (e : RootAnswer → RootAnswer → Bool). (known : List RootPlace) → fresh_among bytes_eq (option_eq e) expansion known [] ≡ 0) answer_eq-derived c.freshness.ensures.none in
    let one = subst (λ (e : RootAnswer → RootAnswer → Bool). (known : List RootPlace) (here : RootPlace) → fresh_among bytes_eq (option_eq e) expansion known (here ∷ []) ≡ fresh_at bytes_eq (option_eq e) expansion known here) answer_eq-derived c.freshness.ensures.one in
    let split = subst
    (λ (e : RootAnswer → RootAnswer → Bool). (known a b : List RootPlace) → fresh_among bytes_eq (option_eq e) expansion known (a ++ b) ≡ fresh_among bytes_eq (option_eq e) expansion known a + fresh_among bytes_eq (option_eq e) expansion (known ++ a) b)
    answer_eq-derived c.freshness.ensures.split in
    sym (ap (λ (ps : List RootPlace). fresh_among bytes_eq (option_eq answer_eq) expansion ps (places_over bank new.roots)) (sym (append-nil (places_over was old.roots)))
    ∙ count-touched none one split was old.roots bank [] new.roots once)
