-- What a pragma says, run, and its fault.
use Rattle.std.proofs.Common.{◌≡◌, ◌∙◌, ℕ, ◌+◌, ◌≤◌, Bool, true, false, cond, List, [], ◌∷◌, ◌++◌, Option, None, Some, Result, Ok, Err, refl, sym, ap, append-nil, arith}
use Rattle.std.proofs.lemmas.Option.{same_Some}
use Rattle.std.specs.Prelude.{fold, option_to_list}
use Rattle.idl_check.specs.tables.Codes.{faults_by}
use Rattle.idl_check.specs.walk.Held.{identified_by, pragma_by, spoken}
use Rattle.idl_tree.specs.NameParts.{last_at}
use Rattle.idl_check.specs.tables.Rules.{has_id}
use Rattle.idl_check.specs.ids.About.{Said, about, about_entity, refused_for, said_at, unnamed_faults, with_faults}
use Rattle.idl_check.specs.ids.Pragmas.{said, said_by, text_faults}
use Rattle.idl_check.specs.ids.Remarks.{identified, is_bad_id, unless}
use Rattle.idl_check.specs.walk.Verdict.{faulty, pragma_judged, pragma_verdict}
use Rattle.idl_check.specs.declared.walk.verdict.Verdict.{Verdict}
use Rattle.idl_fault.specs.declared.code.Code.TheVariants.{BadIdText, NoRepositoryId}
use Rattle.idl_lex.specs.tokens.Tokens.{Token}
use Rattle.idl_memo.specs.Query.{Done, and_then}
use Rattle.idl_parse.specs.Parse.{pragma_faults}
use Rattle.idl_tree.specs.Pragma.{pragma_of}
use Rattle.idl_memo.proofs.QueryLaws.{run-and_then_at}
use Rattle.idl_scope.specs.Known.{known}
use Rattle.idl_scope.proofs.LookupLaws.RunLemmas.{runs, runs-and_then}
use Rattle.idl_env.specs.Facts.{with_addition}
use Rattle.idl_env.specs.keys.Key.{key_eq}
use Rattle.idl_env.specs.declared.keys.key.Key.{Key}
use Rattle.idl_scope.specs.Lookup.{Lookup, by_result, denoted}
use Rattle.idl_env.specs.declared.additions.addition.Addition.{Addition}
use Rattle.idl_env.specs.declared.additions.addition.Step.{Step}
use Rattle.idl_env.specs.declared.additions.addition.Step.TheVariants.{Stays}
use Rattle.idl_env.specs.declared.answering.answer.Answer.{Answer}
use Rattle.idl_env.specs.declared.answering.answer.Scope.{Scope}
use Rattle.idl_entity.specs.declared.entity.Entity.{Entity}
use Rattle.idl_scope.specs.declared.fault.NameFault.{NameFault}
use Rattle.idl_scope.specs.declared.found.Found.{Found}
use Rattle.idl_entity.specs.declared.identity.Fixed.{Fixed}
use Rattle.idl_entity.specs.declared.identity.Fixed.TheVariants.{Version, Id}
use Rattle.idl_entity.specs.declared.identity.Identity.{Identity}
use Rattle.idl_tree.specs.declared.name.ScopedName.{ScopedName}
use Rattle.idl_tree.specs.declared.pragma.Pragma.{Pragma}
use Rattle.idl_tree.specs.declared.pragma.Pragma.TheVariants as pragma
use Rattle.idl_unit.specs.Faults.{least_fault}
use Rattle.idl_unit.specs.TokenRules.{fault_at}
use Rattle.idl_unit.specs.declared.fault.Fault.{Fault}
use Rattle.idl_check.proofs.Faults.FaultOrder.{leads-later}
use Rattle.idl_check.proofs.PragmaLaws.RemarkLemmas.{unless-refused}
use Rattle.idl_check.proofs.Visits.VisitLemmas.{runs_over}

-- ---- the least fault

-- one at a name comes before that of the text
pub name-first : (fault : Fault) (at : ℕ) (b : Bool) → fault.index ≤ at → least_fault (fault ∷ faults_by (at + 1) ((b, BadIdText) ∷ [])) ≡ Some fault
name-first fault at true h = ap Some (leads-later fault (fault_at (at + 1) BadIdText) (omega (arith, h)))
name-first fault at false h = refl

-- a text that there is where a test holds
pub text-there : (b : Bool) (x y : List ℕ) → Some y ≡ cond b (Some x) None → (b ≡ true) × (y ≡ x)
text-there true x y h = (refl, same_Some y x h)
text-there false x y h = (cc, cc)

pub text-none : (b : Bool) (x : List ℕ) → None ≡ cond b (Some x) None → b ≡ false
text-none true x h = cc
text-none false x h = refl

-- the verdict of what is said, by its least fault
abbrev pub verdict_by : Said → Option Fault → Verdict
verdict_by s o =
    elim o [
      | Some fault ↦ faulty fault Stays
      | None ↦ record { fault = None; writes = record { additions = s.additions; step = s.step }; row = None }
    ]

pub verdict-faulty : (s : Said) (fault : Fault) → least_fault s.faults ≡ Some fault → pragma_verdict s ≡ faulty fault Stays
verdict-faulty s fault h = ap (verdict_by s) h

pub verdict-sound : (s : Said) → least_fault s.faults ≡ None → pragma_verdict s ≡ record { fault = None; writes = record { additions = s.additions; step = s.step }; row = None }
verdict-sound s h = ap (verdict_by s) h

-- what is faulty adds nothing, whatever is said
adds-nothing : (fs : List Fault) (f : Fault) (xs ys : List Addition) (step : Step)
    → pragma_verdict (record { faults = fs ++ f ∷ []; additions = xs; step = step }) ≡ pragma_verdict (record { faults = fs ++ f ∷ []; additions = ys; step = step })
adds-nothing [] f xs ys step = refl
adds-nothing (g ∷ fs) f xs ys step = refl

unless-judged : (at : ℕ) (b : Bool) (s : Said)
    → pragma_verdict (with_faults (faults_by at ((b, BadIdText) ∷ [])) s) ≡ pragma_verdict (with_faults (faults_by at ((b, BadIdText) ∷ [])) (unless b s))
unless-judged at true s = adds-nothing s.faults (fault_at at BadIdText) s.additions [] s.step
unless-judged at false s = refl

-- what is added alone
pub added-alone : (o : Option Addition) → fold with_addition [] (option_to_list o) ≡ option_to_list o
added-alone None = refl
added-alone (Some a) = refl

-- ---- runs

module _ (own : List Addition) (bank : Key → Option Answer) (change : Fixed) where
  abbrev said_if : ℕ → List (List ℕ) → Option Identity → Said
  said_if at path o = elim o [ None ↦ refused_for [] | Some d ↦ said_at at change path d ]

  abbrev about_by : ℕ → Entity → Bool → Lookup Said
  about_by at e b = cond b (and_then (known e.path) (λ d. Done (said_if at e.path d))) (Done (refused_for (fault_at at NoRepositoryId ∷ [])))

  -- of an entity that may have an id
  pub about-known : (at : ℕ) (e : Entity) (log : List (Key × Option Answer)) (d : Option Identity) (after : List (Key × Option Answer)) → has_id e.kind ≡ true
      → (d, after) ≡ runs own bank (known e.path) log → runs own bank (about_entity at change e) log ≡ (said_if at e.path d, after)
  about-known at e log d after h gives =
      ap (λ b. runs own bank (about_by at e b) log) h ∙ runs-and_then own bank (known e.path) (λ d. Done (said_if at e.path d)) log d after gives

  -- and of one that has none
  pub about-none : (at : ℕ) (e : Entity) (log : List (Key × Option Answer)) → has_id e.kind ≡ false
      → runs own bank (about_entity at change e) log ≡ (refused_for (fault_at at NoRepositoryId ∷ []), log)
  about-none at e log h = ap (λ b. runs own bank (about_by at e b) log) h

  -- where its text may be no id
  pub identified-by : (at : ℕ) (e : Entity) (log : List (Key × Option Answer)) (s : Said) (after : List (Key × Option Answer)) → (s, after) ≡ runs own bank (about_entity at change e) log
      → runs own bank (identified at change e) log ≡ (unless (is_bad_id change) s, after)
  identified-by at e log s after h = runs-and_then own bank (about_entity at change e) (λ s. Done (unless (is_bad_id change) s)) log s after h

  module _ (turns : ℕ) (scopes : List Scope) (name : ScopedName) where
    abbrev by_found : Result Found NameFault → Lookup Said
    by_found r = by_result r (λ found. about_entity (last_at 2 name) change found.entity) (λ fault. Done (refused_for (unnamed_faults 2 name fault)))

    abbrev told : Said → Lookup Said
    told s = Done (unless (is_bad_id change) s)

    -- of a name, by what it denotes
    pub told-found : (log : List (Key × Option Answer)) (found : Found) (middle : List (Key × Option Answer)) (s : Said) (after : List (Key × Option Answer))
        → (Ok found, middle) ≡ runs own bank (denoted turns scopes name) log → (s, after) ≡ runs own bank (identified (last_at 2 name) change found.entity) middle
        → (s, after) ≡ runs own bank (identified_by turns scopes name change) log
    told-found log found middle s after h is =
        let at = last_at 2 name in
        let said = runs own bank (about_entity at change found.entity) middle in
        is ∙ identified-by at found.entity middle said.0 said.1 refl
        ∙ sym (runs-and_then own bank (about 2 turns scopes name change) told log said.0 said.1 (sym (runs-and_then own bank (denoted turns scopes name) by_found log (Ok found) middle h)))

    pub told-unfound : (log : List (Key × Option Answer)) (fault : NameFault) (after : List (Key × Option Answer)) → (Err fault, after) ≡ runs own bank (denoted turns scopes name) log
        → (refused_for (unnamed_faults 2 name fault), after) ≡ runs own bank (identified_by turns scopes name change) log
    told-unfound log fault after h =
        let faults = unnamed_faults 2 name fault in
        (λ i. (sym (unless-refused (is_bad_id change) faults) i, after))
        ∙ sym (runs-and_then own bank (about 2 turns scopes name change) told log (refused_for faults) after (sym (runs-and_then own bank (denoted turns scopes name) by_found log (Err fault) after h)))

-- ---- verdicts

-- a pragma, by what it says
spoken-by : (bank : Key → Option Answer) (turns : ℕ) (scopes : List Scope) (p : Pragma) (log : List (Key × Option Answer)) (s : Said) (after : List (Key × Option Answer))
    → (s, after) ≡ runs_over bank (said turns scopes p) log → runs_over bank (spoken turns scopes p) log ≡ (pragma_verdict s, after)
spoken-by bank turns scopes p log s after h = run-and_then_at key_eq (said turns scopes p) (λ s. Done (pragma_verdict s)) bank log s after h

module _ (bank : Key → Option Answer) (turns : ℕ) (scopes : List Scope) (name : ScopedName) (log : List (Key × Option Answer)) where
  -- what is wrong with its text
  abbrev bad : Fixed → Said → Said
  bad change s = with_faults (faults_by (last_at 2 name + 1) ((is_bad_id change, BadIdText) ∷ [])) s

  about-spoken : (change : Fixed) (s : Said) (after : List (Key × Option Answer)) → (s, after) ≡ runs_over bank (about 2 turns scopes name change) log
      → runs_over bank (spoken turns scopes (pragma_by name change)) log ≡ (pragma_verdict (bad change s), after)
  about-spoken (Id text) s after h =
      let more : Said → Said = with_faults (text_faults (last_at 2 name + 1) text) in
      spoken-by bank turns scopes (pragma.Id name text) log (more s) after (sym (run-and_then_at key_eq (about 2 turns scopes name (Id text)) (λ s. Done (more s)) bank log s after h))
  about-spoken (Version major minor) s after h =
      spoken-by bank turns scopes (pragma.Version name major minor) log s after h ∙ (λ i. (pragma_verdict (record s { faults = sym (append-nil s.faults) i }), after))

  -- and one of an id or a version, by what is told of its name
  pub told-spoken : (change : Fixed) (s : Said) (after : List (Key × Option Answer)) → (s, after) ≡ runs_over bank (identified_by turns scopes name change) log
      → runs_over bank (spoken turns scopes (pragma_by name change)) log ≡ (pragma_verdict (bad change s), after)
  told-spoken change s after h =
      let query = about 2 turns scopes name change in
      let told : Said → Lookup Said = λ s. Done (unless (is_bad_id change) s) in
      let said = runs_over bank query log in
      about-spoken change said.0 said.1 refl
      ∙ (λ i. (unless-judged (last_at 2 name + 1) (is_bad_id change) said.0 i, said.1))
      ∙ ap (λ (r : Said × List (Key × Option Answer)). (pragma_verdict (bad change r.0), r.1)) (sym (h ∙ run-and_then_at key_eq query told bank log said.0 said.1 refl))

-- ---- a pragma of these tokens

module _ (turns : ℕ) (tokens : List Token) (inside : Bool) (scopes : List Scope) where
  abbrev judged_by : Option Fault → Option Pragma → Lookup Verdict
  judged_by o p =
      elim o [
        | Some fault ↦ Done (faulty fault Stays)
        | None ↦ and_then (said_by turns scopes p) (λ s. Done (pragma_verdict s))
      ]

  -- by the fault of its form or place
  pub judged-refused : (fault : Fault) → least_fault (pragma_faults tokens inside) ≡ Some fault → pragma_judged turns tokens inside scopes ≡ Done (faulty fault Stays)
  judged-refused fault h = ap (λ o. judged_by o (pragma_of tokens)) h

pub judged-spoken : (bank : Key → Option Answer) (turns : ℕ) (tokens : List Token) (inside : Bool) (scopes : List Scope) (p : Pragma) (log : List (Key × Option Answer))
    → least_fault (pragma_faults tokens inside) ≡ None → pragma_of tokens ≡ Some p → runs_over bank (spoken turns scopes p) log ≡ runs_over bank (pragma_judged turns tokens inside scopes) log
judged-spoken bank turns tokens inside scopes p log none is = λ i. runs_over bank (judged_by turns tokens inside scopes (sym none i) (sym is i)) log
