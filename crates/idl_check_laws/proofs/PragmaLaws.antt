-- What comes of a pragma: its least fault, or what it says.
use Rattle.std.proofs.Common.{◌≡◌, ◌∙◌, ℕ, suc, ◌+◌, ◌<◌, Bool, true, false, cond, List, [], ◌∷◌, ◌++◌, length, Option, None, Some, Result, Ok, Err, is_some, refl, sym, ap, subst, arith}
use Rattle.std.proofs.lemmas.List.Elements.{All-append, All-cons, All-nil}
use Rattle.std.specs.Prelude.{◌≢◌, All, fold, not}
use Rattle.idl_check.specs.walk.AllFaults.{or_else}
use Rattle.idl_check.specs.tables.Codes.{faults_by}
use Rattle.idl_tree.specs.NameParts.{last_at, part_at}
use Rattle.idl_check.specs.tables.Rules.{has_id, is_fixed, is_given, is_id, is_visible}
use Rattle.idl_check.specs.walk.Judging.{IsSpoken}
use Rattle.idl_check.specs.ids.About.{Said, about, about_entity, refused_for, repeated, said_at, unnamed_faults, with_faults}
use Rattle.idl_check.specs.ids.Pragmas.{said, said_by, text_faults}
use Rattle.idl_check.specs.tables.Using.{name_code}
use Rattle.idl_check.specs.walk.Verdict.{faulty, pragma_verdict, verdict}
use Rattle.idl_check.specs.declared.walk.verdict.Verdict.{Verdict}
use Rattle.idl_fault.specs.declared.code.Code.{Code}
use Rattle.idl_fault.specs.declared.code.Code.TheVariants.{BadIdText, MalformedPragma, NoRepositoryId, PragmaInside, RepeatedId, RepeatedVersion}
use Rattle.idl_lex.specs.tokens.Tokens.{Token}
use Rattle.idl_memo.specs.Query.{Done, and_then, asked, outcome}
use Rattle.idl_memo.proofs.QueryLaws.{outcome-and_then}
use Rattle.idl_env.specs.Facts.{scopes_in}
use Rattle.idl_scope.specs.Known.{known}
use Rattle.idl_scope.specs.Lookup.{Lookup, by_result, denoted}
use Rattle.idl_env.specs.declared.additions.addition.Step.TheVariants.{Stays}
use Rattle.idl_env.specs.declared.answering.answer.Answer.{Answer}
use Rattle.idl_env.specs.declared.answering.answer.Scope.{Scope}
use Rattle.idl_entity.specs.declared.entity.Entity.{Entity}
use Rattle.idl_scope.specs.declared.fault.NameFault.{NameFault}
use Rattle.idl_scope.specs.declared.fault.NameFault.TheVariants.{At, Memory}
use Rattle.idl_scope.specs.declared.found.Found.{Found}
use Rattle.idl_entity.specs.declared.identity.Fixed.{Fixed}
use Rattle.idl_entity.specs.declared.identity.Fixed.TheVariants.{Version, Id}
use Rattle.idl_entity.specs.declared.identity.Identity.{Identity}
use Rattle.idl_env.specs.declared.keys.key.Key.{Key}
use Rattle.idl_env.specs.declared.keys.key.Key.TheVariants.{Cursor}
use Rattle.idl_check.specs.idl_parse.Parse.{pragma_faults}
use Rattle.idl_tree.specs.Pragma.{pragma_of}
use Rattle.idl_tree.specs.declared.name.ScopedName.{ScopedName}
use Rattle.idl_tree.specs.declared.pragma.Pragma.{Pragma}
use Rattle.idl_tree.specs.declared.pragma.Pragma.TheVariants as pragma
use Rattle.idl_unit.specs.Faults.{least_fault, lesser_fault}
use Rattle.idl_unit.specs.TokenRules.{fault_at}
use Rattle.idl_unit.specs.declared.fault.Fault.{Fault}
use Rattle.idl_unit.specs.declared.unit.UnitText.{UnitText}
use Rattle.idl_unit.specs.declared.unit.UnitText.TheVariants as unit
use Rattle.idl_check.proofs.Faults.FaultOrder.{least-in}
use Rattle.idl_check.proofs.Faults.LeastFault.{least-none}
use Rattle.idl_check.proofs.PartLemmas.{IsUpTo, denoted-IsUpTo}
use Rattle.idl_check.proofs.PragmaLaws.PragmaLemmas.{verdict_by}
use Rattle.idl_check.proofs.PragmaLaws.PragmaTokens.{end_of, pragma-length}
use Rattle.idl_check.proofs.Visits.VerdictLaws.{least-tokens}
use Rattle.idl_check.proofs.Faults.VisitFaults.{visit_unit_faults}

fault-by : (s : Said) (o : Option Fault) → (verdict_by s o).fault ≡ o
fault-by s None = refl
fault-by s (Some f) = refl

by-fault : (s : Said) (o : Option Fault) (f : Fault) → (verdict_by s o).fault ≡ Some f → verdict_by s o ≡ faulty f Stays
by-fault s None f h = cc
by-fault s (Some g) f h = let same : g ≡ f = cc in ap (λ x. faulty x Stays) same

module _ (turns : ℕ) (answers : Key → Option Answer) (scopes : List Scope) where
  -- what tokens say, if they are a pragma
  abbrev pub comes_of : Option Pragma → Said
  comes_of p = outcome (said_by turns scopes p) answers

  -- the verdict, by the faults of form and place
  abbrev judged_by : List Fault → Option Pragma → Lookup Verdict
  judged_by fs p =
      elim (least_fault fs) [
        | Some fault ↦ Done (faulty fault Stays)
        | None ↦ and_then (said_by turns scopes p) (λ s. Done (pragma_verdict s))
      ]

  by-saying : (p : Option Pragma) → outcome (judged_by [] p) answers ≡ pragma_verdict (comes_of p)
  by-saying p = outcome-and_then (said_by turns scopes p) (λ s. Done (pragma_verdict s)) answers

  -- its fault is the least of all
  pub least-by : (fs : List Fault) (p : Option Pragma) → (outcome (judged_by fs p) answers).fault ≡ least_fault (or_else turns answers fs (comes_of p).faults)
  least-by [] p = ap (λ (v : Verdict). v.fault) (by-saying p) ∙ fault-by (comes_of p) (least_fault (comes_of p).faults)
  least-by (f ∷ fs) p = refl

  -- with a fault it adds nothing
  pub faulty-by : (fs : List Fault) (p : Option Pragma) (f : Fault) → (outcome (judged_by fs p) answers).fault ≡ Some f → outcome (judged_by fs p) answers ≡ faulty f Stays
  faulty-by [] p f h =
      by-saying p
      ∙ by-fault (comes_of p) (least_fault (comes_of p).faults) f (ap (λ (v : Verdict). v.fault) (sym (by-saying p)) ∙ h)
  faulty-by (g ∷ fs) p f h = let same : fold lesser_fault g fs ≡ f = cc in ap (λ x. faulty x Stays) same

  -- and without one what it says
  pub sound-by : (fs : List Fault) (p : Option Pragma) → (outcome (judged_by fs p) answers).fault ≡ None
      → (fs ≡ []) × ((comes_of p).faults ≡ []) × (outcome (judged_by fs p) answers ≡ verdict_by (comes_of p) None)
  sound-by [] p h =
      let none : (comes_of p).faults ≡ [] = least-none (comes_of p).faults (sym (least-by [] p) ∙ h) in
      (refl, none, by-saying p ∙ ap (λ fs. verdict_by (comes_of p) (least_fault fs)) none)
  sound-by (g ∷ fs) p h = (cc, cc, cc)

  -- faults of form or place: nothing more is asked
  pub asks-by : (fs : List Fault) (p : Option Pragma) → fs ≢ [] → asked (judged_by fs p) answers ≡ []
  asks-by [] p some = absurd (some refl)
  asks-by (f ∷ fs) p some = refl

  pub asks-prefix : (fs : List Fault) (text : List ℕ) → asked (judged_by fs (Some (pragma.Prefix text))) answers ≡ []
  asks-prefix [] text = refl
  asks-prefix (f ∷ fs) text = refl

-- ---- a pragma without faults of form and place

form-none : (inside b : Bool) → cond inside (fault_at 0 PragmaInside ∷ []) [] ++ cond b [] (fault_at 0 MalformedPragma ∷ []) ≡ [] → (inside ≡ false) × (b ≡ true)
form-none false true h = (refl, refl)
form-none false false h = cc
form-none true b h = cc

is-some : {X : Type 0} (o : Option X) → is_some o ≡ true → (x : X) × (o ≡ Some x)
is-some None h = cc
is-some (Some x) h = (x, refl)

module _ (turns : ℕ) (tokens : List Token) (inside : Bool) (answers : Key → Option Answer) where
  pub least-pragma : (outcome (verdict turns (unit.Pragma tokens inside)) answers).fault ≡ least_fault (visit_unit_faults turns answers (unit.Pragma tokens inside))
  unfolding verdict
  least-pragma = least-by turns answers (scopes_in (answers Cursor)) (pragma_faults tokens inside) (pragma_of tokens)

  pub faulty-pragma : (f : Fault) → (outcome (verdict turns (unit.Pragma tokens inside)) answers).fault ≡ Some f → outcome (verdict turns (unit.Pragma tokens inside)) answers ≡ faulty f Stays
  unfolding verdict
  faulty-pragma = faulty-by turns answers (scopes_in (answers Cursor)) (pragma_faults tokens inside) (pragma_of tokens)

  pub spoken-pragma : (outcome (verdict turns (unit.Pragma tokens inside)) answers).fault ≡ None → IsSpoken turns answers tokens inside (outcome (verdict turns (unit.Pragma tokens inside)) answers)
  unfolding verdict
  spoken-pragma h =
      let scopes = scopes_in (answers Cursor) in
      let sound = sound-by turns answers scopes (pragma_faults tokens inside) (pragma_of tokens) h in
      let form = form-none inside (is_some (pragma_of tokens)) sound.0 in
      let found = is-some (pragma_of tokens) form.1 in
      record {
        pragma = found.0;
        outside = form.0;
        formed = found.1;
        sound = ap (λ p. (comes_of turns answers scopes p).faults) (sym found.1) ∙ sound.1;
        is = sound.2 ∙ ap (λ p. verdict_by (comes_of turns answers scopes p) None) found.1;
      }

  pub asks-pragma : pragma_faults tokens inside ≢ [] → asked (verdict turns (unit.Pragma tokens inside)) answers ≡ Cursor ∷ []
  unfolding verdict
  asks-pragma some = ap (λ ks. Cursor ∷ ks) (asks-by turns answers (scopes_in (answers Cursor)) (pragma_faults tokens inside) (pragma_of tokens) some)

  pub prefix-asks : (text : List ℕ) → pragma_of tokens ≡ Some (pragma.Prefix text) → asked (verdict turns (unit.Pragma tokens inside)) answers ≡ Cursor ∷ []
  unfolding verdict
  prefix-asks text h =
      let scopes = scopes_in (answers Cursor) in
      let fs = pragma_faults tokens inside in
      ap (λ p. Cursor ∷ asked (judged_by turns answers scopes fs p) answers) h
      ∙ ap (λ ks. Cursor ∷ ks) (asks-prefix turns answers scopes fs text)

-- ---- a fault that is told stands at a token

-- before the token with this number
abbrev Before : ℕ → Fault → Type 0
Before n f = f.index < n

one-before : (n at : ℕ) (c : Code) → at < n → All (Before n) (fault_at at c ∷ [])
one-before n at c lt = All-cons (Before n) (fault_at at c) [] lt (All-nil (Before n))

test-before : (n at : ℕ) (b : Bool) (c : Code) → at < n → All (Before n) (faults_by at ((b, c) ∷ []))
test-before n at true c lt = one-before n at c lt
test-before n at false c lt = All-nil (Before n)

module _ (turns : ℕ) (answers : Key → Option Answer) (scopes : List Scope) (n : ℕ) where
  repeated-before : (at : ℕ) (change : Fixed) (path : List (List ℕ)) (d : Identity) → at < n → All (Before n) (repeated at change path d)
  repeated-before at (Id text) path d lt = test-before n at (is_given text path d) RepeatedId lt
  repeated-before at (Version major minor) path d lt = test-before n at (is_fixed d) RepeatedVersion lt

  abbrev said_if : ℕ → Fixed → List (List ℕ) → Option Identity → Said
  said_if at change path o = elim o [ None ↦ refused_for [] | Some d ↦ said_at at change path d ]

  said-if-before : (at : ℕ) (change : Fixed) (path : List (List ℕ)) (o : Option Identity) → at < n → All (Before n) (said_if at change path o).faults
  said-if-before at change path None lt = All-nil (Before n)
  said-if-before at change path (Some d) lt = repeated-before at change path d lt

  abbrev pub about_by : ℕ → Fixed → Entity → Bool → Lookup Said
  about_by at change e b =
      cond b (and_then (known e.path) (λ d. Done (said_if at change e.path d))) (Done (refused_for (fault_at at NoRepositoryId ∷ [])))

  about-if : (at : ℕ) (change : Fixed) (e : Entity) (b : Bool) → at < n → All (Before n) (outcome (about_by at change e b) answers).faults
  about-if at change e true lt =
      let next : Option Identity → Lookup Said = λ d. Done (said_if at change e.path d) in
      subst (λ (s : Said). All (Before n) s.faults) (sym (outcome-and_then (known e.path) next answers)) (said-if-before at change e.path (outcome (known e.path) answers) lt)
  about-if at change e false lt = one-before n at NoRepositoryId lt

  module _ (name : ScopedName) (change : Fixed) (within : last_at 2 name < n) where
    abbrev by_found : Result Found NameFault → Lookup Said
    by_found r = by_result r (λ found. about_entity (last_at 2 name) change found.entity) (λ fault. Done (refused_for (unnamed_faults 2 name fault)))

    found-before : (r : Result Found NameFault) → IsUpTo (length name.rest) r → All (Before n) (outcome (by_found r) answers).faults
    found-before (Ok found) up = about-if (last_at 2 name) change found.entity (has_id found.entity.kind) within
    found-before (Err (At why part)) up = one-before n (part_at 2 name part) (name_code why) (omega (arith, up, within))
    found-before (Err Memory) up = absurd up

    name-before : All (Before n) (outcome (about 2 turns scopes name change) answers).faults
    name-before =
        let query = denoted turns scopes name in
        subst (λ (s : Said). All (Before n) s.faults) (sym (outcome-and_then query by_found answers)) (found-before (outcome query answers) (denoted-IsUpTo turns answers scopes name))

  said-before : (p : Pragma) → n ≡ suc (end_of p) → All (Before n) (outcome (said turns scopes p) answers).faults
  said-before (pragma.Prefix text) h = test-before n 2 (not (is_visible text)) BadIdText (omega (arith, h))
  said-before (pragma.Id name text) h =
      let query = about 2 turns scopes name (Id text) in
      let at = last_at 2 name + 1 in
      let more = text_faults at text in
      subst (λ (s : Said). All (Before n) s.faults) (sym (outcome-and_then query (λ s. Done (with_faults more s)) answers))
      (All-append (Before n) (outcome query answers).faults more (name-before name (Id text) (omega (arith, h))) (test-before n at (not (is_id text)) BadIdText (omega (arith, h))))
  said-before (pragma.Version name major minor) h = name-before name (Version major minor) (omega (arith, h))

  by-before : (o : Option Pragma) → ((p : Pragma) → o ≡ Some p → n ≡ suc (end_of p)) → All (Before n) (outcome (said_by turns scopes o) answers).faults
  by-before None each = All-nil (Before n)
  by-before (Some p) each = said-before p (each p refl)

  form-before : (inside b : Bool) → 0 < n → All (Before n) (cond inside (fault_at 0 PragmaInside ∷ []) [] ++ cond b [] (fault_at 0 MalformedPragma ∷ []))
  form-before true true some = one-before n 0 PragmaInside some
  form-before true false some = All-cons (Before n) (fault_at 0 PragmaInside) (fault_at 0 MalformedPragma ∷ []) some (one-before n 0 MalformedPragma some)
  form-before false true some = All-nil (Before n)
  form-before false false some = one-before n 0 MalformedPragma some

  else-before : (fs more : List Fault) → All (Before n) fs → All (Before n) more → All (Before n) (or_else turns answers fs more)
  else-before [] more here there = there
  else-before (f ∷ fs) more here there = here

not-empty : (tokens : List Token) → tokens ≢ [] → 0 < length tokens
not-empty [] some = absurd (some refl)
not-empty (t ∷ ts) some = omega arith

pub pragma-within : (turns : ℕ) (tokens : List Token) (inside : Bool) (answers : Key → Option Answer) (f : Fault) → tokens ≢ []
    → (outcome (verdict turns (unit.Pragma tokens inside)) answers).fault ≡ Some f → f.index < length tokens
pragma-within turns tokens inside answers f some h =
    let scopes = scopes_in (answers Cursor) in
    let n = length tokens in
    let all = else-before turns answers scopes n (pragma_faults tokens inside) (outcome (said_by turns scopes (pragma_of tokens)) answers).faults
    (form-before turns answers scopes n inside (is_some (pragma_of tokens)) (not-empty tokens some))
    (by-before turns answers scopes n (pragma_of tokens) (pragma-length tokens)) in
    least-in (Before n) (visit_unit_faults turns answers (unit.Pragma tokens inside)) f all (sym (least-pragma turns tokens inside answers) ∙ h)

-- ---- of any unit

pub least-is : (turns : ℕ) (text : UnitText) (answers : Key → Option Answer) → (outcome (verdict turns text) answers).fault ≡ least_fault (visit_unit_faults turns answers text)
least-is turns (unit.Tokens tokens) answers = least-tokens turns answers tokens
least-is turns (unit.Pragma tokens inside) answers = least-pragma turns tokens inside answers
