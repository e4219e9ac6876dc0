-- What is said of an entity by a text, run.
use Rattle.std.proofs.Common.{◌≡◌, ℕ, Bool, true, false, cond, List, [], ◌∷◌, Option, None, Some, map, refl, ap}
use Rattle.std.specs.Prelude.{not, option_to_list}
use Rattle.idl_check.specs.ids.About.{Said, refused_for}
use Rattle.idl_check.specs.ids.Remarks.{about_scope, is_bad_text, prefixed_at, remark, said_by_text, unless}
use Rattle.idl_check.specs.tables.Codes.{codes_in, faults_by}
use Rattle.idl_entity.specs.declared.entity.Entity.{Entity}
use Rattle.idl_env.specs.declared.additions.addition.Addition.{Addition}
use Rattle.idl_env.specs.declared.additions.addition.Step.TheVariants.{Stays}
use Rattle.idl_env.specs.declared.answering.answer.Answer.{Answer}
use Rattle.idl_env.specs.declared.keys.key.Key.{Key}
use Rattle.idl_fault.specs.declared.code.Code.{Code}
use Rattle.idl_memo.specs.Query.{Ask, Done, noted}
use Rattle.idl_entity.specs.Kind.{is_scope}
use Rattle.idl_env.specs.Facts.{over}
use Rattle.idl_env.specs.declared.keys.key.Key.TheVariants.{Typeprefix}
use Rattle.idl_env.specs.keys.Key.{key_eq}
use Rattle.idl_fault.specs.declared.code.Code.TheVariants.{NoScope}
use Rattle.idl_scope.specs.Lookup.{Lookup}
use Rattle.idl_parts.specs.declared.part.TextPurpose.{TextPurpose}
use Rattle.idl_scope.proofs.LookupLaws.RunLemmas.{runs, runs-and_then}
use Rattle.idl_unit.specs.TokenRules.{fault_at, first}
use Rattle.idl_unit.specs.declared.fault.Fault.{Fault}

-- by what the text says
pub remark-by : (own : List Addition) (bank : Key → Option Answer) (p : TextPurpose) (at : ℕ) (t : List ℕ) (e : Entity) (log : List (Key × Option Answer)) (s : Said) (after : List (Key × Option Answer))
    → (s, after) ≡ runs own bank (said_by_text p at t e) log → runs own bank (remark p at t e) log ≡ (unless (is_bad_text p t) s, after)
remark-by own bank p at t e log s after h = runs-and_then own bank (said_by_text p at t e) (λ s. Done (unless (is_bad_text p t) s)) log s after h

-- what adds nothing adds nothing
pub unless-refused : (b : Bool) (fs : List Fault) → unless b (refused_for fs) ≡ refused_for fs
unless-refused true fs = refl
unless-refused false fs = refl

-- a table of one row
pub one-code : (at : ℕ) (b : Bool) (c : Code) → map (fault_at at) (option_to_list (first (codes_in ((b, c) ∷ [])))) ≡ faults_by at ((b, c) ∷ [])
one-code at true c = refl
one-code at false c = refl

-- what is added where a text may be what it is for
pub unless-added : (good : Bool) (fs : List Fault) (a : Addition)
    → record { faults = fs; additions = option_to_list (cond good (Some a) None); step = Stays } ≡ unless (not good) (record { faults = fs; additions = a ∷ []; step = Stays })
unless-added true fs a = refl
unless-added false fs a = refl

-- ---- of a scope

module _ (own : List Addition) (bank : Key → Option Answer) (at : ℕ) (t : List ℕ) (e : Entity) (log : List (Key × Option Answer)) where
  abbrev scope_by : Bool → Lookup Said
  scope_by b = cond b (Ask (Typeprefix e.path) (λ answer. Done (prefixed_at at t e.path answer))) (Done (refused_for (fault_at at NoScope ∷ [])))

  pub scope-prefixed : is_scope e.kind ≡ true
      → runs own bank (about_scope at t e) log ≡ (prefixed_at at t e.path (over own (Typeprefix e.path) (bank (Typeprefix e.path))), noted key_eq bank log (Typeprefix e.path))
  scope-prefixed h = ap (λ b. runs own bank (scope_by b) log) h

  pub scope-none : is_scope e.kind ≡ false → runs own bank (about_scope at t e) log ≡ (refused_for (fault_at at NoScope ∷ []), log)
  scope-none h = ap (λ b. runs own bank (scope_by b) log) h
