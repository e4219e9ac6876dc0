-- The verdict of a unit is told by the least of all its faults, or where there is none by what all its sites come to.
use Rattle.std.proofs.Common.{◌≡◌, ◌≤◌, ◌+◌, ◌∙◌, ℕ, Bool, List, [], ◌∷◌, Option, None, Some, Result, Ok, Err, arith, refl, subst, sym, ap}
use Rattle.std.specs.Prelude.{◌↔◌}
use Rattle.idl_env.specs.Facts.{UnitFacts, answers, scopes_in}
use Rattle.idl_env.specs.Turns.{turns_for}
use Rattle.idl_env.specs.declared.additions.addition.Step.TheVariants.{Stays}
use Rattle.idl_env.specs.declared.answering.answer.Answer.{Answer}
use Rattle.idl_env.specs.declared.answering.answer.Scope.{Scope}
use Rattle.idl_env.specs.declared.keys.key.Key.{Key}
use Rattle.idl_env.specs.declared.keys.key.Key.TheVariants.{Cursor}
use Rattle.idl_lex.specs.tokens.Tokens.{Token}
use Rattle.idl_memo.proofs.QueryLaws.{outcome-and_then}
use Rattle.idl_memo.specs.Query.{Done, and_then, outcome}
use Rattle.idl_parts.specs.Item.{items}
use Rattle.idl_parts.specs.UnitParts.{unit_parts}
use Rattle.idl_root.specs.Verdict.{IsRead, IsToldBy, IsVerdict, IsVerdictBy, faults_of, pragma_said}
use Rattle.idl_root_blocks.proofs.IdlCheckLaws.ToldLaws.{MoreTurns}
use Rattle.idl_root_blocks.specs.idl_check.ids.About.{Said}
use Rattle.idl_root_blocks.specs.idl_check.ids.Pragmas.{said_by}
use Rattle.idl_root_blocks.specs.idl_check.idl_parse.Parse.{StopsAt, pragma_faults}
use Rattle.idl_root_blocks.specs.idl_check.walk.AllFaults.{or_else, unit_faults}
use Rattle.idl_root_blocks.specs.idl_check.walk.Judging.{FitsMemory, IsSound, walked}
use Rattle.idl_root_blocks.specs.idl_check.walk.Placing.{faulty_step}
use Rattle.idl_root_blocks.specs.idl_check.walk.Verdict.{faulty, pragma_verdict, sound, tree_of, verdict}
use Rattle.idl_root_blocks.specs.idl_check.walk.Walk.{first_walk}
use Rattle.idl_root_blocks.specs.idl_check.declared.walk.verdict.Verdict.{Verdict}
use Rattle.idl_scope.specs.Lookup.{Lookup}
use Rattle.idl_tree.specs.Lexeme.{lexemes}
use Rattle.idl_tree.specs.Pragma.{pragma_of}
use Rattle.idl_tree.specs.Unit.{spell}
use Rattle.idl_tree.specs.declared.pragma.Pragma.{Pragma}
use Rattle.idl_tree.specs.declared.unit.Tree.{Tree}
use Rattle.idl_unit.specs.Faults.{least_fault}
use Rattle.idl_unit.specs.declared.fault.Fault.{Fault}
use Rattle.idl_unit.specs.declared.unit.UnitText.{UnitText}
use Rattle.idl_unit.specs.declared.unit.UnitText.TheVariants as unit

-- ---- what is read

module _
    (spelled : (tokens : List Token) (tree : Tree) → (tree_of tokens ≡ Ok tree) ↔ (lexemes tokens ≡ spell tree))
    (stopped : (tokens : List Token) (place : ℕ) → (tree_of tokens ≡ Err place) ↔ StopsAt tokens place)
  where
    pub reads : (tokens : List Token) (r : Result Tree ℕ) → IsRead tokens r ↔ (tree_of tokens ≡ r)
    reads tokens (Ok tree) = ((spelled tokens tree).1, (spelled tokens tree).0)
    reads tokens (Err n) = ((stopped tokens n).1, (stopped tokens n).0)

-- ---- pragmas

module _ (turns : ℕ) (bank : Key → Option Answer) where
  -- what is said, with the faults of form and place
  abbrev with_form : List Fault → Said → Said
  with_form fs s = record s { faults = or_else turns bank fs s.faults }

  -- the verdict, by these faults
  abbrev judged_by : List Scope → List Fault → Option Pragma → Lookup Verdict
  judged_by scopes fs p =
      elim (least_fault fs) [
        | Some fault ↦ Done (faulty fault Stays)
        | None ↦ and_then (said_by turns scopes p) (λ s. Done (pragma_verdict s))
      ]

  by-form : (scopes : List Scope) (fs : List Fault) (p : Option Pragma) → outcome (judged_by scopes fs p) bank ≡ pragma_verdict (with_form fs (outcome (said_by turns scopes p) bank))
  by-form scopes [] p = outcome-and_then (said_by turns scopes p) (λ s. Done (pragma_verdict s)) bank
  by-form scopes (f ∷ fs) p = refl

  pragma-is : (tokens : List Token) (inside : Bool) → outcome (verdict turns (unit.Pragma tokens inside)) bank ≡ pragma_verdict (pragma_said turns bank tokens inside)
  unfolding verdict
  pragma-is tokens inside = by-form (scopes_in (bank Cursor)) (pragma_faults tokens inside) (pragma_of tokens)

-- ---- units of tokens

ok-same : {A B : Type 0} {x y : A} → ◌≡◌ {A = Result A B} (Ok x) (Ok y) → x ≡ y
ok-same h = cc

err-ok : {A B : Type 0} {x : B} {y : A} → ◌≡◌ {A = Result A B} (Err x) (Ok y) → ⊥
err-ok h = cc

-- what is told by a fault, or by a tree, is one verdict
told-once : (turns : ℕ) (bank : Key → Option Answer) (tokens : List Token) (o : Option Fault) (r : Result Tree ℕ) (v w : Verdict) → IsToldBy turns bank tokens o r v → IsToldBy turns bank tokens o r w → v ≡ w
told-once turns bank tokens (Some f) r v w a b = a ∙ sym b
told-once turns bank tokens None (Ok tree) v w a b = a ∙ sym b
told-once turns bank tokens None (Err n) v w a b = absurd a

swapped : (a b : ℕ) → a + b ≡ b + a
swapped a b = omega arith

-- ---- a unit has one verdict

module _ (reading : (tokens : List Token) (r : Result Tree ℕ) → IsRead tokens r ↔ (tree_of tokens ≡ r)) where
  by-once : (turns : ℕ) (bank : Key → Option Answer) (text : UnitText) (v w : Verdict) → IsVerdictBy turns bank text v → IsVerdictBy turns bank text w → v ≡ w
  by-once turns bank (unit.Tokens tokens) v w a b =
      let same : a.0 ≡ b.0 = sym ((reading tokens a.0).0 a.1) ∙ (reading tokens b.0).0 b.1 in
      told-once turns bank tokens (least_fault (faults_of turns bank tokens b.0)) b.0 v w
      (subst (λ (r : Result Tree ℕ). IsToldBy turns bank tokens (least_fault (faults_of turns bank tokens r)) r v) same a.2) b.2
  by-once turns bank (unit.Pragma tokens inside) v w a b = a ∙ sym b

  pub verdict-once : (facts : List UnitFacts) (text : UnitText) (v w : Verdict) → IsVerdict facts text v → IsVerdict facts text w → v ≡ w
  verdict-once facts text v w a b =
      by-once (a.0 + b.0) (answers facts) text v w (a.1 b.0) (subst (λ (n : ℕ). IsVerdictBy n (answers facts) text w) (swapped b.0 a.0) (b.1 a.0))

-- ---- by the laws of verdicts it is that which the walk comes to

module _
    (least : (turns : ℕ) (text : UnitText) (answers : Key → Option Answer) → FitsMemory text → (outcome (verdict turns text) answers).fault ≡ least_fault (unit_faults turns answers text))
    (refused : (turns : ℕ) (tokens : List Token) (answers : Key → Option Answer) (fault : Fault) → (outcome (verdict turns (unit.Tokens tokens)) answers).fault ≡ Some fault
    → outcome (verdict turns (unit.Tokens tokens)) answers ≡ faulty fault (faulty_step tokens))
    (accepted : (turns : ℕ) (tokens : List Token) (answers : Key → Option Answer) → (outcome (verdict turns (unit.Tokens tokens)) answers).fault ≡ None
    → IsSound turns answers (scopes_in (answers Cursor)) tokens (outcome (verdict turns (unit.Tokens tokens)) answers))
    (reading : (tokens : List Token) (r : Result Tree ℕ) → IsRead tokens r ↔ (tree_of tokens ≡ r))
  where
    module _ (turns : ℕ) (bank : Key → Option Answer) (tokens : List Token) where
      -- what comes of them is told so
      comes-told : (o : Option Fault) (r : Result Tree ℕ) → (outcome (verdict turns (unit.Tokens tokens)) bank).fault ≡ o → tree_of tokens ≡ r
          → IsToldBy turns bank tokens o r (outcome (verdict turns (unit.Tokens tokens)) bank)
      comes-told (Some f) r is read = refused turns tokens bank f is
      comes-told None (Ok tree) is read =
          let scopes = scopes_in (bank Cursor) in
          let a = accepted turns tokens bank is in
          let both : ◌≡◌ {A = Result Tree ℕ} (Ok a.tree) (Ok tree) = sym ((reading tokens (Ok a.tree)).0 a.spelled) ∙ read in
          let same : a.tree ≡ tree = ok-same both in
          a.is ∙ ap (λ (t : Tree). sound tokens scopes t (walked turns bank (items (unit_parts t)) (first_walk scopes))) same
      comes-told None (Err n) is read =
          let a = accepted turns tokens bank is in
          let both : ◌≡◌ {A = Result Tree ℕ} (Err n) (Ok a.tree) = sym read ∙ (reading tokens (Ok a.tree)).0 a.spelled in
          absurd (err-ok both)

      module _ (fits : FitsMemory (unit.Tokens tokens)) where
        -- the fault is the least of all
        least-read : (r : Result Tree ℕ) → tree_of tokens ≡ r → (outcome (verdict turns (unit.Tokens tokens)) bank).fault ≡ least_fault (faults_of turns bank tokens r)
        least-read r read = least turns (unit.Tokens tokens) bank fits ∙ ap (λ (s : Result Tree ℕ). least_fault (faults_of turns bank tokens s)) read

        comes-read : (r : Result Tree ℕ) → tree_of tokens ≡ r → IsToldBy turns bank tokens (least_fault (faults_of turns bank tokens r)) r (outcome (verdict turns (unit.Tokens tokens)) bank)
        comes-read r read = comes-told (least_fault (faults_of turns bank tokens r)) r (least-read r read) read

        tokens-is : (v : Verdict) → IsVerdictBy turns bank (unit.Tokens tokens) v ↔ (v ≡ outcome (verdict turns (unit.Tokens tokens)) bank)
        tokens-is v = (
          λ h. told-once turns bank tokens (least_fault (faults_of turns bank tokens h.0)) h.0 v (outcome (verdict turns (unit.Tokens tokens)) bank) h.2 (comes-read h.0 ((reading tokens h.0).0 h.1)),
          λ is.
              let r = tree_of tokens in
              (r, (reading tokens r).1 refl, subst (λ (w : Verdict). IsToldBy turns bank tokens (least_fault (faults_of turns bank tokens r)) r w) (sym is) (comes-read r refl)),
        )

    -- ---- any unit

    by-turns : (turns : ℕ) (bank : Key → Option Answer) (text : UnitText) (v : Verdict) → FitsMemory text → IsVerdictBy turns bank text v ↔ (v ≡ outcome (verdict turns text) bank)
    by-turns turns bank (unit.Tokens tokens) v fits = tokens-is turns bank tokens fits v
    by-turns turns bank (unit.Pragma tokens inside) v fits = (λ h. h ∙ sym (pragma-is turns bank tokens inside), λ is. is ∙ pragma-is turns bank tokens inside)

    module _ (more : MoreTurns) where
      as-many : (facts : List UnitFacts) (turns : ℕ) (text : UnitText) → turns_for facts ≤ turns → (extra : ℕ)
          → outcome (verdict (turns + extra) text) (answers facts) ≡ outcome (verdict turns text) (answers facts)
      as-many facts turns text enough extra = ap (λ (p : Verdict × List (Key × Option Answer)). p.0) (more facts turns extra text [] enough)

      -- a unit has the verdict that it has with turns enough, and no other
      pub verdict-only : (facts : List UnitFacts) (turns : ℕ) (text : UnitText) (v : Verdict) → turns_for facts ≤ turns → FitsMemory text
          → IsVerdict facts text v ↔ (v ≡ outcome (verdict turns text) (answers facts))
      verdict-only facts turns text v enough fits = (
        λ h.
            (by-turns (h.0 + turns) (answers facts) text v fits).0 (h.1 turns)
            ∙ ap (λ n. outcome (verdict n text) (answers facts)) (swapped h.0 turns)
            ∙ as-many facts turns text enough h.0,
        λ is. (turns, λ extra. (by-turns (turns + extra) (answers facts) text v fits).1 (is ∙ sym (as-many facts turns text enough extra))),
      )
