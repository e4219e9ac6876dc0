-- A verdict is told and asked step by step.
use Rattle.std.proofs.Common.{◌≡◌, Err, List, None, Ok, Option, Result, Some, refl, ℕ}
use Rattle.idl_check.specs.walk.Placing.{place_faults, step_of}
use Rattle.idl_check.specs.walk.Verdict.{asking, by_tree, first_faults, refused, sound, tree_by, tree_of, verdict}
use Rattle.idl_check.specs.walk.Walk.{Walk, first_walk, walk}
use Rattle.idl_check.specs.declared.walk.verdict.Verdict.{Verdict}
use Rattle.idl_env.specs.Facts.{path_around, scopes_in}
use Rattle.idl_env.specs.declared.additions.addition.Step.{Step}
use Rattle.idl_env.specs.declared.additions.addition.Step.TheVariants as step
use Rattle.idl_env.specs.declared.answering.answer.Scope.{Scope}
use Rattle.idl_env.specs.declared.keys.key.Key.TheVariants.{Cursor, Opened}
use Rattle.idl_fault.specs.declared.code.Code.TheVariants.{NoTree}
use Rattle.idl_lex.specs.tokens.Tokens.{Token}
use Rattle.idl_memo.specs.Query.{Ask, Done, and_then}
use Rattle.idl_parts.specs.Item.{items}
use Rattle.idl_parts.specs.UnitParts.{unit_parts}
use Rattle.idl_plain.specs.Verdict.{asked_verdict}
use Rattle.idl_scope.specs.Lookup.{Lookup}
use Rattle.idl_tree.specs.declared.unit.Tree.{Tree}
use Rattle.idl_unit.specs.Faults.{least_fault}
use Rattle.idl_unit.specs.TokenRules.{fault_at}
use Rattle.idl_unit.specs.declared.fault.Fault.{Fault}
use Rattle.idl_unit.specs.declared.unit.UnitText.{UnitText}
use Rattle.idl_unit.specs.declared.unit.UnitText.TheVariants as unit

module _ (turns : ℕ) (tokens : List Token) (scopes : List Scope) where
  abbrev on_step : Verdict → Step → Lookup Verdict
  on_step v s = elim s [
    | step.Opens path kind ↦ Ask (Opened path) (λ count. Done v)
    | other ↦ Done v
  ]

  step-asked : (v : Verdict) (s : Step) → asking s v ≡ on_step v s
  step-asked v (step.Opens path kind) = refl
  step-asked v step.Stays = refl
  step-asked v (step.OpensNameless kind) = refl
  step-asked v step.Closes = refl
  step-asked v (step.Prefixes text) = refl
  step-asked v step.Enters = refl
  step-asked v step.Leaves = refl

  abbrev on_fault : Tree → Walk → Option Fault → Lookup Verdict
  on_fault tree w o = elim o [
    | Some fault ↦ refused tokens fault
    | None ↦ on_step (sound tokens scopes tree w) (step_of tree (path_around scopes))
  ]

  fault-asked : (tree : Tree) (w : Walk) (o : Option Fault)
      → elim o as (λ _. Lookup Verdict) [ Some fault ↦ refused tokens fault | None ↦ asking (step_of tree (path_around scopes)) (sound tokens scopes tree w) ]
      ≡ on_fault tree w o
  fault-asked tree w (Some fault) = refl
  fault-asked tree w None = step-asked (sound tokens scopes tree w) (step_of tree (path_around scopes))

  abbrev on_tree : Result Tree ℕ → Lookup Verdict
  on_tree r = elim r [
    | Err place ↦ refused tokens (fault_at place NoTree)
    | Ok tree ↦
        let first = record (first_walk scopes) { fault = least_fault (place_faults tree scopes) } in
        and_then (walk turns (items (unit_parts tree)) first) (λ w. on_fault tree w w.fault)
  ]

  tree-asked : (r : Result Tree ℕ) → by_tree turns tokens scopes (tree_by None r) ≡ on_tree r
  tree-asked (Err place) = refl
  tree-asked (Ok tree) = λ i.
      and_then (walk turns (items (unit_parts tree)) (record (first_walk scopes) { fault = least_fault (place_faults tree scopes) }))
      (λ w. fault-asked tree w w.fault i)

  abbrev on_first : Option Fault → Lookup Verdict
  on_first o = elim o [
    | Some fault ↦ refused tokens fault
    | None ↦ on_tree (tree_of tokens)
  ]

  first-asked : (o : Option Fault) → by_tree turns tokens scopes (tree_by o (tree_of tokens)) ≡ on_first o
  first-asked (Some fault) = refl
  first-asked None = tree-asked (tree_of tokens)

pub verdict-asked : (turns : ℕ) (text : UnitText) → verdict turns text ≡ asked_verdict turns text
unfolding verdict
verdict-asked turns (unit.Tokens tokens) = λ i. Ask Cursor (λ cursor.
    first-asked turns tokens (scopes_in cursor) (least_fault (first_faults tokens (scopes_in cursor))) i)
verdict-asked turns (unit.Pragma tokens inside) = refl
