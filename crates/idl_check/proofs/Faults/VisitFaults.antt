-- The faults to which the walk and the verdict come by themselves: of an expression the first one.
use Rattle.std.proofs.Common.{ℕ, List, [], ◌∷◌, ◌++◌, Option, Ok, Err}
use Rattle.idl_check.specs.walk.AllFaults.{or_else}
use Rattle.idl_check.specs.ids.Pragmas.{said_by}
use Rattle.idl_check.specs.walk.Placing.{place_faults}
use Rattle.idl_check.specs.walk.Verdict.{first_faults, tree_of}
use Rattle.idl_check.specs.walk.Walk.{Walk, first_walk, visit}
use Rattle.idl_fault.specs.declared.code.Code.TheVariants.{NoTree}
use Rattle.idl_lex.specs.tokens.Tokens.{Token}
use Rattle.idl_memo.specs.Query.{outcome}
use Rattle.idl_env.specs.Facts.{scopes_in}
use Rattle.idl_env.specs.declared.answering.answer.Answer.{Answer}
use Rattle.idl_env.specs.declared.answering.answer.Scope.{Scope}
use Rattle.idl_env.specs.declared.keys.key.Key.{Key}
use Rattle.idl_env.specs.declared.keys.key.Key.TheVariants.{Cursor}
use Rattle.idl_parts.specs.Item.{Item, items}
use Rattle.idl_parts.specs.UnitParts.{unit_parts}
use Rattle.idl_parse.specs.Parse.{pragma_faults}
use Rattle.idl_tree.specs.Pragma.{pragma_of}
use Rattle.idl_tree.specs.declared.unit.Tree.{Tree}
use Rattle.idl_unit.specs.TokenRules.{fault_at}
use Rattle.idl_unit.specs.declared.fault.Fault.{Fault}
use Rattle.idl_unit.specs.declared.unit.UnitText.{UnitText}
use Rattle.idl_unit.specs.declared.unit.UnitText.TheVariants as unit

module _ (turns : ℕ) (answers : Key → Option Answer) where
  abbrev pub visit_faults : List Item → Walk → List Fault
  visit_faults [] w = []
  visit_faults (site ∷ sites) w =
      let v = outcome (visit turns site w) answers in v.faults ++ visit_faults sites v.after

  abbrev pub visit_name_faults : List Scope → Tree → List Fault
  visit_name_faults scopes tree =
      place_faults tree scopes
      ++ visit_faults (items (unit_parts tree)) (first_walk scopes)

  abbrev pub visit_further_faults : List Token → List Scope → List Fault
  visit_further_faults tokens scopes =
      elim (tree_of tokens)
      [ Err place ↦ fault_at place NoTree ∷ [] | Ok tree ↦ visit_name_faults scopes tree ]

  abbrev pub visit_unit_faults : UnitText → List Fault
  visit_unit_faults (unit.Tokens tokens) =
      let scopes = scopes_in (answers Cursor) in
      or_else turns answers (first_faults tokens scopes) (visit_further_faults tokens scopes)
  visit_unit_faults (unit.Pragma tokens inside) =
      or_else turns answers (pragma_faults tokens inside)
      (outcome (said_by turns (scopes_in (answers Cursor)) (pragma_of tokens)) answers).faults
