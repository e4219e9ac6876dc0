-- The verdict of a unit, and what is asked for it.
use Rattle.std.specs.Prelude.{ℕ, Err, None, Ok, Some}
use Rattle.idl_check.specs.ids.Pragmas.{said_by}
use Rattle.idl_check.specs.idl_parse.Parse.{pragma_faults}
use Rattle.idl_check.specs.walk.Placing.{place_faults, step_of}
use Rattle.idl_check.specs.walk.Verdict.{faulty, first_faults, pragma_verdict, refused, sound, tree_of}
use Rattle.idl_check.specs.walk.Walk.{first_walk, walk}
use Rattle.idl_check.specs.declared.walk.verdict.Verdict.{Verdict}
use Rattle.idl_env.specs.Facts.{path_around, scopes_in}
use Rattle.idl_env.specs.declared.additions.addition.Step.TheVariants.{Opens, Stays}
use Rattle.idl_env.specs.declared.keys.key.Key.TheVariants.{Cursor, Opened}
use Rattle.idl_fault.specs.declared.code.Code.TheVariants.{NoTree}
use Rattle.idl_memo.specs.Query.{Ask, Done, and_then}
use Rattle.idl_parts.specs.Item.{items}
use Rattle.idl_parts.specs.UnitParts.{unit_parts}
use Rattle.idl_scope.specs.Lookup.{Lookup}
use Rattle.idl_tree.specs.Pragma.{pragma_of}
use Rattle.idl_unit.specs.Faults.{least_fault}
use Rattle.idl_unit.specs.TokenRules.{fault_at}
use Rattle.idl_unit.specs.declared.unit.UnitText.{UnitText}
use Rattle.idl_unit.specs.declared.unit.UnitText.TheVariants as unit

-- The rules of tokens, the tree, and the walk over names, each where nothing is wrong before. Of a
-- scope that is opened it is asked how often it was before.
abbrev pub asked_verdict : ℕ → UnitText → Lookup Verdict
asked_verdict turns (unit.Tokens tokens) = Ask Cursor (λ cursor.
    let scopes = scopes_in cursor in
    elim (least_fault (first_faults tokens scopes)) [
      | Some fault ↦ refused tokens fault
      | None ↦ elim (tree_of tokens) [
        | Err place ↦ refused tokens (fault_at place NoTree)
        | Ok tree ↦
            let misplaced = least_fault (place_faults tree scopes) in
            let first = record (first_walk scopes) { fault = misplaced } in
            and_then (walk turns (items (unit_parts tree)) first) (λ w. elim w.fault [
              | Some fault ↦ refused tokens fault
              | None ↦ elim (step_of tree (path_around scopes)) [
                | Opens path kind ↦ Ask (Opened path) (λ count. Done (sound tokens scopes tree w))
                | other ↦ Done (sound tokens scopes tree w)
              ]
            ])
      ]
    ])
asked_verdict turns (unit.Pragma tokens inside) = Ask Cursor (λ cursor.
    elim (least_fault (pragma_faults tokens inside)) [
      | Some fault ↦ Done (faulty fault Stays)
      | None ↦ and_then (said_by turns (scopes_in cursor) (pragma_of tokens))
          (λ s. Done (pragma_verdict s))
    ])
