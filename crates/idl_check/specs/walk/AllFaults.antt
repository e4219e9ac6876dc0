-- All faults of a unit, as if none ended the search for others: each of an expression, and those of
-- whole names. The one that is told is the least.
-- For some of them nobody looks: those of a whole name at whose first token a fault is known, and
-- that of an id's text behind a name that denotes nothing. That the one which is told is less is
-- the law `least`.
use Rattle.std.specs.Prelude.{ℕ, ◌+◌, List, [], ◌∷◌, ◌++◌, map, Option, None, Some, Ok, Err, if◌then◌else◌}
use Rattle.idl_check.specs.ids.Pragmas.{said_by}
use Rattle.idl_check.specs.told.Values.{code_of}
use Rattle.idl_check.specs.walk.Placing.{place_faults}
use Rattle.idl_check.specs.walk.Verdict.{first_faults, tree_of}
use Rattle.idl_check.specs.walk.Walk.{Visit, Walk, evaluation_at, first_walk, is_repeated, visit}
use Rattle.idl_fault.specs.declared.code.Code.TheVariants.{NoTree, RepeatedLabel}
use Rattle.idl_lex.specs.tokens.Tokens.{Token}
use Rattle.idl_memo.specs.Query.{outcome}
use Rattle.idl_env.specs.Facts.{scopes_in}
use Rattle.idl_env.specs.declared.answering.answer.Answer.{Answer}
use Rattle.idl_env.specs.declared.answering.answer.Scope.{Scope}
use Rattle.idl_env.specs.declared.keys.key.Key.{Key}
use Rattle.idl_env.specs.declared.keys.key.Key.TheVariants.{Cursor}
use Rattle.idl_parts.specs.Item.{Item, items}
use Rattle.idl_parts.specs.Part.{Part as item}
use Rattle.idl_parts.specs.UnitParts.{unit_parts}
use Rattle.idl_parts.specs.declared.part.Purpose.{Purpose}
use Rattle.idl_parse.specs.Parse.{pragma_faults}
use Rattle.idl_tree.specs.Pragma.{pragma_of}
use Rattle.idl_tree.specs.declared.unit.Tree.{Tree}
use Rattle.idl_unit.specs.TokenRules.{fault_at}
use Rattle.idl_unit.specs.declared.fault.Fault.{Fault}
use Rattle.idl_unit.specs.declared.unit.UnitText.{UnitText}
use Rattle.idl_unit.specs.declared.unit.UnitText.TheVariants as unit
use Rattle.idl_value.specs.Evaluation.{Evaluation, Valued, Faulty}
use Rattle.idl_value.specs.declared.outcome.ValueFault.{ValueFault}

-- the number of an expression's first token
abbrev pub first_token : Walk → ℕ
first_token w = elim w.values.begin [ None ↦ w.at | Some at ↦ at ]

-- a fault of it, at its token
abbrev pub placed_at : ℕ → ValueFault → Fault
placed_at at f = fault_at (at + f.token) (code_of f.code)

-- the faults of an expression that comes to this; one with a value may be a label that is there
abbrev pub evaluation_faults : Walk → Purpose → Evaluation → List Fault
evaluation_faults w way (Valued v) =
    if is_repeated w way v then fault_at (first_token w) RepeatedLabel ∷ [] else []
evaluation_faults w way (Faulty faults) = map (placed_at (first_token w)) faults

module _ (turns : ℕ) (answers : Key → Option Answer) where
  -- all that comes of a site
  abbrev pub whole_visit : Item → Walk → Visit
  whole_visit (item.ValueEnds way e) w = record {
    faults = evaluation_faults w way (evaluation_at w way e);
    after = (outcome (visit turns (item.ValueEnds way e) w) answers).after;
  }
  whole_visit site w = outcome (visit turns site w) answers

  -- the faults of sites, from where a walk has come to
  abbrev pub site_faults : List Item → Walk → List Fault
  site_faults [] w = []
  site_faults (site ∷ sites) w =
      let v = whole_visit site w in v.faults ++ site_faults sites v.after

  -- those of the third step
  abbrev pub name_faults : List Scope → Tree → List Fault
  name_faults scopes tree =
      place_faults tree scopes
      ++ site_faults (items (unit_parts tree)) (first_walk scopes)

  -- those of the first step that has any
  abbrev pub or_else : List Fault → List Fault → List Fault
  or_else [] further = further
  or_else (f ∷ faults) further = f ∷ faults

  abbrev pub further_faults : List Token → List Scope → List Fault
  further_faults tokens scopes =
      elim (tree_of tokens)
      [ Err place ↦ fault_at place NoTree ∷ [] | Ok tree ↦ name_faults scopes tree ]

  abbrev pub unit_faults : UnitText → List Fault
  unit_faults (unit.Tokens tokens) =
      let scopes = scopes_in (answers Cursor) in
      or_else (first_faults tokens scopes) (further_faults tokens scopes)
  unit_faults (unit.Pragma tokens inside) =
      or_else (pragma_faults tokens inside)
      (outcome (said_by turns (scopes_in (answers Cursor)) (pragma_of tokens)) answers).faults
