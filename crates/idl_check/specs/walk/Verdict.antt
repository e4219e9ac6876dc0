-- The verdict of a unit: its fault, what it adds, and its row in the dump. A fault is found in
-- three steps: the rules of tokens, the tree, and the rules over tree and names.
use Rattle.std.specs.Prelude.{ℕ, Bool, suc, ◌-◌, List, [], ◌∷◌, ◌++◌, length, max, false, Option, None, Some, Result, Ok, Err}
use Rattle.idl_check.specs.told.Bodies.{raising}
use Rattle.idl_check.specs.tables.Declaring.{finished, with_finished}
use Rattle.idl_check.specs.walk.Placing.{faulty_step, opened_kind, opening_faults, place_faults, step_of}
use Rattle.idl_check.specs.tables.Rules.{depth}
use Rattle.idl_check.specs.ids.About.{Said}
use Rattle.idl_check.specs.ids.Pragmas.{said_by}
use Rattle.idl_dump.specs.Row.{Rest, row_of}
use Rattle.idl_check.specs.walk.Walk.{Walk, first_walk, walk}
use Rattle.idl_check.specs.declared.walk.verdict.Verdict.{Verdict}
use Rattle.idl_fault.specs.declared.code.Code.TheVariants.{NoTree}
use Rattle.idl_lex.specs.tokens.Tokens.{Token}
use Rattle.idl_memo.specs.Query.{Done, Ask, and_then, outcome}
use Rattle.idl_env.specs.Facts.{UnitFacts, answers, boundary, path_around, scopes_in}
use Rattle.idl_env.specs.Turns.{most_turns}
use Rattle.idl_scope.specs.Lookup.{Lookup}
use Rattle.idl_env.specs.declared.additions.addition.Step.{Step}
use Rattle.idl_env.specs.declared.additions.addition.Step.TheVariants.{Stays, Opens, Enters, Leaves}
use Rattle.idl_env.specs.declared.answering.answer.Scope.{Scope}
use Rattle.idl_env.specs.declared.keys.key.Key.TheVariants.{Cursor, Opened, Nameless}
use Rattle.idl_parts.specs.Item.{items}
use Rattle.idl_parts.specs.UnitParts.{unit_parts}
use Rattle.idl_parse.specs.Parse.{pragma_faults}
use Rattle.idl_tree.specs.Lexeme.{Lexeme, lexemes}
use Rattle.idl_tree.specs.Pragma.{pragma_of}
use Rattle.idl_tree.specs.reading.ReadUnit.{unit_at}
use Rattle.idl_tree.specs.declared.unit.Tree.{Tree}
use Rattle.idl_tree.specs.declared.unit.Tree.TheVariants as tree
use Rattle.idl_unit.specs.Faults.{least_fault}
use Rattle.idl_unit.specs.TokenRules.{fault_at, token_faults}
use Rattle.idl_unit.specs.declared.fault.Fault.{Fault}
use Rattle.idl_unit.specs.declared.unit.Unit.{Unit as RootUnit}
use Rattle.idl_unit.specs.declared.unit.Unit.TheVariants.{Spelled, Entered, Left, End}
use Rattle.idl_unit.specs.declared.unit.UnitText.{UnitText}
use Rattle.idl_unit.specs.declared.unit.UnitText.TheVariants as unit

-- what a unit with this fault adds: nothing but what it does to the open scopes
abbrev pub faulty : Fault → Step → Verdict
faulty fault step = record {
  fault = Some fault;
  writes = record { additions = []; step = step };
  row = None;
}

-- a faulty unit of tokens; for an opening it is asked how many nameless scopes there were
abbrev pub refused : List Token → Fault → Lookup Verdict
refused tokens fault =
    elim (opened_kind tokens) [
      | None ↦ Done (faulty fault (faulty_step tokens))
      | Some kind ↦ Ask Nameless (λ count. Done (faulty fault (faulty_step tokens)))
    ]

-- how many scopes are open around a unit: around a closing, those open after it
abbrev pub row_depth : Tree → List Scope → ℕ
row_depth tree.Closing scopes = depth scopes - 1
row_depth other scopes = depth scopes

-- of what its row is made
abbrev pub rest_of : List Token → Walk → Rest
rest_of tokens w =
    record { tokens = tokens; found = w.found; values = w.values.told; in_value = false }

-- a unit without fault, over which a walk has come to this
abbrev pub sound : List Token → List Scope → Tree → Walk → Verdict
sound tokens scopes tree w = record {
  fault = None;
  writes = record {
    additions =
        with_finished (finished w.bases.paths w.values.constant w.clauses) w.own
        (w.begun ++ raising w.last w.clauses);
    step = step_of tree (path_around scopes);
  };
  row = Some (row_of (row_depth tree scopes) (items (unit_parts tree)) (rest_of tokens w));
}

-- of a scope that is opened it is asked how often it was before
abbrev pub asking : Step → Verdict → Lookup Verdict
asking (Opens path kind) verdict = Ask (Opened path) (λ count. Done verdict)
asking other verdict = Done verdict

-- what a walk comes to
abbrev pub judged : List Token → List Scope → Tree → Walk → Lookup Verdict
judged tokens scopes tree w =
    elim w.fault [
      | Some fault ↦ refused tokens fault
      | None ↦ asking (step_of tree (path_around scopes)) (sound tokens scopes tree w)
    ]

-- before the first site of a unit, of whose place is known what is wrong with it
abbrev pub placed_walk : List Scope → Tree → Walk
placed_walk scopes tree =
    record (first_walk scopes) { fault = least_fault (place_faults tree scopes) }

-- the third step
abbrev pub by_names : ℕ → List Token → List Scope → Tree → Lookup Verdict
by_names turns tokens scopes tree =
    and_then (walk turns (items (unit_parts tree)) (placed_walk scopes tree))
    (λ w. judged tokens scopes tree w)

-- what reading gives over so many tokens: the tree that all of them spell, or else the number of
-- the one at which they stop being the beginning of one, and of the last where none is left
abbrev pub whole : ℕ → Result (Tree × List Lexeme) ℕ → Result Tree ℕ
whole count (Ok (tree, [])) = Ok tree
whole count (Ok (tree, next ∷ more)) = Err (count - length (next ∷ more))
whole count (Err left) = Err (count - max left 1)

abbrev pub tree_of : List Token → Result Tree ℕ
tree_of tokens = whole (length tokens) (unit_at (suc (length tokens)) (lexemes tokens))

-- the faults of the first step
abbrev pub first_faults : List Token → List Scope → List Fault
first_faults tokens scopes = token_faults tokens ++ opening_faults tokens scopes

-- the first two steps: the tree of a unit of tokens in these scopes, or the fault for which it has
-- none, by that of the first step and by what reading gives
abbrev pub tree_by : Option Fault → Result Tree ℕ → Result Tree Fault
tree_by (Some fault) r = Err fault
tree_by None (Err place) = Err (fault_at place NoTree)
tree_by None (Ok tree) = Ok tree

abbrev pub unit_tree : List Token → List Scope → Result Tree Fault
unit_tree tokens scopes = tree_by (least_fault (first_faults tokens scopes)) (tree_of tokens)

-- and then the third
abbrev pub by_tree : ℕ → List Token → List Scope → Result Tree Fault → Lookup Verdict
by_tree turns tokens scopes (Err fault) = refused tokens fault
by_tree turns tokens scopes (Ok tree) = by_names turns tokens scopes tree

-- a unit of tokens in these scopes
abbrev pub token_verdict : ℕ → List Token → List Scope → Lookup Verdict
token_verdict turns tokens scopes = by_tree turns tokens scopes (unit_tree tokens scopes)

-- a pragma that says this
abbrev pub pragma_verdict : Said → Verdict
pragma_verdict s =
    elim (least_fault s.faults) [
      | Some fault ↦ faulty fault Stays
      | None ↦ record {
        fault = None;
        writes = record { additions = s.additions; step = s.step };
        row = None;
      }
    ]

-- a pragma inside a unit of tokens or outside, in these scopes
abbrev pub pragma_judged : ℕ → List Token → Bool → List Scope → Lookup Verdict
pragma_judged turns tokens inside scopes =
    elim (least_fault (pragma_faults tokens inside)) [
      | Some fault ↦ Done (faulty fault Stays)
      | None ↦ and_then (said_by turns scopes (pragma_of tokens)) (λ s. Done (pragma_verdict s))
    ]

-- a unit
unfoldable pub verdict : ℕ → UnitText → Lookup Verdict
verdict turns (unit.Tokens tokens) =
    Ask Cursor (λ cursor. token_verdict turns tokens (scopes_in cursor))
verdict turns (unit.Pragma tokens inside) =
    Ask Cursor (λ cursor. pragma_judged turns tokens inside (scopes_in cursor))

-- ---- over what the units and file boundaries before it added

-- the verdict of a text over facts
abbrev pub verdict_over : List UnitFacts → UnitText → Verdict
verdict_over facts text = outcome (verdict most_turns text) (answers facts)

-- What a unit adds over facts. A faulty one adds facts too: an opening opens a scope, and a closing
-- closes one.
abbrev pub added : List UnitFacts → RootUnit → List UnitFacts
added facts (Spelled text sites) = (verdict_over facts text).writes ∷ []
added facts (Entered file inside) = boundary Enters ∷ []
added facts (Left file inside) = boundary Leaves ∷ []
added facts End = []
