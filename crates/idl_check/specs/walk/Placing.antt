-- Where a unit may stand, and what it does to the open scopes.
use Rattle.std.specs.Prelude.{ℕ, Bool, true, false, List, [], ◌∷◌, Option, None, Some, if◌then◌else◌}
use Rattle.idl_check.specs.tables.Codes.{faults_by}
use Rattle.idl_check.specs.tables.Rules.{is_misplaced, is_too_deep}
use Rattle.idl_fault.specs.declared.code.Code.TheVariants.{MisplacedUnit, NestedTooDeep}
use Rattle.idl_lex.specs.tokens.Tokens.{Token}
use Rattle.idl_env.specs.declared.additions.addition.Step.{Step}
use Rattle.idl_env.specs.declared.additions.addition.Step.TheVariants.{Stays, Opens, OpensNameless, Closes}
use Rattle.idl_env.specs.declared.answering.answer.Scope.{Scope}
use Rattle.idl_entity.specs.declared.kind.Kind.{Kind}
use Rattle.idl_entity.specs.declared.kind.Kind.TheVariants as kind
use Rattle.idl_tree.specs.declared.unit.Tree.{Tree}
use Rattle.idl_tree.specs.declared.unit.Tree.TheVariants as tree
use Rattle.idl_unit.specs.Ending.{begins, rule_of}
use Rattle.idl_unit.specs.Scoping.{is_closing_by, opening_brace}
use Rattle.idl_unit.specs.declared.fault.Fault.{Fault}
use Rattle.idl_unit.specs.declared.role.Role.{Role}
use Rattle.idl_unit.specs.declared.role.Role.TheVariants.{Module}

abbrev pub is_module : Role → Bool
is_module Module = true
is_module role = false

-- the kind of the scope that an opening opens: what its keyword says
abbrev pub heading_kind : List Token → Kind
heading_kind tokens = if begins is_module tokens then kind.Module else kind.Interface

abbrev pub opened_kind : List Token → Option Kind
opened_kind tokens =
    elim (opening_brace tokens) [ None ↦ None | Some n ↦ Some (heading_kind tokens) ]

-- what a faulty unit does to the open scopes: an opening opens a nameless one, and a closing closes
abbrev pub faulty_step : List Token → Step
faulty_step tokens =
    elim (opened_kind tokens) [
      | Some kind ↦ OpensNameless kind
      | None ↦ if is_closing_by (rule_of tokens) then Closes else Stays
    ]

-- and a unit without fault, in the scope at a path
abbrev pub step_of : Tree → List (List ℕ) → Step
step_of tree.Closing scope = Closes
step_of (tree.Module name) scope = Opens (name ∷ scope) kind.Module
step_of (tree.Interface i) scope = Opens (i.name ∷ scope) kind.Interface
step_of other scope = Stays

-- an opening where 64 scopes are open, at its `{`
abbrev pub opening_faults : List Token → List Scope → List Fault
opening_faults tokens scopes =
    elim (opening_brace tokens) [
      | None ↦ []
      | Some n ↦ faults_by n ((is_too_deep scopes, NestedTooDeep) ∷ [])
    ]

-- a unit that its scope doesn't hold, at its first token
abbrev pub place_faults : Tree → List Scope → List Fault
place_faults tree scopes = faults_by 0 ((is_misplaced tree scopes, MisplacedUnit) ∷ [])
