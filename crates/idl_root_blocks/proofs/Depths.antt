-- What a unit does to the open scopes, by whether it is an opening or a closing.
use Rattle.std.proofs.Common.{◌≡◌, ◌∙◌, ℕ, suc, Bool, true, false, cond, List, Option, None, Some, ap, refl}
use Rattle.std.specs.Prelude.{is_some}
use Rattle.idl_block.specs.Blocks.{Text as UnitPart}
use Rattle.idl_check_laws.specs.idl_check.walk.Placing.{heading_kind}
use Rattle.idl_root_blocks.specs.verdicts.Standing.{part_step}
use Rattle.idl_entity.specs.declared.kind.Kind.{Kind}
use Rattle.idl_env.specs.declared.additions.addition.Step.{Step}
use Rattle.idl_env.specs.declared.additions.addition.Step.TheVariants.{Closes, OpensNameless, Stays}
use Rattle.idl_block.specs.facts.Beneath.{Depth, deepened}
use Rattle.idl_lex.specs.tokens.Tokens.{Token}
use Rattle.idl_unit.specs.Ending.{rule_of}
use Rattle.idl_unit.specs.Scoping.{brace_by, is_closing, is_closing_by, is_opening, opening_brace}
use Rattle.idl_unit.specs.declared.role.Rule.{Rule}
use Rattle.idl_unit.specs.declared.role.Rule.TheVariants.{Closing, Heading, Declaration}
use Rattle.idl_unit.specs.declared.unit.UnitText.{UnitText}
use Rattle.idl_unit.specs.declared.unit.UnitText.TheVariants.{Pragma, Tokens}

-- an opening is a heading, and so no closing
no-brace : (rule : Rule) (tokens : List Token) → is_closing_by rule ≡ true → is_some (brace_by rule tokens) ≡ false
no-brace Closing tokens h = refl
no-brace Heading tokens h = cc
no-brace Declaration tokens h = cc

-- the kind of the scope that is opened at a `{`, and the step of a faulty unit
abbrev opened_by : Kind → Option ℕ → Option Kind
opened_by kind brace = elim brace [ None ↦ None | Some n ↦ Some kind ]

abbrev step_by : Kind → Option ℕ → Bool → Step
step_by kind brace closing =
    elim (opened_by kind brace) [ Some opened ↦ OpensNameless opened | None ↦ cond closing Closes Stays ]

opens-one : (d : Depth) (kind : Kind) (brace : Option ℕ) (closing : Bool) → is_some brace ≡ true
    → deepened d (step_by kind brace closing) ≡ Some (record d { scopes = suc d.scopes })
opens-one d kind (Some n) closing h = refl
opens-one d kind None closing h = cc

opens-none : (d : Depth) (kind : Kind) (brace : Option ℕ) (closing : Bool) → is_some brace ≡ false
    → deepened d (step_by kind brace closing) ≡ deepened d (cond closing Closes Stays)
opens-none d kind None closing h = refl
opens-none d kind (Some n) closing h = cc

pub opening-deepens : (d : Depth) (text : UnitText) → is_opening text ≡ true
    → deepened d (part_step (UnitPart text)) ≡ Some (record d { scopes = suc d.scopes })
opening-deepens d (Tokens tokens) h = opens-one d (heading_kind tokens) (opening_brace tokens) (is_closing_by (rule_of tokens)) h
opening-deepens d (Pragma tokens inside) h = cc

pub closing-closes : (d : Depth) (text : UnitText) → is_closing text ≡ true
    → deepened d (part_step (UnitPart text)) ≡ deepened d Closes
closing-closes d (Tokens tokens) h =
    opens-none d (heading_kind tokens) (opening_brace tokens) (is_closing_by (rule_of tokens)) (no-brace (rule_of tokens) tokens h)
    ∙ ap (λ closing. deepened d (cond closing Closes Stays)) h
closing-closes d (Pragma tokens inside) h = cc

pub other-stays : (d : Depth) (text : UnitText) → is_opening text ≡ false → is_closing text ≡ false
    → deepened d (part_step (UnitPart text)) ≡ Some d
other-stays d (Tokens tokens) no_opening no_closing =
    opens-none d (heading_kind tokens) (opening_brace tokens) (is_closing_by (rule_of tokens)) no_opening
    ∙ ap (λ closing. deepened d (cond closing Closes Stays)) no_closing
other-stays d (Pragma tokens inside) no_opening no_closing = refl
