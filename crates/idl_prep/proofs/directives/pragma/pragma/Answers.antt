use Rattle.std.proofs.Common.{ℕ, List, codes, ap, sym, ◌∙◌}
use Rattle.std.proofs.lemmas.Result.{IfOk-weaker}
use Rattle.std.specs.Str.{bytes_eq}
use Rattle.idl_lex.specs.tokens.Tokens.{Token, tokens_in}
use Rattle.idl_event.specs.declared.told.event.Event.TheVariants.{Pragma}
use Rattle.idl_event.specs.declared.told.event.Item.TheVariants.{Kept}
use Rattle.idl_fault.specs.declared.place.Place.{Place}
use Rattle.idl_macro.specs.Replace.{place_at}
use Rattle.idl_prep.specs.Directive.{first_spelling, is_of_idl}
use Rattle.idl_prep.specs.State.{ended, telling}
use Rattle.idl_prep.proofs.DirectiveLemmas.{pragma-nothing, pragma-of_idl, pragma-once, pragma-other}
use Rattle.idl_prep.proofs.directives.pragma.pragma.Goals as goal

pub returns-in_default : goal.returns-in_default
returns-in_default g c = λ bank.
    pragma-nothing bank c.args.file.now c.args.directive.now c.args.root.now (ap first_spelling (sym c.operands.ensures) ∙ sym c.in_default.ensures)

pub returns-then-is_once : goal.returns-then-is_once
returns-then-is_once g c = IfOk-weaker c.mark_once.result _ _ (λ _ marked bank.
    let way = c.args.root.now in
    let first = ap first_spelling (sym c.operands.ensures) ∙ sym c.in-Some.ensures in
    ap ended marked
    ∙ pragma-once bank c.args.file.now c.args.directive.now way c.in-Some.word.now first (ap (λ (w : List ℕ). bytes_eq w (codes "once")) (sym c.as_bytes-word.ensures) ∙ sym c.is_once.ensures ∙ c.if-is_once.true)) c.mark_once.ensures

pub returns-then-is_of_idl : goal.returns-then-is_of_idl
returns-then-is_of_idl g c = IfOk-weaker c.tell.result _ _ (λ _ told bank.
    let way = c.args.root.now in
    let first = ap first_spelling (sym c.operands.ensures) ∙ sym c.in-Some.ensures in
    let means = ap is_of_idl (sym c.as_bytes-word.ensures) ∙ sym c.is_of_idl.ensures ∙ c.if-is_of_idl.true in
    let d = c.args.directive.now in
    ap ended told
    ∙ ap (λ (place : Place). ended (telling (Kept (Pragma place c.in_ok-tokens.tokens)) way)) c.in_ok-word_place.ensures
    ∙ ap (λ (ts : List Token). ended (telling (Kept (Pragma (place_at c.args.file.now d.word) ts)) way)) (c.in_ok-tokens.ensures ∙ ap tokens_in c.tokens.ensures)
    ∙ pragma-of_idl bank c.args.file.now c.args.directive.now way c.in-Some.word.now first (ap (λ (w : List ℕ). bytes_eq w (codes "once")) (sym c.as_bytes-word.ensures) ∙ sym c.is_once.ensures ∙ c.if-is_once.false) means) c.tell.ensures

pub returns : goal.returns
returns g c = λ bank.
    let first = ap first_spelling (sym c.operands.ensures) ∙ sym c.in-Some.ensures in
    let means = ap is_of_idl (sym c.as_bytes-word.ensures) ∙ sym c.is_of_idl.ensures ∙ c.if-is_of_idl.false in
    pragma-other bank c.args.file.now c.args.directive.now c.args.root.now c.in-Some.word.now first (ap (λ (w : List ℕ). bytes_eq w (codes "once")) (sym c.as_bytes-word.ensures) ∙ sym c.is_once.ensures ∙ c.if-is_once.false) means
