use Rattle.std.proofs.Common.{◌≡◌, ℕ, List, Option, None, Some, ap, sym, ◌∙◌}
use Rattle.std.proofs.lemmas.Result.{IfOk-weaker}
use Rattle.std.specs.Option.{option_copied}
use Rattle.idl_event.specs.Expanding.{arrival, arrived}
use Rattle.idl_lex.specs.tokens.Tokens.{Token}
use Rattle.idl_macro.specs.Macros.{macro_of}
use Rattle.idl_macro.specs.Replace.{operand}
use Rattle.idl_prep.specs.Include.{Operand, operand_given}
use Rattle.idl_prep.proofs.IncludeLemmas.{arrival-operand_at-word, arrived-operand_by}
use Rattle.idl_prep.proofs.directives.replaced_operand.operand_at.Goals as goal

pub returns-in-None : goal.returns-in-None
returns-in-None g c =
    let bank = g.B.Bank.at c.args.macros.now.bank.now in
    let definitions = c.args.macros.now.definitions.now in
    let t = c.args.token.now in
    let p = c.args.progress.now in
    let mid = c.macro_of.new.progress in
    let none = sym c.in_ok-operand.ensures ∙ c.in_default.is in
    let word = sym c.is_word.ensures ∙ c.if-not-is_word.false in
    let came : arrived None mid ≡ arrival bank (macro_of definitions t) p =
    ap (λ o. arrived (option_copied o) mid) (sym c.in-None.is)
    ∙ c.in_ok-macro_of.ensures ∙ ap (λ (w : List ℕ). arrival bank (macro_of definitions w) p) c.spelling.ensures in
    arrival-operand_at-word bank c.args.place.now definitions t None p mid none word came

pub returns-in_ok-given-in-Some-2 : goal.returns-in_ok-given-in-Some-2
returns-in_ok-given-in-Some-2 g c = IfOk-weaker c.operand_given.result _ _ (λ _ is.
    let bank = g.B.Bank.at c.args.macros.now.bank.now in
    let place = c.args.place.now in
    let definitions = c.args.macros.now.definitions.now in
    let t = c.args.token.now in
    let p = c.args.progress.now in
    let mid = c.macro_of.new.progress in
    let new = c.replace_operand.new.progress in
    let body = c.in-Some-2._body.now in
    let given = c.in_ok-given-in-Some-2.given.items in
    let none = sym c.in_ok-operand.ensures ∙ c.in_default.is in
    let word = sym c.is_word.ensures ∙ c.if-not-is_word.false in
    let came : arrived (Some body) mid ≡ arrival bank (macro_of definitions t) p =
    ap (λ o. arrived (option_copied o) mid) (sym c.in-Some-2.is)
    ∙ c.in_ok-macro_of.ensures ∙ ap (λ (w : List ℕ). arrival bank (macro_of definitions w) p) c.spelling.ensures in
    ap (λ (o : Option Operand). arrived o new) (is ∙ ap operand_given c.deref.ensures.value)
    ∙ arrived-operand_by bank place definitions t body given mid new
    (c.in_ok-given-in-Some-2.ensures ∙ ap (λ (ts : List Token). arrival bank (operand place definitions ts) mid) c.from_ref.ensures.value)
    ∙ arrival-operand_at-word bank place definitions t (Some body) p mid none word came) c.operand_given.ensures
