use Rattle.std.proofs.Common.{List, ap, sym, ◌∙◌}
use Rattle.std.proofs.lemmas.Result.{IfOk-weaker}
use Rattle.idl_lex.specs.tokens.Tokens.{Token}
use Rattle.idl_lex.specs.declared.tokens.token.PlacedToken.{PlacedToken}
use Rattle.idl_prep.specs.Include.{operand_at, operand_of}
use Rattle.idl_event.specs.Expanding.{arrival}
use Rattle.idl_prep.proofs.directives.replaced_operand.operand_of.Goals as goal

pub returns-in-Some : goal.returns-in-Some
unfolding operand_of
returns-in-Some g c = IfOk-weaker c.operand_at.result _ _ (λ _ came.
    let bank = g.B.Bank.at c.args.macros.now.bank.now in
    let place = c.args.place.now in
    let definitions = c.args.macros.now.definitions.now in
    came
    ∙ ap (λ (t : Token). arrival bank (operand_at place definitions t) c.args.progress.now) c.token.ensures
    ∙ ap (λ (ts : List PlacedToken). arrival bank (operand_of place definitions ts) c.args.progress.now) (sym c.in-Some.ensures)) c.operand_at.ensures
