use Rattle.std.proofs.Common.{List, ap, ◌∙◌}
use Rattle.std.proofs.lemmas.Result.{IfOk-weaker}
use Rattle.idl_event.specs.Expanding.{arrival}
use Rattle.idl_fault.specs.declared.place.Place.{Place}
use Rattle.idl_lex.specs.declared.tokens.token.PlacedToken.{PlacedToken}
use Rattle.idl_prep.specs.Include.{operand_of}
use Rattle.idl_prep.specs.Place.{place_in}
use Rattle.idl_prep.specs.State.{Way}
use Rattle.idl_prep.proofs.walk.root.Root.operand_of.Goals as goal

pub returns-clause-arrival : goal.returns-clause-arrival
returns-clause-arrival g c = IfOk-weaker c.operand_of.result _ _ (λ _ came.
    let bank = g.B.Bank.at c.args.site.now.bank.now in
    let s = c.self.inside in
    let at = place_in c.args.site.now.file.now c.args.directive.now in
    came
    ∙ ap (λ (place : Place). arrival bank (operand_of place s.definitions c.operands.result.now) s.progress) c.in_ok-place.ensures
    ∙ ap (λ (ts : List PlacedToken). arrival bank (operand_of at s.definitions ts) s.progress) c.operands.ensures
    ∙ ap (λ (way : Way). arrival bank (operand_of at way.state.definitions c.args.directive.now.operands) way.progress) c.self.view_is) c.operand_of.ensures
