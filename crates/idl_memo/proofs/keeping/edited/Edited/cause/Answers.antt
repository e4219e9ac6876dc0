use Rattle.std.proofs.Common.{◌≢◌, ◌∙◌, sym}
use Rattle.std.proofs.lemmas.Bool.{true≢false}
use Rattle.std.specs.Option.{option_copied}
use Rattle.idl_memo.proofs.Causes.{IsCause-none, IsCause-some}
use Rattle.idl_memo.proofs.keeping.edited.Edited.cause.Goals as goal

pub returns-then-is_same : goal.returns-then-is_same
returns-then-is_same g c =
    let edited = c.args.self.now in
    IsCause-none g.B.Key.PartialEq.eq g.met.B.Key.Eq.laws.refl g.met.B.Key.Datum.same (g.B.Bank.at edited.base.now) edited.key.now (option_copied edited.answer)
    (c.is_same.ensures.0 c.if-is_same.true ∙ c.answer.ensures)

pub returns : goal.returns
returns g c =
    let edited = c.args.self.now in
    let bank = g.B.Bank.at edited.base.now in
    let other : option_copied edited.answer ≢ bank edited.key.now = λ is. true≢false (sym (c.is_same.ensures.1 (is ∙ sym c.answer.ensures)) ∙ c.if-is_same.false) in
    IsCause-some g.B.Key.PartialEq.eq g.met.B.Key.Eq.laws.refl g.met.B.Key.Datum.same bank edited.key.now (option_copied edited.answer) other
