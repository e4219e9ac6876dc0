-- The first answer that isn't the bank's tells.
use Rattle.std.proofs.Common.{sym, ap, ◌∙◌}
use Rattle.std.specs.Option.{option_map}
use Rattle.idl_store.proofs.Telling.{first-tells, lent-cmp, order_told}
use Rattle.idl_store.proofs.order.order_in.Goals as goal

pub returns-in-Some : goal.returns-in-Some
returns-in-Some g c =
    let cmp = g.B.Answer.Ord.cmp in
    let tells = first-tells cmp g.B.Answer.PartialEq.eq g.met.B.Answer.Ord.matches_eq (g.B.Bank.at c.args.bank.now) c.args.log.now in
    c.cmp.ensures ∙ lent-cmp cmp c.in-Some.logged c.in-Some.found ∙ ap (order_told cmp) (ap (option_map _) (sym c.in-Some.is) ∙ c.first_other.ensures) ∙ sym tells

pub returns-in-None : goal.returns-in-None
returns-in-None g c =
    let cmp = g.B.Answer.Ord.cmp in
    let tells = first-tells cmp g.B.Answer.PartialEq.eq g.met.B.Answer.Ord.matches_eq (g.B.Bank.at c.args.bank.now) c.args.log.now in
    ap (order_told cmp) (ap (option_map _) (sym c.in-None.is) ∙ c.first_other.ensures) ∙ sym tells
