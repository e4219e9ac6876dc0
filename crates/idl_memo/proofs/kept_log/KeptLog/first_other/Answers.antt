-- Part by part: what is left tells.
use Rattle.std.proofs.Common.{◌≡◌, true, None, sym, ap, ◌∙◌, arith}
use Rattle.std.specs.Option.{is_some}
use Rattle.std.proofs.lemmas.Grind.{common_steps}
use Rattle.idl_memo.specs.Parts.{lent_entries}
use Rattle.idl_memo.specs.Runs.{first_other}
use Rattle.idl_memo.proofs.RunLaws.{not-some, other-behind, other-front, some-mapped}
use Rattle.idl_memo.proofs.kept_log.KeptLog.first_other.Goals as goal

pub parts-init : goal.parts-init
parts-init g c = grind (arith, common_steps)

pub returns-then-is_some : goal.returns-then-is_some
returns-then-is_some g c =
    let eq = g.B.Answer.PartialEq.eq in
    let bank = g.B.Bank.at c.args.bank.now in
    let here = lent_entries c.in-Some.part in
    let some : is_some (first_other eq bank here) ≡ true = some-mapped _ c.other_in-other.result (first_other eq bank here) c.other_in-other.ensures ∙ sym c.is_some.ensures ∙ c.if-is_some.true in
    c.other_in-other.ensures ∙ sym (c.parts.invariant ∙ ap (first_other eq bank) c.in-Some.ensures.first ∙ other-front eq bank here c.next.new.self.entries some)

pub parts-preserved : goal.parts-preserved
parts-preserved g c =
    let eq = g.B.Answer.PartialEq.eq in
    let bank = g.B.Bank.at c.args.bank.now in
    let here = lent_entries c.in-Some.part in
    let none : first_other eq bank here ≡ None = not-some (first_other eq bank here) (some-mapped _ c.other_in-other.result (first_other eq bank here) c.other_in-other.ensures ∙ sym c.is_some.ensures ∙ c.if-is_some.false) in
    c.parts.invariant ∙ ap (first_other eq bank) c.in-Some.ensures.first ∙ other-behind eq bank here c.next.new.self.entries none

pub returns : goal.returns
returns g c = grind (arith, common_steps)
