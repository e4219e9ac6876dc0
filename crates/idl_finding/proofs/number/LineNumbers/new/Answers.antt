use Rattle.std.proofs.Common.{◌≡◌, ◌∙◌, ◌+◌, ◌-◌, ◌∷◌, [], ap, arith, length, length-append, subst, sym}
use Rattle.idl_finding.specs.Number.{AreNumbersOf, token_number}
use Rattle.idl_finding.proofs.LineNumberLemmas.{numbers-more}
use Rattle.idl_finding.proofs.number.LineNumbers.new.Goals as goal

pub loop-event-preserved : goal.loop-event-preserved
loop-event-preserved c =
    let events = c.args.expansion.now in
    let event = c.loop-event.event in
    let number = c.next_number-number.result in
    let before = c.loop-event.numbers.items in
    let inv = c.loop-event.invariant in
    let same : event ≡ event + 1 - 1 = omega arith in
    record {
      numbers = subst (AreNumbersOf events) (sym c.in_ok-push.ensures.items) (numbers-more events before event number inv.numbers inv.count c.next_number-number.ensures);
      count = omega (arith, inv.count, ap length c.in_ok-push.ensures.items, length-append before (number ∷ []));
      before = λ some. c.next_number-number.ensures ∙ ap (token_number events) same;
    }
