use Rattle.std.proofs.Common.{◌≡◌, ◌∙◌, ◌++◌, length, sym, ap, append_assoc, rules}
use Rattle.idl_unit.specs.Placing.{after_token, ahead, begun, placed, to_come}
use Rattle.idl_unit.proofs.PlacingLemmas.{placed-one}
use Rattle.idl_unit.proofs.cut.Cut.put_next.Goals as goal

pub returns-then-pass_tokens-eq1-clause-units : goal.returns-then-pass_tokens-eq1-clause-units
returns-then-pass_tokens-eq1-clause-units c =
    let s = c.args.self.now in
    let cut = c.put_token.new.self in
    let first = c.pass_tokens.ensures.passed in
    let rest = c.pass_tokens.new.self in
    let counted : c.pass_tokens.result ≡ 1 = search rules in
    let one : length first.tokens ≡ 1 = first.long ∙ counted in
    c.pass.ensures.units
    ∙ ap (λ units. units ++ placed (ahead cut) rest) c.in_ok-put_token.ensures.units
    ∙ ap (λ a. (s.units.items ++ begun (ahead s)) ++ placed a rest) c.in_ok-put_token.ensures.ahead
    ∙ append_assoc s.units.items (begun (ahead s)) (placed (after_token (ahead s)) rest)
    ∙ ap (λ l. s.units.items ++ l) (sym (placed-one (ahead s) first.tokens rest one first.alone))
    ∙ sym (ap (to_come s) first.all)
