use Rattle.std.proofs.Common.{◌≡◌, ◌∙◌, ◌+◌, ◌-◌, ◌∷◌, List, suc, ap, arith, drop, sym}
use Rattle.idl_lex.specs.declared.bytes.text_left.TextByte.{TextByte}
use Rattle.idl_lex.proofs.bytes.text_left.TextLeft.behind_bytes.Goals as goal

pub loop-preserved : goal.loop-preserved
loop-preserved c =
    let more : c.args.count - c.loop.counter ≡ suc (c.args.count - (c.loop.counter + 1)) = omega (arith, c.loop-test.true) in
    sym (ap (λ (text : List TextByte). drop (c.args.count - c.loop.counter) text) c.in-Some.ensures ∙ ap (λ n. drop n (c.in-Some._first ∷ c.in-Some.rest)) more)
    ∙ c.loop.invariant
