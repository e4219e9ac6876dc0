use Rattle.std.proofs.Common.{◌≡◌, ◌+◌, false, eqb, get_or, take, arith}
use Rattle.std.proofs.lemmas.List.{take_all, take_rest}
use Rattle.std.proofs.lemmas.List.Splits.{slice_split_none}
use Rattle.std.proofs.lemmas.List.Elements.{All-more}
use Rattle.std.proofs.lemmas.Bool.Decides.{nat_tests}
use Rattle.idl_source.proofs.PartLemmas.{split-found}
use Rattle.idl_source.proofs.names.parts.first_part.Goals as goal

pub returns-then-b-byte-clause-parts : goal.returns-then-b-byte-clause-parts
returns-then-b-byte-clause-parts c =
    rw (take_rest c.args.bytes.now (c.loop-i.i + 1))
    (split-found c.args.bytes.now c.args.byte c.loop-i.i 0 c.loop-i-test.true c.if-b-byte.true c.loop-i.invariant)

pub loop-i-preserved : goal.loop-i-preserved
loop-i-preserved c =
    let other : eqb (get_or c.args.bytes.now c.loop-i.i 0) c.args.byte ≡ false = grind (arith, nat_tests) in
    All-more (λ b. eqb b c.args.byte ≡ false) c.args.bytes.now c.loop-i.i 0 c.loop-i-test.true c.loop-i.invariant other

pub returns-clause-parts : goal.returns-clause-parts
returns-clause-parts c =
    let whole : take c.loop-i.i c.args.bytes.now ≡ c.args.bytes.now = take_all _ _ c.loop-i-test.false in
    slice_split_none (λ b. eqb b c.args.byte) c.args.bytes.now (rw whole at c.loop-i.invariant)
