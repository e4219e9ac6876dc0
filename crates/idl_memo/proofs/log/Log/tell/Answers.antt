-- The run is that of the last entries.
use Rattle.std.proofs.Common.{ap, arith, drop, length, length-drop, sym, ◌∙◌}
use Rattle.idl_memo.proofs.RunLaws.{stand-last}
use Rattle.idl_memo.proofs.log.Log.tell.Goals as goal

pub alone-requires : goal.alone-requires
alone-requires g c = omega (arith, length-drop c.args.place c.args.self.now, ap length c.requires, c.len-len.ensures)

pub invariant_of-self : goal.invariant_of-self
invariant_of-self g c =
    stand-last c.args.place c.in_ok-run.run' c.self.inside.entries (omega (arith, ap length c.self.view_is, c.len-len.ensures, c.if-place-len.false)) (ap (drop c.args.place) c.self.view_is ∙ c.requires ∙ sym c.in_ok-run.ensures)
