use Rattle.std.proofs.Common.{sym, take, ◌∙◌}
use Rattle.idl_memo.proofs.RunLaws.{flat_map-none}
use Rattle.idl_memo.proofs.run.Run.has_none.Goals as goal

pub returns : goal.returns
returns g c =
    let head = c.self.inside.head in
    sym c.self.view_is ∙ flat_map-none (g.B.Step.Step.logged head) (g.met.B.PlainBank.plain head) (take c.self.inside.count c.self.inside.steps)
