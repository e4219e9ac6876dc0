use Rattle.std.proofs.Common.{◌∙◌}
use Rattle.idl_map.proofs.EntryLemmas.{lookup-by_order}
use Rattle.idl_map.proofs.arena.Arena.among_rest.Goals as goal

pub returns : goal.returns
returns g c = c.get.ensures.value ∙ lookup-by_order g.K.PartialEq.eq g.K.Ord.cmp g.met.K.Ord.matches_eq c.args.self.now.rest.entries c.args.key.now
