use Rattle.idl_map.proofs.BucketLemmas.{spot-there}
use Rattle.idl_map.proofs.index.Index.place.Goals as goal

pub place-requires : goal.place-requires
place-requires c = spot-there c.args.self.now c.args.spot c.requires.spot c.requires.sound
