use Rattle.idl_map.proofs.BucketLemmas.{own-chosen}
use Rattle.idl_map.proofs.index.Index.spot_of.Goals as goal

pub returns-clause-spot : goal.returns-clause-spot
returns-clause-spot c =
    let part = c.index-part.result.now in
    record {
      part = part;
      chosen = own-chosen c.args.self.now c.args.digest part c.requires c.index-part.ensures;
      number = c.number_in.ensures;
      tag = c.tag_of.ensures.value;
    }
