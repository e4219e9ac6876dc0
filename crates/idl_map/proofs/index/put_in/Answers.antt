use Rattle.std.proofs.Common.{ℕ, sym, subst}
use Rattle.idl_map.specs.Buckets.{HasAt, IsFull, IsThere, tag_of}
use Rattle.idl_map.proofs.BucketLemmas.{AreKept-twice, FindsIn-beside, beside-there, number-there}
use Rattle.idl_map.proofs.index.put_in.Goals as goal

pub put-requires : goal.put-requires
put-requires c = subst (IsThere c.args.buckets.now) (sym c.number_in.ensures) (number-there c.args.part c.args.buckets.now c.args.digest c.requires)

pub put-requires-else-put : goal.put-requires-else-put
put-requires-else-put c =
    c.put.ensures.kept.there c.number_beside.result
    (subst (IsThere c.args.buckets.now) (sym c.number_beside.ensures) (beside-there c.args.part c.args.buckets.now c.args.digest c.requires))

pub returns-else-put-clause-kept : goal.returns-else-put-clause-kept
returns-else-put-clause-kept c = AreKept-twice c.args.buckets.now c.put.new.self c.put-else-put.new.self c.put.ensures.kept c.put-else-put.ensures.kept

pub returns-else-put-clause-put : goal.returns-else-put-clause-put
returns-else-put-clause-put c done =
    let between = c.put.new.self in
    let after = c.put-else-put.new.self in
    let full = subst (λ (n : ℕ). IsFull between n) c.number_in.ensures (c.put.ensures.full c.if-put.false) in
    let tagged = subst (λ (t : ℕ). HasAt after c.number_beside.result t c.args.place) c.tag_of-tag.ensures.value (c.put-else-put.ensures.put done) in
    let found = subst (λ (n : ℕ). HasAt after n (tag_of c.args.digest) c.args.place) c.number_beside.ensures tagged in
    FindsIn-beside c.args.part after c.args.digest c.args.place (c.put-else-put.ensures.kept.full _ full) found
