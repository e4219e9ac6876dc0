use Rattle.std.proofs.Common.{ℕ, inl, sym, subst, ◌∙◌}
use Rattle.std.proofs.lemmas.Option.{same_Some}
use Rattle.idl_map.specs.declared.index.Stripe.{Stripe}
use Rattle.idl_map.specs.Buckets.{FindsIn, HasAt, tag_of}
use Rattle.idl_map.proofs.BucketLemmas.{IsIndexed-kept, spot-there}
use Rattle.idl_map.proofs.index.Index.put.Goals as goal

pub put-requires : goal.put-requires
put-requires c = spot-there c.args.self.now c.args.spot c.requires.spot c.requires.sound

pub returns-clause-sound : goal.returns-clause-sound
returns-clause-sound c = IsIndexed-kept c.args.self.now c.put.new.self c.requires.sound c.put.ensures.kept

pub returns-clause-found : goal.returns-clause-found
returns-clause-found c done part is =
    let spot = c.args.spot in
    let buckets = c.put.new.self in
    let chosen = c.requires.spot in
    let there = subst (λ (t : ℕ). HasAt buckets spot.number t c.args.place) chosen.tag (c.put.ensures.put done) in
    let found = subst (λ (n : ℕ). HasAt buckets n (tag_of spot.digest) c.args.place) chosen.number there in
    subst (λ (p : Stripe). FindsIn p buckets spot.digest c.args.place) (same_Some chosen.part part (sym chosen.chosen ∙ is)) (found.0, inl found.1)
