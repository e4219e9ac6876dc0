use Rattle.std.proofs.Common.{◌≡◌, ◌%◌, sym, subst, ◌∙◌}
use Rattle.std.proofs.lemmas.Option.{same_Some}
use Rattle.idl_map.specs.declared.index.Stripe.{Stripe}
use Rattle.idl_map.specs.Buckets.{FindsIn}
use Rattle.idl_map.proofs.BucketLemmas.{IsIndexed-kept, own-chosen}
use Rattle.idl_map.proofs.index.Index.put_beside.Goals as goal

pub put_in-requires : goal.put_in-requires
put_in-requires c =
    let digest = c.args.digest in
    let own = c.index-part.result.now in
    let chosen = own-chosen c.args.self.now digest own c.requires c.index-part.ensures in
    c.requires.there (digest % 64) own chosen

pub returns-clause-sound : goal.returns-clause-sound
returns-clause-sound c = IsIndexed-kept c.args.self.now c.put_in.new.buckets c.requires c.put_in.ensures.kept

pub returns-clause-found : goal.returns-clause-found
returns-clause-found c done part is =
    let digest = c.args.digest in
    let own = c.index-part.result.now in
    let chosen = own-chosen c.args.self.now digest own c.requires c.index-part.ensures in
    let same : own ≡ part = same_Some own part (sym chosen ∙ is) in
    subst (λ (p : Stripe). FindsIn p c.put_in.new.buckets digest c.args.place) same (c.put_in.ensures.put done)
