use Rattle.std.proofs.Common.{◌≡◌, ◌%◌, ℕ, sym, subst, ◌∙◌}
use Rattle.std.proofs.lemmas.Option.{same_Some}
use Rattle.idl_map.specs.declared.index.Stripe.{Stripe}
use Rattle.idl_map.specs.Buckets.{IsThere, StandsAt, number_beside}
use Rattle.idl_map.proofs.BucketLemmas.{beside-there, own-chosen}
use Rattle.idl_map.proofs.index.Index.place_beside.Goals as goal

pub place-requires : goal.place-requires
place-requires c =
    let digest = c.args.digest in
    let own = c.index-part.result.now in
    let chosen = own-chosen c.args.self.now digest own c.requires c.index-part.ensures in
    subst (IsThere c.args.self.now.buckets) (sym c.number_beside.ensures) (beside-there own c.args.self.now.buckets digest (c.requires.there (digest % 64) own chosen))

pub returns : goal.returns
returns c part is t i at =
    let digest = c.args.digest in
    let buckets = c.args.self.now.buckets in
    let own = c.index-part.result.now in
    let chosen = own-chosen c.args.self.now digest own c.requires c.index-part.ensures in
    let same : part ≡ own = same_Some part own (sym is ∙ chosen) in
    let there = subst (λ (p : Stripe). StandsAt buckets (number_beside p digest) c.args.slot t i) same at in
    c.place.ensures t i (subst (λ (n : ℕ). StandsAt buckets n c.args.slot t i) (sym c.number_beside.ensures) there)
