use Rattle.std.proofs.Common.{◌≡◌, ◌%◌, ℕ, sym, subst, ◌∙◌}
use Rattle.std.proofs.lemmas.Option.{same_Some}
use Rattle.idl_map.specs.declared.index.Stripe.{Stripe}
use Rattle.idl_map.specs.Buckets.{IsThere, StandsAt, number_beside, tag_of}
use Rattle.idl_map.proofs.BucketLemmas.{beside-there, own-chosen}
use Rattle.idl_map.proofs.index.Index.marked_beside.Goals as goal

pub marked-requires-clause-there : goal.marked-requires-clause-there
marked-requires-clause-there c =
    let digest = c.args.digest in
    let own = c.index-part.result.now in
    let chosen = own-chosen c.args.self.now digest own c.requires c.index-part.ensures in
    subst (IsThere c.args.self.now.buckets) (sym c.number_beside-number.ensures) (beside-there own c.args.self.now.buckets digest (c.requires.there (digest % 64) own chosen))

pub returns-clause-marked : goal.returns-clause-marked
returns-clause-marked c part is slot i at =
    let digest = c.args.digest in
    let buckets = c.args.self.now.buckets in
    let own = c.index-part.result.now in
    let chosen = own-chosen c.args.self.now digest own c.requires c.index-part.ensures in
    let same : part ≡ own = same_Some part own (sym is ∙ chosen) in
    let there = subst (λ (p : Stripe). StandsAt buckets (number_beside p digest) slot (tag_of digest) i) same at in
    let numbered = subst (λ (n : ℕ). StandsAt buckets n slot (tag_of digest) i) (sym c.number_beside-number.ensures) there in
    c.marked.ensures.marked slot i (subst (λ (t : ℕ). StandsAt buckets c.number_beside-number.result slot t i) (sym c.tag_of.ensures.value) numbered)
