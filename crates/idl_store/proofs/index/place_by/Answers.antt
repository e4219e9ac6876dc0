-- The items rise against what is looked for, where they stand to it as they do to a result.
use Rattle.std.proofs.Common.{rules}
use Rattle.std.proofs.lemmas.Fn.{always_returns_same}
use Rattle.std.specs.declared.cmp.Ordering.TheVariants.{Equal}
use Rattle.std.proofs.Common.{◌≡◌}
use Rattle.idl_store.proofs.Indexing.{order-rises, rises-same, search-found, search-from}
use Rattle.idl_store.specs.declared.index.Numbered.{Numbered}
use Rattle.idl_store.proofs.index.place_by.Goals as goal

pub returns-clause-found : goal.returns-clause-found
returns-clause-found g c =
    let at = λ (one : Numbered g.row.R.Denot). g.P.Probe.stand c.args.probe.now one.result in
    let found = c.binary_search_by.ensures.position at (always_returns_same _ _ _ (λ a r h called. search rules)) in
    search-found at (λ one. at one ≡ Equal) (λ one tie. tie) c.args.bucket.now c.binary_search_by.result found

pub returns-clause-absent : goal.returns-clause-absent
returns-clause-absent g c = λ other same.
    let at = λ (one : Numbered g.row.R.Denot). g.P.Probe.stand c.args.probe.now one.result in
    let by = λ (one : Numbered g.row.R.Denot). g.R.Ranked.rank one.result other in
    let items = c.args.bucket.now in
    let facts = c.binary_search_by.ensures in
    let found = facts.position at (always_returns_same _ _ _ (λ a r h called. search rules)) in
    let rises = order-rises g.R.Ranked.rank g.met.R.Ranked.ranked (λ one. one.result) other items c.requires in
    (search-from at items c.binary_search_by.result facts.bound found (rises-same at by items same rises)).1
