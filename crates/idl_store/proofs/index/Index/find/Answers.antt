-- A bucket is searched alone: whatever else is kept has another number.
use Rattle.std.proofs.Common.{◌≡◌, List, ap, get_or, subst, sym}
use Rattle.std.specs.Prelude.{All, Any}
use Rattle.std.specs.declared.cmp.Ordering.TheVariants.{Equal}
use Rattle.idl_store.specs.Index.{IsGap}
use Rattle.idl_store.specs.declared.index.Numbered.{Numbered}
use Rattle.idl_store.proofs.index.Index.find.Goals as goal

pub place_by-requires : goal.place_by-requires
place_by-requires g c = c.bucket-results.ensures.order

pub returns-in-Ok-clause-found : goal.returns-in-Ok-clause-found
returns-in-Ok-clause-found g c =
    let stand = g.P.Probe.stand c.args.probe.now in
    let one = c.index-results-place.result in
    let here : stand one.result ≡ Equal = subst (λ (o : Numbered g.row.R.Denot). stand o.result ≡ Equal) (sym c.index-results-place.is) (c.in-Ok.ensures.found one) in
    subst (λ (items : List (Numbered g.row.R.Denot)). Any (λ item. (stand item.result ≡ Equal) × (item.number ≡ (get_or c.bucket-results.result.now c.in-Ok.place one).number)) items) c.bucket-results.ensures.value
    (c.in-Ok.place, one, c.in-Ok.ensures.within, sym c.index-results-place.is, (here, ap (λ (o : Numbered g.row.R.Denot). o.number) c.index-results-place.is))

pub returns-in-Err-clause-gap : goal.returns-in-Err-clause-gap
returns-in-Err-clause-gap g c = λ kept same.
    let stand = g.P.Probe.stand c.args.probe.now in
    let is = c.bucket-results.ensures.value in
    subst (λ (items : List (Numbered g.row.R.Denot)). IsGap (λ item. stand item.result) items c.in-Err.place) is
    (c.in-Err.ensures.absent kept (subst (λ (items : List (Numbered g.row.R.Denot)). All (λ item. stand item.result ≡ g.R.Ranked.rank item.result kept) items) (sym is) same))
