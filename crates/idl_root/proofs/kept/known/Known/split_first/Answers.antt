use Rattle.std.proofs.Common.{◌≡◌, ◌∙◌, ◌∷◌, ◌+◌, ap, sym}
use Rattle.idl_root.proofs.BlockLemmas.{from-next}
use Rattle.idl_store.specs.Spots.{results_from}
use Rattle.idl_root.proofs.kept.known.Known.split_first.Goals as goal

pub returns-clause-behind : goal.returns-clause-behind
returns-clause-behind c = λ count.
    let spot = c.args.self.spot in
    let next : c.new-behind.result.spot ≡ record spot { place = spot.place + 1 } = c.new-behind.ensures.spot ∙ ap (λ n. record spot { place = n }) c.in_ok-place.ensures.1 in
    from-next c.args.self.declarations.now spot c.in_ok-first.first.now.value count (sym c.in_ok-first.ensures)
    ∙ (λ i. sym c.deref.ensures i ∷ results_from (sym c.new-behind.ensures.declarations i) (sym next i) count)
