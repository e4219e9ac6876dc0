use Rattle.std.proofs.Common.{◌≡◌, ◌∙◌, Some, ap, rules, sym}
use Rattle.idl_entity.specs.contracts.paths.path.PathDatum.TheImpl.Laws.{same-law}
use Rattle.idl_store.specs.Stored.{result_at}
use Rattle.idl_root.proofs.kept.reprinting.Reprinting.next_at.Goals as goal

pub returns-then-eq-clause-found : goal.returns-then-eq-clause-found
returns-then-eq-clause-found c =
    let stored = c.args.kept.now in
    let place = c.loop-first.self.place in
    let k = c.in-Some.first.now in
    let here : result_at stored c.loop-first.self.list place ≡ Some k = search rules in (
      k,
      (
        ap (λ l. result_at stored l place) (sym c.loop-first.invariant.0) ∙ here,
        sym c.text.ensures ∙ same-law c.text.result.now c.args.path.now (sym c.eq.ensures ∙ c.if-eq.true),
      ),
    )
