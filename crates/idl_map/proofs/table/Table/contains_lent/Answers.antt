use Rattle.std.proofs.Common.{ap, ◌∙◌}
use Rattle.std.specs.List.{list_any}
use Rattle.idl_map.proofs.TableLemmas.{among_keys}
use Rattle.idl_map.proofs.table.Table.contains_lent.Goals as goal

pub returns-in-None : goal.returns-in-None
returns-in-None g c =
    let test = g.K.PartialEq.eq (g.L.Lent.key c.args.key.now) in
    c.is_lent_among.ensures
    ∙ ap (list_any (λ e. test e.0)) (c.deref-in-None.ensures.value ∙ c.self.view_is)
    ∙ among_keys test c.args.self.now
