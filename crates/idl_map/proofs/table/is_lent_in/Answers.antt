use Rattle.std.proofs.Common.{sym, ap, ◌∙◌}
use Rattle.std.specs.Option.{option_copied}
use Rattle.idl_base.proofs.Exactness.{Decides-eq}
use Rattle.idl_map.specs.Table.{places_in}
use Rattle.idl_map.proofs.TableLemmas.{lent-at, lent-nowhere}
use Rattle.idl_map.proofs.table.is_lent_in.Goals as goal

pub returns-in-Some : goal.returns-in-Some
returns-in-Some g c =
    let eq = g.K.PartialEq.eq in
    let exact = Decides-eq eq g.met.K.Eq.laws g.met.K.Datum.same in
    lent-at eq exact c.args.entries.now (places_in eq c.args.places.now) (g.L.Lent.key c.args.key.now) c.in-Some.place.now c.is_lent_at.result
    c.requires (sym c.in_ok-place.ensures ∙ ap option_copied c.in-Some.is) c.is_lent_at.ensures

pub returns-in-None : goal.returns-in-None
returns-in-None g c =
    let eq = g.K.PartialEq.eq in
    let exact = Decides-eq eq g.met.K.Eq.laws g.met.K.Datum.same in
    lent-nowhere eq exact c.args.entries.now (places_in eq c.args.places.now) (g.L.Lent.key c.args.key.now)
    c.requires (sym c.in_ok-place.ensures ∙ ap option_copied c.in-None.is)
