use Rattle.std.proofs.Common.{◌≡◌, ◌∙◌, ◌++◌, ◌∷◌, [], sym, ap, rules}
use Rattle.std.proofs.lemmas.List.{append-nil}
use Rattle.std.specs.List.{enumerate_from}
use Rattle.idl_unit.specs.Placing.{to_come}
use Rattle.idl_unit.specs.Units.{units_in, units_of}
use Rattle.idl_unit.specs.declared.unit.Unit.TheVariants.{End}
use Rattle.idl_unit.proofs.PlacingLemmas.{start-within, start-to_come}
use Rattle.idl_unit.proofs.cut.split.Goals as goal

pub events-init : goal.events-init
events-init c =
    let cut = c.in_ok-cut.cut in
    let events = enumerate_from 0 c.args.expansion.now in
    let walk : c.events-events.result ≡ events = search rules in
    record {
      within = start-within cut events c.in_ok-cut.ensures.text c.in_ok-cut.ensures.sites c.in_ok-cut.ensures.taken c.in_ok-cut.ensures.run;
      units = ap (to_come cut) walk ∙ start-to_come cut events c.in_ok-cut.ensures.text c.in_ok-cut.ensures.sites c.in_ok-cut.ensures.units c.in_ok-cut.ensures.taken c.in_ok-cut.ensures.inside;
    }

pub returns : goal.returns
unfolding units_of
returns c =
    let cut = c.put_next.new.self in
    let none : c.put_next.new.events ≡ [] = search rules in
    let units : to_come cut c.put_next.new.events ≡ to_come c.events.cut c.events.events = search rules in
    let all : cut.units.items ≡ units_in (enumerate_from 0 c.args.expansion.now) = sym (append-nil cut.units.items) ∙ ap (to_come cut) (sym none) ∙ units ∙ c.events.invariant.units in
    let pushed : c.from_vec.result ≡ cut.units.items ++ End ∷ [] = search rules in
    pushed ∙ ap (λ l. l ++ End ∷ []) all
