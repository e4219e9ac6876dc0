use Rattle.std.proofs.Common.{◌≡◌, ◌∙◌, ◌++◌, [], ap, map, refl, subst, sym}
use Rattle.std.proofs.lemmas.List.{append-nil, drop_all}
use Rattle.idl_related.specs.FirstDeclared.{told_after, told_by, without_other_places}
use Rattle.idl_related.specs.Judged.{units_before}
use Rattle.idl_related.proofs.FirstDeclaredLemmas.{units-behind}
use Rattle.idl_related.proofs.judged.JudgedUnits.pass_all.Goals as goal

pub units-init : goal.units-init
units-init c =
    let self = c.args.self.now in record {
      root = c.requires;
      expansion = refl;
      asks = refl;
      told = λ asks. ap (λ facts. map without_other_places self.told.items ++ told_after self.expansion.now (units_before self facts 0) self.known.units.now) c.in_ok-env.ensures;
    }

pub units-preserved : goal.units-preserved
units-preserved c =
    let events = c.args.self.now.expansion.now in
    let env = c.units.env in
    let old = c.units.self in
    let new = c.pass.new.self in
    let i = c.units.number in
    let unit = c.index-units-number.result in
    let before = units_before old env i in
    let passed = c.in_ok-env-2.ensures in
    let inv = c.units.invariant in record {
      root = passed.root;
      expansion = passed.behind.expansion ∙ inv.expansion;
      asks = passed.behind.asks ∙ inv.asks;
      told = λ asks.
          units-behind events before c.in_ok-env-2.env new.first c.args.self.now.known.units.now unit old.told.items new.told.items
          c.units-test.true c.index-units-number.is passed.env (passed.behind.names (inv.asks ∙ asks))
          (subst (λ out. map without_other_places new.told.items ≡ map without_other_places old.told.items ++ told_by out before unit) inv.expansion passed.behind.told)
          ∙ inv.told asks;
    }

pub returns-clause-told : goal.returns-clause-told
returns-clause-told c = λ asks.
    let self = c.args.self.now in
    let events = self.expansion.now in
    let units = self.known.units.now in
    let last = c.units.self in
    let told = map without_other_places last.told.items in
    sym (append-nil told)
    ∙ ap (λ us. told ++ told_after events (units_before last c.units.env c.units.number) us) (sym (drop_all c.units.number units c.units-test.false))
    ∙ c.units.invariant.told asks
    ∙ ap (λ us. map without_other_places self.told.items ++ told_after events (units_before self [] 0) us) c.requires.units
