use Rattle.std.proofs.Common.{List, map, not, subst, sym, ◌∙◌}
use Rattle.std.proofs.lemmas.Bool.{not-false, not-true}
use Rattle.std.proofs.lemmas.List.{take_all}
use Rattle.std.specs.List.{filter}
use Rattle.idl_entity.specs.Path.{path_eq}
use Rattle.idl_project.specs.idl_sources.idl_root.declared.compiling.places.PlacedName.{PlacedName}
use Rattle.idl_server.specs.References.{AreAdded}
use Rattle.idl_server.proofs.ReferenceLemmas.{added-here, added-none, added-past}
use Rattle.idl_server.proofs.references.NamedPlaces.add_declared.Goals as goal

pub each-init : goal.each-init
each-init c = added-none c.args.self.now

pub each-preserved-then-ne : goal.each-preserved-then-ne
each-preserved-then-ne c =
    let path = c.args.path.now in
    let one = c.declared-item.result in
    added-past (λ (one : PlacedName). one.place.name) (λ (one : PlacedName). path_eq path one.path) c.as_slice-names.result.now c.each.declared-index one c.each-test.true c.declared-item.is c.args.self.now c.each.self c.each.invariant
    (not-true (path_eq path one.path) (sym c.ne.ensures ∙ c.if-ne.true))

pub each-preserved : goal.each-preserved
each-preserved c =
    let path = c.args.path.now in
    let one = c.declared-item.result in
    added-here (λ (one : PlacedName). one.place.name) (λ (one : PlacedName). path_eq path one.path) c.as_slice-names.result.now c.each.declared-index one c.each-test.true c.declared-item.is c.args.self.now c.each.self c.each.invariant
    c.add.new.self (not-false (path_eq path one.path) (sym c.ne.ensures ∙ c.if-ne.false)) c.in_ok-add.ensures

pub returns : goal.returns
returns c =
    let path = c.args.path.now in
    subst (λ (names : List PlacedName). AreAdded (map (λ (one : PlacedName). one.place.name) (filter (λ (one : PlacedName). path_eq path one.path) names)) c.args.self.now c.each.self)
    (take_all c.each.declared-index c.as_slice-names.result.now c.each-test.false ∙ c.as_slice-names.ensures) c.each.invariant
