use Rattle.std.proofs.Common.{◌∙◌, ◌-◌, List, ap, length, slice_get, sym}
use Rattle.std.proofs.lemmas.List.{take_all}
use Rattle.std.specs.Option.{option_copied}
use Rattle.idl_project.specs.idl_sources.idl_root.NamePlaces.{places_at}
use Rattle.idl_project.specs.idl_sources.idl_root.declared.compiling.places.PlacedName.{PlacedName}
use Rattle.idl_server.proofs.NamedLemmas.{last-here, last-past}
use Rattle.idl_server.proofs.named.last_declared.Goals as goal
use Rattle.idl_server.proofs.named.last_declared.Goals.{then-eq, else-eq}

pub each-preserved : goal.each-preserved
each-preserved c =
    let path = c.args.path.now in
    let declared = c.as_slice-declared.result.now in
    let one = c.index-declared-index.result in
    elim c.if-eq.branch [
      | then-eq w ↦ ap (λ last. option_copied last) w.last-is ∙ last-here path declared c.each.index one c.each-test.true c.index-declared-index.is (sym c.eq.ensures ∙ w.if-eq.true)
      | else-eq w ↦
          ap (λ last. option_copied last) w.last-is
          ∙ c.each.invariant
          ∙ last-past path declared c.each.index one c.each-test.true c.index-declared-index.is (sym c.eq.ensures ∙ w.if-eq.false)
    ]

pub returns : goal.returns
returns c =
    c.each.invariant
    ∙ ap (λ (names : List PlacedName). let places = places_at c.args.path.now names in slice_get places (length places - 1)) (take_all c.each.index c.as_slice-declared.result.now c.each-test.false ∙ c.as_slice-declared.ensures)
