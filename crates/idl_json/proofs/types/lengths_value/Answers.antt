use Rattle.std.proofs.Common.{◌∙◌, ap, map, reverse, sym}
use Rattle.std.proofs.lemmas.List.{take_all}
use Rattle.serde_json.proofs.Views.{view-Array}
use Rattle.serde_json.specs.Data.{array}
use Rattle.serde_json.specs.View.{items_of, view}
use Rattle.idl_json.specs.Objects.{number_json}
use Rattle.idl_json.proofs.ListLemmas.{map-reverse}
use Rattle.idl_json.proofs.types.lengths_value.Goals as goal

pub returns : goal.returns
returns c =
    let lengths = c.args.lengths.now in
    view-Array c.reverse.new.self
    ∙ ap (λ ds. array (items_of ds)) (
    ap (map view) c.reverse.ensures.items ∙ map-reverse view c.lengths.values.items
    ∙ ap reverse (c.lengths.invariant ∙ ap (map number_json) (take_all c.lengths.length-index lengths c.lengths-test.false))
    ∙ sym (map-reverse number_json lengths))
