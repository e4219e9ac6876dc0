use Rattle.std.proofs.Common.{◌≡◌, ◌∙◌, List, ap, map, sym}
use Rattle.std.proofs.lemmas.Bool.{not-false, not-true}
use Rattle.std.proofs.lemmas.List.{take_all}
use Rattle.std.specs.List.{filter}
use Rattle.std.specs.Str.{bytes_eq}
use Rattle.serde_json.proofs.Views.{view-Array}
use Rattle.serde_json.specs.Data.{Data, array}
use Rattle.serde_json.specs.View.{items_of}
use Rattle.idl_server.specs.References.{highlight_of}
use Rattle.idl_server.specs.declared.references.FileRange.{FileRange}
use Rattle.idl_server.proofs.ReferenceLemmas.{told-here, told-past}
use Rattle.idl_server.proofs.workspace.Workspace.highlights_at.Goals as goal

pub each-preserved-then-ne : goal.each-preserved-then-ne
each-preserved-then-ne c =
    let same : bytes_eq c.as_bytes.result.now c.as_bytes-in-each.result.now ≡ bytes_eq c.place-item.result.file c.args.name.now = λ i. bytes_eq (c.as_bytes.ensures.bytes i) (c.as_bytes-in-each.ensures.bytes i) in
    told-past highlight_of c.as_slice-held.result.now c.each.place-index c.place-item.result c.each-test.true c.place-item.is c.each.list.items (λ (place : FileRange). bytes_eq place.file c.args.name.now) c.each.invariant
    (sym same ∙ not-true (bytes_eq c.as_bytes.result.now c.as_bytes-in-each.result.now) (sym c.ne.ensures ∙ c.if-ne.true))

pub each-preserved : goal.each-preserved
each-preserved c =
    let same : bytes_eq c.as_bytes.result.now c.as_bytes-in-each.result.now ≡ bytes_eq c.place-item.result.file c.args.name.now = λ i. bytes_eq (c.as_bytes.ensures.bytes i) (c.as_bytes-in-each.ensures.bytes i) in
    told-here highlight_of c.as_slice-held.result.now c.each.place-index c.place-item.result c.each-test.true c.place-item.is c.each.list.items (λ (place : FileRange). bytes_eq place.file c.args.name.now) c.each.invariant
    c.push.new.self.items c.in_ok-highlight_value.field-0 c.in_ok-push.ensures.items c.in_ok-highlight_value.ensures
    (sym same ∙ not-false (bytes_eq c.as_bytes.result.now c.as_bytes-in-each.result.now) (sym c.ne.ensures ∙ c.if-ne.false))

pub returns : goal.returns
returns c =
    let here = filter (λ (place : FileRange). bytes_eq place.file c.args.name.now) in
    view-Array c.each.list
    ∙ ap (λ (jsons : List Data). array (items_of jsons))
    (c.each.invariant ∙ ap (λ (places : List FileRange). map highlight_of (here places)) (take_all c.each.place-index c.as_slice-held.result.now c.each-test.false ∙ c.as_slice-held.ensures.keys ∙ c.in_ok-places.ensures))
