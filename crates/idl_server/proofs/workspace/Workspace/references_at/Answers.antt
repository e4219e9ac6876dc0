use Rattle.std.proofs.Common.{◌∙◌, List, ap, map}
use Rattle.std.proofs.lemmas.List.{take_all}
use Rattle.serde_json.proofs.Views.{view-Array}
use Rattle.serde_json.specs.Data.{Data, array}
use Rattle.serde_json.specs.View.{items_of}
use Rattle.idl_server.specs.References.{told_of}
use Rattle.idl_server.proofs.ReferenceLemmas.{told-next}
use Rattle.idl_server.proofs.workspace.Workspace.references_at.Goals as goal

pub each-preserved : goal.each-preserved
each-preserved c =
    told-next (told_of c.args.self.now) c.as_slice-held.result.now c.each.place-index c.place-item.result c.each-test.true c.place-item.is c.each.list.items c.push.new.self.items c.in_ok-told_of.field-0
    c.in_ok-push.ensures.items c.in_ok-told_of.ensures c.each.invariant

pub returns : goal.returns
returns c =
    view-Array c.each.list
    ∙ ap (λ (jsons : List Data). array (items_of jsons))
    (c.each.invariant ∙ ap (map (told_of c.args.self.now)) (take_all c.each.place-index c.as_slice-held.result.now c.each-test.false ∙ c.as_slice-held.ensures.keys ∙ c.in_ok-places.ensures))
