use Rattle.std.proofs.Common.{◌∙◌, ◌++◌, ◌∷◌, [], ap, false, map, sym, take}
use Rattle.std.proofs.lemmas.List.{length-map, length-take-le, take_all}
use Rattle.serde_json.specs.View.{items_of, view}
use Rattle.serde_json.specs.Written.{has_float, items_text}
use Rattle.idl_json.specs.Listed.{row_json, row_of}
use Rattle.idl_json.proofs.ListedLemmas.{listed-plain}
use Rattle.idl_json.proofs.LineLemmas.{opened, rows-next, text-closed, text-next}
use Rattle.idl_json.proofs.root.push_rows.Goals as goal

pub push_value-requires : goal.push_value-requires
push_value-requires c = ap has_float c.in_ok-row_value.ensures ∙ listed-plain (row_of c.index-listing-index.result)

pub rows-preserved : goal.rows-preserved
rows-preserved c =
    let rows = c.args.listing.now in
    let i = c.rows.index in
    let row = c.index-listing-index.result in
    let before = map row_json (map row_of (take i rows)) in
    let count = sym (length-take-le i rows c.rows.auto.index-end) ∙ sym (length-map (take i rows) row_of) ∙ sym (length-map (map row_of (take i rows)) row_json) in
    let next = text-next c.args.out.now.items c.rows.out.items c.push_comma.new.out.items c.push_value.new.out.items i before (view c.in_ok-row_value.field-0) count c.rows.invariant c.in_ok-push_comma.ensures c.in_ok-push_value.ensures in
    next ∙ ap (λ ds. c.args.out.now.items ++ opened false ds) (ap (λ d. before ++ d ∷ []) c.in_ok-row_value.ensures ∙ sym (rows-next rows i row c.rows-test.true c.index-listing-index.is))

pub returns : goal.returns
returns c =
    let rows = c.args.listing.now in
    let before = map row_json (map row_of (take c.rows.index rows)) in
    text-closed c.args.out.now.items c.rows.out.items c.push.new.self.items before c.rows.invariant c.in_ok-push.ensures.items
    ∙ ap (λ rs. c.args.out.now.items ++ items_text false (items_of (map row_json (map row_of rs)))) (take_all c.rows.index rows c.rows-test.false)
