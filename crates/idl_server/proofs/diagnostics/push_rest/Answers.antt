use Rattle.std.proofs.Common.{◌∙◌, ◌-◌, ◌++◌, ◌∷◌, [], List, ap, append-nil, arith, length, map, sym}
use Rattle.std.proofs.lemmas.List.{map-append}
use Rattle.serde_json.specs.Data.{Data}
use Rattle.serde_json.specs.View.{view}
use Rattle.idl_editor.specs.declared.change.Range.{Range}
use Rattle.idl_editor.specs.told.Diagnostics.{more_json}
use Rattle.idl_server.proofs.DiagnosticLemmas.{rest-none, rest-some}
use Rattle.idl_server.proofs.diagnostics.push_rest.Goals as goal

pub returns-then-found-le-MOST_TOLD : goal.returns-then-found-le-MOST_TOLD
returns-then-found-le-MOST_TOLD c =
    let list = map view c.args.list.now.items in
    sym (append-nil list) ∙ ap (λ (rest : List Data). list ++ rest) (sym (rest-none c.args.encoding c.args.session.now.project c.args.found.now c.if-found-le-MOST_TOLD.true))

pub overflow_sub-left : goal.overflow_sub-left
overflow_sub-left c = omega (arith, c.if-found-le-MOST_TOLD.false)

pub bounds-found-at : goal.bounds-found-at
bounds-found-at c = omega (arith, c.if-found-le-MOST_TOLD.false)

pub returns : goal.returns
returns c =
    let list = map view c.args.list.now.items in
    let left = length c.args.found.now - 1000 in
    let told = c.in_ok-more.ensures ∙ ap (λ (range : Range). more_json range left) c.line_of-range.ensures in
    ap (map view) c.in_ok-push.ensures.items ∙ map-append view c.args.list.now.items (c.in_ok-more.more ∷ [])
    ∙ ap (λ (json : Data). list ++ json ∷ []) told
    ∙ ap (λ (rest : List Data). list ++ rest) (sym (rest-some c.args.encoding c.args.session.now.project c.args.found.now _ (omega (arith, c.if-found-le-MOST_TOLD.false)) c.index-found-at.is))
