use Rattle.std.proofs.Common.{◌≡◌, ◌∙◌, ◌+◌, ◌∷◌, sym, ap, arith, drop}
use Rattle.std.proofs.lemmas.List.{drop_more}
use Rattle.idl_unit.specs.TokenRules.{codes_beside, first}
use Rattle.idl_unit.proofs.TokenLemmas.{walked-fault, walked-on}
use Rattle.idl_unit.proofs.token_rules.first_fault.Goals as goal

pub returns-in-Some-clause-least : goal.returns-in-Some-clause-least
returns-in-Some-clause-least c =
    let unit = c.args.unit.now in
    let i = c.loop-index.index in
    let t = c.index-unit-index.result in
    let b = c.loop-index.before in
    let next : drop i unit ≡ t ∷ drop (i + 1) unit = drop_more unit i t (omega arith) ∙ ap (λ x. x ∷ drop (i + 1) unit) (sym c.index-unit-index.is) in
    sym (walked-fault unit i b c.loop-index.invariant t c.kind-kind.result c.with-through.result c.in-Some.code next c.kind-kind.ensures
    c.with-through.ensures.opened c.with-through.ensures.closed
    (sym c.in-Some.is ∙ c.token_code.ensures ∙ ap (λ d. first (codes_beside c.kind-kind.result b.last b.second d)) c.is_too_deep.ensures))

pub loop-index-preserved : goal.loop-index-preserved
loop-index-preserved c =
    let unit = c.args.unit.now in
    let i = c.loop-index.index in
    let t = c.index-unit-index.result in
    let b = c.loop-index.before in
    let next : drop i unit ≡ t ∷ drop (i + 1) unit = drop_more unit i t (omega arith) ∙ ap (λ x. x ∷ drop (i + 1) unit) (sym c.index-unit-index.is) in
    walked-on unit i b c.loop-index.invariant t c.kind-kind.result c.with-through.result next c.kind-kind.ensures
    c.with-through.ensures.last c.with-through.ensures.second c.with-through.ensures.opened c.with-through.ensures.closed
    (sym c.in_default.is ∙ c.token_code.ensures ∙ ap (λ d. first (codes_beside c.kind-kind.result b.last b.second d)) c.is_too_deep.ensures)
