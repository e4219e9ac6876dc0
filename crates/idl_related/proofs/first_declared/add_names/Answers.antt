use Rattle.std.proofs.Common.{◌∙◌, ◌+◌, ◌∷◌, ap, drop, sym}
use Rattle.std.proofs.lemmas.List.{at_drop_all, at_drop_more}
use Rattle.std.specs.List.{fold}
use Rattle.idl_related.specs.FirstDeclared.{with_name}
use Rattle.idl_related.proofs.first_declared.add_names.Goals as goal

pub loop-name-preserved : goal.loop-name-preserved
loop-name-preserved c =
    let i = c.loop-name.name-index in
    let names = c.args.names.now in
    let rest = drop (i + 1) names in
    ap (λ s. fold with_name s rest) c.in_ok-add_name.ensures
    ∙ ap (λ n. fold with_name c.loop-name.first (n ∷ rest)) c.name-item.is
    ∙ sym (at_drop_more (fold with_name c.loop-name.first) names i c.name-item.result c.loop-name-test.true)
    ∙ c.loop-name.invariant

pub returns : goal.returns
returns c =
    sym (at_drop_all (fold with_name c.loop-name.first) c.args.names.now c.loop-name.name-index c.loop-name-test.false)
    ∙ c.loop-name.invariant
