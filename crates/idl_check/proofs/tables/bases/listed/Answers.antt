use Rattle.std.proofs.Common.{sym, ap, ◌∙◌, ◌++◌, ◌+◌, ◌∷◌, [], drop, append_assoc}
use Rattle.std.specs.Map.{keys_of}
use Rattle.idl_env.proofs.AnswerLaws.PlaceLemmas.{drop-at1}
use Rattle.idl_check.proofs.tables.bases.listed.Goals as goal

pub loop-index-preserved : goal.loop-index-preserved
loop-index-preserved c =
    let found = c.args.table.now in
    let at = c.loop-index.index in
    let old = c.loop-index.paths.items in
    let rest = keys_of (drop (at + 1) found) in
    let here = drop-at1 found at _ (sym c.in-Some.ensures) in
    (λ i. c.in_ok-push.ensures.items i ++ rest)
    ∙ (λ i. (old ++ c.in_ok-clone.ensures.cases i ∷ []) ++ rest)
    ∙ append_assoc old (c.in-Some.path.now ∷ []) rest
    ∙ ap (λ l. old ++ keys_of l) (sym here)
    ∙ c.loop-index.invariant
