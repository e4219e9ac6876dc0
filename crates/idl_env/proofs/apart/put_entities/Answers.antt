use Rattle.std.proofs.Common.{sym, ap, ◌∙◌, ◌++◌, ◌+◌, ◌∷◌, [], drop, map, append_assoc, arith}
use Rattle.idl_env.specs.Facts.{entity_key}
use Rattle.idl_env.specs.keys.Key.{key_digest}
use Rattle.idl_env.proofs.ApartLemmas.{entity_digest-is}
use Rattle.idl_env.proofs.AnswerLaws.PlaceLemmas.{from_here}
use Rattle.std.proofs.lemmas.Grind.{common_steps}
use Rattle.idl_env.proofs.apart.put_entities.Goals as goal

pub loop-path-preserved : goal.loop-path-preserved
loop-path-preserved c =
    let paths = c.args.paths.now in
    let at = c.loop-path.path-index in
    let old = c.loop-path.digests.items in
    let one = c.path-item.result in
    let rest = map key_digest (map entity_key (drop (at + 1) paths)) in
    let here = from_here paths at one c.loop-path-test.true c.path-item.is in
    (λ i. c.in_ok-push.ensures.items i ++ rest)
    ∙ append_assoc old (c.entity_digest.result ∷ []) rest
    ∙ ap (λ d. old ++ d ∷ rest) (c.entity_digest.ensures ∙ entity_digest-is one)
    ∙ ap (λ l. old ++ map key_digest (map entity_key l)) (sym here)
    ∙ c.loop-path.invariant

pub returns : goal.returns
returns c = grind (arith, common_steps)

pub loop-path-init : goal.loop-path-init
loop-path-init c = grind (arith, common_steps)
