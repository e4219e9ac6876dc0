use Rattle.std.proofs.Common.{sym, ap, ◌∙◌, ◌++◌, ◌+◌, ◌∷◌, [], drop, map, append_assoc, arith}
use Rattle.idl_env.specs.Facts.{key_of}
use Rattle.idl_env.specs.keys.Key.{key_digest}
use Rattle.idl_env.specs.declared.additions.addition.Addition.{Addition}
use Rattle.idl_env.proofs.AnswerLaws.PlaceLemmas.{drop-at1, drop-past1}
use Rattle.std.proofs.lemmas.Grind.{common_steps}
use Rattle.idl_env.proofs.additions.facts.Facts.digests_into.Goals as goal

pub loop-index-preserved : goal.loop-index-preserved
loop-index-preserved c =
    let additions = c.args.self.now.additions in
    let at = c.loop-index.index in
    let old = c.loop-index.digests.items in
    let one = c.in-Some.addition.now in
    let digest = λ (a : Addition). key_digest (key_of a) in
    let rest = map digest (drop (at + 1) additions) in
    let here = drop-at1 additions at one (sym c.in-Some.ensures) in
    (λ i. c.in_ok-push.ensures.items i ++ rest)
    ∙ append_assoc old (c.digest.result ∷ []) rest
    ∙ ap (λ d. old ++ d ∷ rest) c.digest.ensures
    ∙ ap (λ l. old ++ map digest l) (sym here)
    ∙ c.loop-index.invariant

pub returns : goal.returns
returns c = grind (arith, common_steps)

pub loop-index-init : goal.loop-index-init
loop-index-init c = grind (arith, common_steps)

pub loop-index-preserved-in_default : goal.loop-index-preserved-in_default
loop-index-preserved-in_default c =
    ap (λ l. c.loop-index.digests.items ++ map (λ (a : Addition). key_digest (key_of a)) l) (sym (drop-past1 c.args.self.now.additions c.loop-index.index (sym c.in_default.ensures)))
    ∙ c.loop-index.invariant
