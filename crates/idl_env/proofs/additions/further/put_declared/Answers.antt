use Rattle.std.proofs.Common.{sym, ap, ◌≡◌, ◌∙◌, ◌++◌, ◌+◌, ◌∷◌, [], drop, map, append_assoc}
use Rattle.idl_entity.specs.Digest.{under}
use Rattle.idl_env.specs.keys.Key.{key_digest}
use Rattle.idl_env.specs.declared.keys.key.Key.TheVariants.{Declared}
use Rattle.idl_env.proofs.ApartLemmas.{declared_digest-is}
use Rattle.idl_env.proofs.AnswerLaws.PlaceLemmas.{from_here}
use Rattle.idl_env.proofs.additions.further.put_declared.Goals as goal

pub loop-path-preserved : goal.loop-path-preserved
loop-path-preserved c =
    let paths = c.args.paths.now in
    let name = c.args.name.now in
    let at = c.loop-path.path-index in
    let old = c.loop-path.digests.items in
    let one = c.path-item.result in
    let rest = map key_digest (map (λ p. Declared name p) (drop (at + 1) paths)) in
    let here = from_here paths at one c.loop-path-test.true c.path-item.is in
    let digest : c.under.result ≡ key_digest (Declared name one) = c.under.ensures ∙ (λ i. under (c.digest.ensures i) ((c.as_bytes.ensures ∙ c.spelling.ensures) i)) ∙ declared_digest-is name one in
    (λ i. c.in_ok-push.ensures.items i ++ rest)
    ∙ append_assoc old (c.under.result ∷ []) rest
    ∙ ap (λ d. old ++ d ∷ rest) digest
    ∙ ap (λ l. old ++ map key_digest (map (λ p. Declared name p) l)) (sym here)
    ∙ c.loop-path.invariant
