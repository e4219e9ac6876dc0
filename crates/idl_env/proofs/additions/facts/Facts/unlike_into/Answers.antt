use Rattle.std.proofs.Common.{sym, ap, ◌∙◌, ◌++◌, ◌+◌, ◌∷◌, [], drop, map, append_assoc, arith}
use Rattle.std.specs.Prelude.{filter, not}
use Rattle.std.proofs.lemmas.List.{map-append}
use Rattle.std.proofs.lemmas.List.Elements.{filter-append}
use Rattle.idl_env.specs.Differing.{has_alike, unlike}
use Rattle.idl_env.specs.Facts.{key_of}
use Rattle.idl_env.specs.keys.Key.{key_digest}
use Rattle.idl_env.specs.declared.additions.addition.Addition.{Addition}
use Rattle.idl_env.proofs.AnswerLaws.PlaceLemmas.{drop-at1, drop-past1}
use Rattle.std.proofs.lemmas.Grind.{common_steps}
use Rattle.idl_env.proofs.additions.facts.Facts.unlike_into.Goals as goal

pub loop-index-preserved : goal.loop-index-preserved
loop-index-preserved c =
    let additions = c.args.self.now.additions in
    let others = c.args.others.now.additions in
    let at = c.loop-index.index in
    let old = c.loop-index.digests.items in
    let one = c.in-Some.addition.now in
    let rest = drop (at + 1) additions in
    let differs = λ (a : Addition). not (has_alike others a) in
    (λ i. c.in_ok-put_unless_alike.ensures i ++ map key_digest (unlike rest others))
    ∙ append_assoc old (map key_digest (unlike (one ∷ []) others)) (map key_digest (unlike rest others))
    ∙ ap (λ l. old ++ l) (sym (map-append key_digest (unlike (one ∷ []) others) (unlike rest others)))
    ∙ ap (λ l. old ++ map key_digest l) (sym (map-append key_of (filter differs (one ∷ [])) (filter differs rest)))
    ∙ ap (λ l. old ++ map key_digest (map key_of l)) (sym (filter-append differs (one ∷ []) rest))
    ∙ ap (λ l. old ++ map key_digest (unlike l others)) (sym (drop-at1 additions at one (sym c.in-Some.ensures)))
    ∙ c.loop-index.invariant

pub returns : goal.returns
returns c = grind (arith, common_steps)

pub loop-index-init : goal.loop-index-init
loop-index-init c = grind (arith, common_steps)

pub loop-index-preserved-in_default : goal.loop-index-preserved-in_default
loop-index-preserved-in_default c =
    ap (λ l. c.loop-index.digests.items ++ map key_digest (unlike l c.args.others.now.additions)) (sym (drop-past1 c.args.self.now.additions c.loop-index.index (sym c.in_default.ensures)))
    ∙ c.loop-index.invariant
