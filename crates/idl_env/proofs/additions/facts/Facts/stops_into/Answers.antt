use Rattle.std.proofs.Common.{sym, ap, ◌∙◌, ◌++◌, ◌+◌, drop, map, append_assoc, arith}
use Rattle.std.proofs.lemmas.List.{map-append}
use Rattle.std.specs.Prelude.{flat_map}
use Rattle.idl_env.specs.Facts.{stops_of}
use Rattle.idl_env.specs.keys.Key.{key_digest}
use Rattle.idl_env.proofs.AnswerLaws.PlaceLemmas.{drop-at1, drop-past1}
use Rattle.std.proofs.lemmas.Grind.{common_steps}
use Rattle.idl_env.proofs.additions.facts.Facts.stops_into.Goals as goal

pub loop-index-preserved : goal.loop-index-preserved
loop-index-preserved c =
    let additions = c.args.self.now.additions in
    let at = c.loop-index.index in
    let old = c.loop-index.digests.items in
    let one = c.in-Some.addition.now in
    let rest = flat_map stops_of (drop (at + 1) additions) in
    (λ i. c.in_ok-stops_into.ensures i ++ map key_digest rest)
    ∙ append_assoc old (map key_digest (stops_of one)) (map key_digest rest)
    ∙ ap (λ l. old ++ l) (sym (map-append key_digest (stops_of one) rest))
    ∙ ap (λ l. old ++ map key_digest (flat_map stops_of l)) (sym (drop-at1 additions at one (sym c.in-Some.ensures)))
    ∙ c.loop-index.invariant

pub returns : goal.returns
returns c = grind (arith, common_steps)

pub loop-index-init : goal.loop-index-init
loop-index-init c = grind (arith, common_steps)

pub loop-index-preserved-in_default : goal.loop-index-preserved-in_default
loop-index-preserved-in_default c =
    ap (λ l. c.loop-index.digests.items ++ map key_digest (flat_map stops_of l)) (sym (drop-past1 c.args.self.now.additions c.loop-index.index (sym c.in_default.ensures)))
    ∙ c.loop-index.invariant
