use Rattle.std.proofs.Common.{sym, ap, ◌∙◌, ◌++◌, ◌+◌, [], ◌≡◌, drop, refl, arith}
use Rattle.std.specs.Prelude.{flat_map}
use Rattle.idl_env.specs.Facts.{stops_of}
use Rattle.idl_env.proofs.AnswerLaws.PlaceLemmas.{drop-at1}
use Rattle.std.proofs.lemmas.Grind.{common_steps}
use Rattle.idl_env.proofs.additions.facts.Facts.may_be_stopped.Goals as goal

pub loop-index-preserved : goal.loop-index-preserved
loop-index-preserved c =
    let additions = c.args.self.now.additions in
    let at = c.loop-index.index in
    let one = c.in-Some.addition.now in
    let rest = flat_map stops_of (drop (at + 1) additions) in
    let none : stops_of one ≡ [] = c.in_default-further.ensures.none refl in
    sym (ap (λ l. l ++ rest) none)
    ∙ sym (ap (flat_map stops_of) (drop-at1 additions at one (sym c.in-Some.ensures)))
    ∙ c.loop-index.invariant

pub returns : goal.returns
returns c = grind (arith, common_steps)

pub loop-index-init : goal.loop-index-init
loop-index-init c = grind (arith, common_steps)
