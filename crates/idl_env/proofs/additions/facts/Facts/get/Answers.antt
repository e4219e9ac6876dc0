use Rattle.std.proofs.Common.{sym, ap, ◌∙◌}
use Rattle.idl_map.specs.Marks.{is_marked}
use Rattle.idl_env.specs.Facts.{UnitFacts, addition_at}
use Rattle.idl_env.proofs.additions.facts.Facts.get.Goals as goal

pub returns-then-not-has : goal.returns-then-not-has
returns-then-not-has c =
    let k = c.args.key.now in
    let unmarked = ap (is_marked c.self.inside.marks) (sym c.digest.ensures) ∙ sym c.has.ensures ∙ c.if-not-has.true in
    sym (c.self.invariant.1.1 k unmarked) ∙ ap (λ (f : UnitFacts). addition_at f.additions k) c.self.view_is
