use Rattle.std.proofs.Common.{ℕ, List, Some, refl, sym, ap, ◌∙◌}
use Rattle.std.specs.Cmp.Lexicographic.{lists_agrees, slice_cmp}
use Rattle.std.specs.Ordering.{nat_cmp}
use Rattle.idl_entity.proofs.paths.path.PathPartialOrd.partial_cmp.Goals as goal

pub returns : goal.returns
returns c = ap Some c.cmp.ensures ∙ sym (lists_agrees {K = List ℕ} {R = slice_cmp nat_cmp} (λ x y. refl) c.args.self.now c.args.other.now)
