use Rattle.std.specs.Cmp.Lexicographic.{pointwise, slice_cmp, bytes_decides, nat_list_cmp_total, texts_ties}
use Rattle.std.specs.Ordering.{nat_cmp}
use Rattle.std.proofs.Common.{rules, nat_eq}
use Rattle.idl_base.proofs.Exactness.{cmp_exact}
use Rattle.idl_base.proofs.bytes.BytesOrd.cmp.Goals as goal

pub returns-clause-exact : goal.returns-clause-exact
returns-clause-exact c =
    cmp_exact (pointwise nat_eq) (slice_cmp nat_cmp) nat_list_cmp_total texts_ties (λ x y. (bytes_decides x y).0) c.args.self.now c.args.other.now c.cmp.result (search rules)
