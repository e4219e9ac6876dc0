use Rattle.std.proofs.Common.{◌≡◌, ◌∙◌, ap, sym, rules}
use Rattle.std.specs.Cmp.{tied_itself}
use Rattle.std.specs.Cmp.Lexicographic.{slice_cmp, nat_list_cmp_total}
use Rattle.std.specs.FinMap.{slice_cmp-IsAntisymmetric, nat_cmp-IsAntisymmetric}
use Rattle.std.specs.Ordering.{nat_cmp}
use Rattle.idl_source.proofs.names.name.NameOrd.cmp.Goals as goal

-- the order ties only equal names
pub returns-clause-exact : goal.returns-clause-exact
returns-clause-exact c =
    let name = c.args.self.now in
    let value : c.cmp.result ≡ slice_cmp nat_cmp name c.args.other.now = search rules in
    (λ h. slice_cmp-IsAntisymmetric nat_cmp-IsAntisymmetric _ _ (sym value ∙ h), λ e. value ∙ ap (slice_cmp nat_cmp name) (sym e) ∙ tied_itself nat_list_cmp_total name)
