use Rattle.std.proofs.Common.{◌∙◌}
use Rattle.idl_related.specs.FirstDeclared.{declared_at}
use Rattle.idl_related.proofs.FirstDeclaredLemmas.{items-behind}
use Rattle.idl_related.proofs.first_declared.declared_in.Goals as goal

pub loop-site-preserved : goal.loop-site-preserved
loop-site-preserved c =
    items-behind (declared_at c.args.number) c.args.sites.now c.loop-site.site-index c.site-item.result c.loop-site.names.items c.push_declared.new.names.items
    c.loop-site-test.true c.site-item.is c.in_ok-push_declared.ensures
    ∙ c.loop-site.invariant
