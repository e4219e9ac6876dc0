use Rattle.std.proofs.Common.{◌≡◌, ◌++◌, drop, flat_map}
use Rattle.idl_related.specs.FirstDeclared.{declared_at}
use Rattle.idl_related.proofs.first_declared.declared_in.Given as goal

-- those so far, and those of the names from here on
abbrev pub invariant-loop-site : goal.invariant-loop-site
invariant-loop-site l =
    l.names.items ++ flat_map (declared_at l.number) (drop l.site-index l.sites) ≡ flat_map (declared_at l.number) l.sites
