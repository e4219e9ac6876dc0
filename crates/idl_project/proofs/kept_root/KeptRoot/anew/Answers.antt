-- Nothing is kept of it yet.
use Rattle.std.proofs.Common.{[], subst, sym}
use Rattle.idl_sources.specs.idl_root.AsBefore.{kept_lists}
use Rattle.idl_sources.specs.idl_root.Results.{IsKeptOf, KeptLists, RootMarks}
use Rattle.idl_project.proofs.kept_root.KeptRoot.anew.Goals as goal

pub expanded-requires-clause-kept : goal.expanded-requires-clause-kept
expanded-requires-clause-kept g c =
    let lists : KeptLists = kept_lists c.args.keeper.now c.args.root.0 in
    let none : IsKeptOf [] c.none.result lists = subst (λ (ls : KeptLists). IsKeptOf [] c.none.result ls) (sym c.requires.none) c.none.ensures in
    ([], subst (λ (ms : RootMarks). IsKeptOf [] ms lists) (sym c.in_ok-none.ensures.ok) none, tt)
