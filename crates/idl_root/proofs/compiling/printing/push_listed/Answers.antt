use Rattle.std.proofs.Common.{◌∙◌, arith, map, sym}
use Rattle.std.proofs.lemmas.Grind.{elements}
use Rattle.idl_root.specs.Held.{listed_at}
use Rattle.idl_root.proofs.PrintLemmas.{listed-here}
use Rattle.idl_root.proofs.compiling.printing.push_listed.Goals as goal

pub loop-index-preserved : goal.loop-index-preserved
loop-index-preserved c =
    listed-here c.args.unit.text.now c.args.unit.sites.now (map listed_at c.loop-index.listed.items) (map listed_at c.push_name.new.listed.items)
    c.args.writes.now.additions c.loop-index.index c.in-Some.addition.now (sym c.in-Some.ensures) c.in_ok-push_name.ensures
    ∙ c.loop-index.invariant

pub loop-index-preserved-in_default : goal.loop-index-preserved-in_default
loop-index-preserved-in_default c = grind (arith, elements)
