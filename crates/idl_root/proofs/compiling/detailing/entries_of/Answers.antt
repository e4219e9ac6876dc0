use Rattle.std.proofs.Common.{◌∙◌}
use Rattle.idl_root.specs.Details.{listed_entries}
use Rattle.idl_root.proofs.PrintLemmas.{printed-more}
use Rattle.idl_root.proofs.compiling.detailing.entries_of.Goals as goal

pub loop-name-preserved : goal.loop-name-preserved
loop-name-preserved c =
    printed-more (listed_entries c.args.env.now c.args.names.now.declared.items) c.loop-name.entries.items c.push_entry.new.entries.items c.args.listed.now c.loop-name.name-index c.name-item.result c.loop-name-test.true c.name-item.is c.in_ok-push_entry.ensures
    ∙ c.loop-name.invariant
