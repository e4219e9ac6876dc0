use Rattle.std.proofs.Common.{◌∙◌}
use Rattle.idl_tool.proofs.ThereLemmas.{one-had}
use Rattle.idl_tool.proofs.there.had.Goals as goal

pub files-preserved : goal.files-preserved
files-preserved g c =
    let at = c.files in
    let there = c.in_ok-there.ensures in
    record {
      had = one-had _ _ c.args.files.now at.file-index _ at.had.items c.push_mark.new.marks.items c.in_ok-there.there c.files-test.true c.in_ok-push_mark.ensures at.invariant.still at.invariant.had there.had;
      still = there.still ∙ at.invariant.still;
    }
