use Rattle.std.proofs.Common.{[], List, take}
use Rattle.idl_tool.specs.Checked.{AreReported, AreToldOf, Told, all_of}
use Rattle.idl_tool.proofs.check.reports_of.Given as goal

-- those of the roots before
abbrev pub invariant-roots : goal.invariant-roots
invariant-roots l =
    (told : List (List Told)) × AreToldOf l.sources (take l.index l.roots) told × AreReported l.sources.files (all_of told) [] l.reports.entries
