use Rattle.std.proofs.Common.{◌≡◌, ◌++◌, All, List, drop, length, reverse}
use Rattle.idl_event.specs.declared.told.event.Event.{Event}
use Rattle.idl_related.specs.FirstDeclared.{assigned}
use Rattle.idl_related.specs.Judged.{AreOfFindings}
use Rattle.idl_related.specs.Related.{AreOfFinding}
use Rattle.idl_related.proofs.told.matched.Given as goal

-- one list for each finding before
abbrev pub invariant-findings : goal.invariant-findings
invariant-findings l = record {
  count : length l.all.items ≡ l.finding-index;
  left : (events : List Event) → AreOfFindings events l.initial.told.items → AreOfFindings events l.told.items;
  lists : (events : List Event) → AreOfFindings events l.initial.told.items → All (AreOfFinding events) l.all.items;
  assigned :
      l.all.items ++ assigned (drop l.finding-index l.findings) (reverse l.told.items)
      ≡ assigned l.findings (reverse l.initial.told.items);
}
