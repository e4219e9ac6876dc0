use Rattle.std.proofs.Common.{◌≡◌, ◌≤◌, ◌++◌, drop, flat_map, length}
use Rattle.idl_related.specs.FirstDeclared.{related_at}
use Rattle.idl_related.specs.Related.{AreAtTokens}
use Rattle.idl_related.proofs.judged.JudgedUnits.related.Given as goal

-- those of the places before, at most one for each
abbrev pub invariant-seconds : goal.invariant-seconds
invariant-seconds l = record {
  tokens : AreAtTokens l.self.expansion.now l.related.items;
  count : length l.related.items ≤ l.second-index;
  places :
      l.related.items ++ flat_map (related_at l.self.expansion.now) (drop l.second-index l.seconds)
      ≡ flat_map (related_at l.self.expansion.now) l.seconds;
}
