use Rattle.std.proofs.Common.{◌≡◌, ◌≤◌, ◌-◌, ◌++◌, ℕ, List, Some, length, slice_get, take}
use Rattle.idl_event.specs.Sites.{HaveSites, in_stretch}
use Rattle.idl_event.specs.declared.told.sites.LineEntry.{LineEntry}
use Rattle.idl_event.specs.declared.told.sites.Stretch.{Stretch}
use Rattle.idl_event.proofs.told.sites.push_lines.Given as goal

abbrev pub invariant-tokens : goal.invariant-tokens
invariant-tokens l = record {
  within : l.i ≤ length l.tokens;
  more : (more : List LineEntry) × (l.spots.items ≡ l.initial.spots.items ++ more);
  sites : HaveSites l.initial.spots.items l.spots.items l.start.first l.start.stretch (take l.i l.tokens);
  last : (line : ℕ) → l.last ≡ Some line → (st : List Stretch) (s : Stretch) → slice_get st l.start.stretch ≡ Some s
      → in_stretch st (slice_get l.spots.items (length l.spots.items - 1)) ≡ Some (line, s);
}

abbrev pub decreases-tokens : goal.decreases-tokens
decreases-tokens l = length l.tokens - l.i
