-- Of a root that expands to nothing there are no units, and no results.
use Rattle.std.proofs.Common.{◌≡◌, [], refl}
use Rattle.idl_root.specs.Compared.{root_keys}
use Rattle.idl_root.specs.Judged.{judged_after}
use Rattle.idl_root.specs.Places.{begins_of, blocks_of, declarations_of, entries_of}
use Rattle.idl_root.specs.Results.{IsKeptOf, RootMarks, nothing_kept}
use Rattle.idl_root_blocks.specs.Blocks.{cut}
use Rattle.idl_root_blocks.specs.Places.{blocks_over, declarations_over}
use Rattle.idl_unit.specs.Cut.{parts_after}
use Rattle.idl_unit.specs.Units.{units_of}
use Rattle.idl_root.proofs.kept.marks.Marks.none.Goals as goal

nothing-kept : (marks : RootMarks) → marks ≡ record { marks = []; keys = 0 } → IsKeptOf [] marks nothing_kept
unfolding declarations_of declarations_over entries_of judged_after parts_after units_of blocks_of blocks_over begins_of root_keys cut
nothing-kept marks none = record {
  marks_are = none;
  declarations_are = refl;
  blocks_are = refl;
  begins_are = refl;
  entries_are = refl;
}

pub returns : goal.returns
returns c = nothing-kept _ (λ i. record { marks = c.new.ensures.items i; keys = 0 })
