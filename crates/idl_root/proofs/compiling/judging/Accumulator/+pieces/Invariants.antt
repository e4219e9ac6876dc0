use Rattle.std.proofs.Common.{◌≡◌, ◌≤◌, ◌+◌, ◌*◌, length}
use Rattle.idl_root_blocks.specs.idl_check_laws.Closing.{AreTold}
use Rattle.idl_kept.specs.Texts.{AreListsOf, Texts}
use Rattle.idl_memo.specs.declared.meter.Meter.{Meter}
use Rattle.idl_root.specs.Followed.{IsKeeping}
use Rattle.idl_root.specs.Held.{to_come, with_gathered}
use Rattle.idl_root.specs.Passed.{ArePassed, Compares, HasDrafts}
use Rattle.idl_root.specs.declared.kept.keeping.Keeping.{Keeping}
use Rattle.idl_root_blocks.specs.Blocks.{cut}
use Rattle.idl_root_blocks.specs.Units.{text_of}
use Rattle.idl_root.proofs.compiling.judging.Accumulator.+pieces.Given as goal

abbrev pub decreases-add_all : goal.decreases-add_all
decreases-add_all l = 2 * length l.units.now

abbrev pub decreases-add_block : goal.decreases-add_block
decreases-add_block l = 2 * length l.units.now + 1

abbrev pub decreases-add_all-units : goal.decreases-add_all-units
decreases-add_all-units l = length l.left

-- with what the units come to that are left it is what all come to
abbrev pub invariant-add_all-units : goal.invariant-add_all-units
invariant-add_all-units l =
    (length l.left ≤ length l.units)
    × (to_come (with_gathered l.env l.self) l.left ≡ to_come (with_gathered l.fn.env l.fn.self) l.units)
    × AreListsOf l.fn.kept l.kept
    × (l.keeping.earlier ≡ l.fn.keeping.earlier)
    × IsKeeping l.kept.declarations.lists l.keeping l.env
    × AreTold l.env
    × HasDrafts l.kept
    × ((new : Texts) (behind : Keeping) → ArePassed l.env (cut (text_of l.left)) l.kept l.keeping new behind → ArePassed l.fn.env (cut (text_of l.units)) l.fn.kept l.fn.keeping new behind)
    × ((new : Meter) → Compares l.env (cut (text_of l.left)) l.kept l.keeping.meter new → Compares l.fn.env (cut (text_of l.units)) l.fn.kept l.fn.keeping.meter new)
