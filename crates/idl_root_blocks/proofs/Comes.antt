-- A block's text closes and leaves nothing that was there before it.
use Rattle.std.proofs.Common.{◌≡◌, ℕ, zero, suc, Option, None, Some, List, [], ◌∷◌, refl}
use Rattle.idl_block.specs.Blocks.{Text as UnitPart}
use Rattle.idl_root_blocks.specs.verdicts.Standing.{AreInside, IsBlockFront, part_step}
use Rattle.idl_block.specs.facts.Beneath.{Depth, deepened}
use Rattle.idl_root_blocks.proofs.Cuts.{at, no-none}
use Rattle.idl_root_blocks.specs.Blocks.{IsOfBlock, depth_behind, parts_of}
use Rattle.idl_root_blocks.specs.declared.text.BlockPart.{BlockPart}
use Rattle.idl_root_blocks.specs.declared.text.BlockPart.TheVariants.{Text, Enters, Leaves}

inside : (text : List BlockPart) (scopes files : ℕ) (end : Depth) → depth_behind (at scopes files) text ≡ Some end → AreInside (at scopes files) (parts_of text)
inside [] scopes files end h = tt
inside (Leaves within ∷ text) scopes zero end h = absurd (no-none end h)
inside (Leaves within ∷ text) scopes (suc n) end h = (tt, inside text scopes n end h)
inside (Enters within ∷ text) scopes files end h = (tt, inside text scopes (suc files) end h)
inside (Text unit ∷ text) scopes files end h =
    (tt, by (deepened (at scopes files) (part_step (UnitPart unit))) refl (λ next. inside text next.scopes next.files end))
  where
    by : (o : Option Depth) → deepened (at scopes files) (part_step (UnitPart unit)) ≡ o
        → ((next : Depth) → depth_behind next text ≡ Some end → AreInside next (parts_of text))
        → (elim (deepened (at scopes files) (part_step (UnitPart unit))) as (λ _. Type 0) [ None ↦ ⊥ | Some next ↦ AreInside next (parts_of text) ])
    by None is later = absurd (no-none end (rw is at h))
    by (Some next) is later = rw is (later next (rw is at h))

pub of-block : (text : List BlockPart) → IsOfBlock text → IsBlockFront (parts_of text)
of-block text b = inside text 0 0 (at b.scopes 0) b.behind
