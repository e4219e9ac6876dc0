use Rattle.std.proofs.Common.{◌≡◌, length}
use Rattle.idl_root_blocks.specs.Met.{block_text_eq}
use Rattle.idl_root_blocks.proofs.block_text.are_like.Given as goal

-- what is left of the two is alike where they are
abbrev pub invariant-parts : goal.invariant-parts
invariant-parts l = block_text_eq l.mine l.theirs ≡ block_text_eq l.these l.those

abbrev pub decreases-parts : goal.decreases-parts
decreases-parts l = length l.mine
