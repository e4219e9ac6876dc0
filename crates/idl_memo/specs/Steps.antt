-- The steps of runs, as they are held and as they are lent.
use Rattle.std.specs.Prelude.{List, reverse}
use Rattle.idl_memo.specs.declared.steps.Held.{Held}
use Rattle.idl_memo.specs.declared.steps.Held.TheVariants.{Block, Listed}
use Rattle.idl_memo.specs.declared.steps.Rest.{Rest}
use Rattle.idl_memo.specs.declared.steps.Rest.TheVariants as rests

-- steps that are held
abbrev pub steps_in : {S : Type 0} → Held S → List S
steps_in (Block block) = block.value.items
steps_in (Listed list) = reverse list

-- steps that are lent
abbrev pub steps_behind : {S : Type 0} → Rest S → List S
steps_behind (rests.Block block) = block.now
steps_behind (rests.Links links) = links
