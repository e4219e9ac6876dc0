use Rattle.std.proofs.Common.{length}
use Rattle.idl_text.proofs.GatherLemmas.{IsGathered}
use Rattle.idl_text.proofs.texts.gathering.gather_text.Given as goal

abbrev pub invariant-parts : goal.invariant-parts
invariant-parts l = IsGathered l.fn.tokens l.left l.count l.words.items

abbrev pub decreases-parts : goal.decreases-parts
decreases-parts l = length l.left
