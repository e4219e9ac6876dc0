use Rattle.idl_block.specs.Behind.{laid}
use Rattle.idl_root_blocks.specs.verdicts.Standing.{block_end, unit_asks, unit_writes}
use Rattle.idl_env.specs.Facts.{UnitFacts, answers, boundary}
use Rattle.idl_env.specs.declared.additions.addition.Step.TheVariants.{Enters}
use Rattle.idl_env.specs.declared.answering.answer.Answer.{Answer}
use Rattle.idl_env.specs.declared.keys.key.Key.{Key}
use Rattle.idl_block.proofs.FactLaws.AnsweredLaws.{answered-behind}
use Rattle.idl_block.proofs.FactLaws.NestedLaws.{nested-block}
use Rattle.idl_block.proofs.FactLaws.WalkLaws.{IsSound, sound-block}
use Rattle.idl_block.specs.facts.Answered.{answered}
use Rattle.idl_block.specs.facts.Known.{AskEnough}
use Rattle.std.proofs.Common.{◌≡◌, ◌∷◌, ◌++◌, [], List, Option, subst, sym}
use Rattle.idl_root_blocks.proofs.verdicts.standing.nested.Goals as goal

pub returns : goal.returns
returns c = λ before front parts whole standing inner_whole inner_standing.
    let outer : List UnitFacts = (block_end (answers before) front).1 in
    let sound : IsSound (answers before) outer = sound-block unit_asks unit_writes (answers before) front (c.enough.ensures before front whole standing) in
    let there : laid answered outer (answers before) ≡ answers (before ++ outer) = λ i k. answered-behind before outer k sound.proper sound.within i in (
      nested-block (answers before) outer sound.proper unit_asks unit_writes parts
          (subst (λ (bank : Key → Option Answer). AskEnough unit_asks unit_writes bank parts (boundary Enters ∷ [])) (sym there) (c.enough.ensures (before ++ outer) parts inner_whole inner_standing)),
      there,
    )
