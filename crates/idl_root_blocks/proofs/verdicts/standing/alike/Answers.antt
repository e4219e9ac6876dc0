use Rattle.idl_block.proofs.OuterLaws.{outcome-again}
use Rattle.idl_root_blocks.specs.verdicts.Standing.{AreStanding, block_end, unit_asks, unit_writes}
use Rattle.idl_env.specs.Facts.{UnitFacts, answers, boundary}
use Rattle.idl_env.specs.declared.additions.addition.Step.TheVariants.{Enters}
use Rattle.idl_block.proofs.FactLaws.Seen.KnownLaws.{known-block}
use Rattle.idl_block.specs.facts.Written.{ways_of}
use Rattle.std.proofs.Common.{◌≡◌, ◌∷◌, [], List, subst, sym, ap}
use Rattle.idl_root_blocks.proofs.verdicts.standing.alike.Goals as goal

pub returns : goal.returns
returns c = λ before other parts whole standing standing_there agree.
    let asks = c.enough.ensures before parts whole standing in
    let again : block_end (answers other) parts ≡ block_end (answers before) parts =
    outcome-again (ways_of unit_asks unit_writes) (answers before) parts (boundary Enters ∷ []) (known-block unit_asks unit_writes (answers before) parts asks) (answers other) agree in
    let there : AreStanding other (block_end (answers other) parts).1 = subst (λ (facts : List UnitFacts). AreStanding other facts) (sym (ap (λ e. e.1) again)) standing_there in
    c.agreeing.ensures before other parts asks (c.enough.ensures other parts whole there) agree
