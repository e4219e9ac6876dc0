use Rattle.idl_block.proofs.BlockLaws.{walk-block}
use Rattle.idl_block.proofs.OuterLaws.{walk-alike}
use Rattle.idl_env.specs.Facts.{answers, boundary}
use Rattle.idl_block.specs.facts.Written.{ways_of}
use Rattle.idl_block.proofs.FactLaws.Seen.KnownLaws.{known-block}
use Rattle.idl_block.proofs.FactLaws.WalkLaws.{over-block}
use Rattle.idl_env.specs.declared.additions.addition.Step.TheVariants.{Enters}
use Rattle.std.specs.Prelude.{◌∷◌, []}
use Rattle.idl_block.proofs.facts.known.agreeing.Goals as goal

pub returns : goal.returns
returns g c = λ before other parts enough enough_there agree.
    let unit = g.U.FactUnits.unit in
    let writes = g.U.FactUnits.writes in (
      walk-block (ways_of unit writes) answers before parts (boundary Enters ∷ []) (over-block unit writes before parts enough),
      walk-alike (ways_of unit writes) answers other parts (boundary Enters ∷ []) (over-block unit writes other parts enough_there)
          before (known-block unit writes (answers before) parts enough) agree,
    )
