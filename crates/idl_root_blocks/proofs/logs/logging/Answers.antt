use Rattle.std.proofs.Common.{refl}
use Rattle.idl_root_blocks.proofs.LogLaws.{block-log, boundary-log, left-log, unit-log}
use Rattle.idl_root_blocks.specs.declared.text.BlockPart.TheVariants.{Enters, Leaves}
use Rattle.idl_root_blocks.proofs.logs.logging.Goals as goal

pub returns-clause-unit : goal.returns-clause-unit
returns-clause-unit c = λ before front text whole standing. unit-log c.enough.ensures before front whole standing text

pub returns-clause-block : goal.returns-clause-block
returns-clause-block c = λ before front inside whole standing b stands.
    block-log c.enough.ensures before front whole standing c.nested.ensures inside b stands

pub returns-clause-boundaries : goal.returns-clause-boundaries
returns-clause-boundaries c = λ before front b whole standing. (
  boundary-log c.enough.ensures before front whole standing (Enters b) refl,
  boundary-log c.enough.ensures before front whole standing (Leaves b) refl,
)

pub returns-clause-left : goal.returns-clause-left
returns-clause-left c = λ before text whole standing. left-log c.enough.ensures before text whole standing
