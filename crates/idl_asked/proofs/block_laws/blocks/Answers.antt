use Rattle.std.proofs.Common.{refl}
use Rattle.idl_asked.proofs.BlockLaws.{alike-plain, facts-behind, kept-plain, keys-plain, shared-plain}
use Rattle.idl_asked.proofs.LevelLaws.{texts-told}
use Rattle.idl_env.specs.Facts.{answers}
use Rattle.idl_root_blocks.specs.Blocks.{parts_of}
use Rattle.idl_asked.proofs.block_laws.blocks.Goals as goal

pub returns-clause-texts : goal.returns-clause-texts
returns-clause-texts c = texts-told

pub returns-clause-facts : goal.returns-clause-facts
returns-clause-facts c = facts-behind

pub returns-clause-kept : goal.returns-clause-kept
returns-clause-kept c = λ before text is.
    kept-plain (λ b t front stands. c.knowing.ensures.over b (parts_of t) (c.enough.ensures b (parts_of t) front stands)) c.standing.ensures.here c.logging.ensures.left before text is

pub returns-clause-alike : goal.returns-clause-alike
returns-clause-alike c = λ before text here is.
    alike-plain (λ b t front stands. c.knowing.ensures.over b (parts_of t) (c.enough.ensures b (parts_of t) front stands)) c.standing.ensures.here c.logging.ensures.left before text is
    here (c.taking.ensures.kept here (text, answers before))

pub returns-clause-shared : goal.returns-clause-shared
returns-clause-shared c = λ known before text is.
    shared-plain (λ b t front stands. c.knowing.ensures.over b (parts_of t) (c.enough.ensures b (parts_of t) front stands)) c.standing.ensures.here c.logging.ensures.left before text is
    known (c.taking.ensures.asks (text, answers before) (text, answers before)).1

pub returns-clause-keys : goal.returns-clause-keys
returns-clause-keys c = λ before text is.
    keys-plain (λ b t front stands. c.knowing.ensures.over b (parts_of t) (c.enough.ensures b (parts_of t) front stands)) c.standing.ensures.here c.logging.ensures.left before text is
    (c.taking.ensures.asks (text, answers before) (text, answers before)).1

pub returns-clause-units : goal.returns-clause-units
returns-clause-units c = λ known here. refl
