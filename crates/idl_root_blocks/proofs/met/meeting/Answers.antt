use Rattle.std.proofs.Common.{◌≤◌, ap}
use Rattle.std.specs.Option.{option_eq}
use Rattle.idl_root_blocks.specs.verdicts.Standing.{unit_asks}
use Rattle.idl_env.specs.SameAnswer.{answer_eq}
use Rattle.idl_env.specs.keys.Key.{key_eq}
use Rattle.idl_memo.proofs.FreshTasks.{shared-most}
use Rattle.idl_root_blocks.proofs.Likes.{like-equiv, like-query}
use Rattle.idl_root_blocks.proofs.Meets.{met-known, met-most}
use Rattle.idl_root_blocks.specs.Met.{Met, MetBlock, MetUnit, block_text_eq, most_shared_by, shared_by, unit_text_eq}
use Rattle.idl_root_blocks.specs.Places.{block_query}
use Rattle.idl_root_blocks.proofs.met.meeting.Goals as goal

pub returns-clause-known : goal.returns-clause-known
returns-clause-known c = λ known other facts pieces h. met-known pieces known other facts h

pub returns-clause-most : goal.returns-clause-most
returns-clause-most c = λ met. met-most each met
  where
    each : (m : Met) → shared_by m ≤ most_shared_by m
    each (MetUnit known here) =
        shared-most unit_text_eq c.exact.ensures.equal (option_eq answer_eq) c.exact-3.ensures.equal.refl c.exact-3.ensures.same
        unit_asks (λ x y is. ap unit_asks (c.exact.ensures.same x y is)) key_eq c.exact-4.ensures.equal.refl c.exact-4.ensures.same known here
    each (MetBlock known here) =
        shared-most block_text_eq (like-equiv c.exact-2.ensures.equal) (option_eq answer_eq) c.exact-3.ensures.equal.refl c.exact-3.ensures.same
        block_query (like-query c.exact-2.ensures.same) key_eq c.exact-4.ensures.equal.refl c.exact-4.ensures.same known here
