use Rattle.std.proofs.Common.{arith}
use Rattle.idl_root_blocks.proofs.VerdictLaws.Stacks.{told-deepest, told-kept}
use Rattle.idl_root_blocks.proofs.VerdictLaws.Stands.{stands-walked}
use Rattle.idl_env.specs.Facts.{answers, count_in}
use Rattle.idl_env.specs.declared.keys.key.Key.TheVariants.{Nameless}
use Rattle.idl_root_blocks.proofs.verdicts.standing.walked.Goals as goal

pub returns : goal.returns
returns c = λ before parts whole told turns count.
    stands-walked before (λ facts told count. record {
      own = λ n path e stands. c.naming.ensures.own facts n path e told stands;
      none = λ name scope. c.naming.ensures.nameless facts name scope told;
      next = λ scope. c.naming.ensures.next facts scope told count;
      blank = λ n scope. (told-kept facts told).blank.names n (count_in (answers facts Nameless)) scope (omega arith) count;
      deepest = told-deepest facts told;
    }) c.refusal.ensures.step c.more_turns.ensures parts whole told (record { turns = turns; count = count })
