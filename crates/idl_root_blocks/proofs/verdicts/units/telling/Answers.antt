use Rattle.std.proofs.Common.{arith}
use Rattle.idl_root_blocks.proofs.VerdictLaws.Names.{named-unit, unit-nothing}
use Rattle.idl_root_blocks.proofs.VerdictLaws.Stacks.{told-kept}
use Rattle.idl_check_laws.proofs.NamingLaws.{unit-named}
use Rattle.idl_check_laws.specs.idl_check.walk.Verdict.{verdict}
use Rattle.idl_env.specs.Facts.{answers, count_in}
use Rattle.idl_env.specs.declared.keys.key.Key.TheVariants.{Nameless}
use Rattle.idl_memo.specs.Query.{outcome}
use Rattle.idl_root_blocks.proofs.verdicts.units.telling.Goals as goal

pub returns : goal.returns
returns c = λ facts turns text told small.
    named-unit facts (λ n path e stands. c.naming.ensures.own facts n path e told stands) (λ name scope. c.naming.ensures.nameless facts name scope told)
    (λ scope. c.naming.ensures.next facts scope told small)
    (λ n scope. (told-kept facts told).blank.names n (count_in (answers facts Nameless)) scope (omega arith) small)
    (outcome (verdict turns text) (answers facts)).writes (unit-nothing turns (answers facts) text) (unit-named turns (answers facts) text)
