use Rattle.std.proofs.Common.{refl, arith}
use Rattle.idl_lex.proofs.ColumnLemmas.{first-left, some-left}
use Rattle.idl_lex.proofs.bytes.text_left.LineLeft.split_first.Goals as goal

pub byte-requires : goal.byte-requires
byte-requires c = some-left c.args.self.now c.requires

pub overflow_add-rest : goal.overflow_add-rest
overflow_add-rest c = omega (arith, c.byte.ensures.room)

pub returns-clause-all : goal.returns-clause-all
returns-clause-all c = first-left c.args.self.now _ c.byte.result (some-left c.args.self.now c.requires) c.byte.ensures.is refl
