use Rattle.std.proofs.Common.{arith}
use Rattle.std.proofs.lemmas.Grind.{elements}
use Rattle.idl_map.proofs.table.Table.get_index.Goals as goal

pub returns-in_err-key : goal.returns-in_err-key
returns-in_err-key g c = grind (arith, elements)

pub returns : goal.returns
returns g c = grind (arith, elements)
