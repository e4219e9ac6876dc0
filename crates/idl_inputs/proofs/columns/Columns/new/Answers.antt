use Rattle.idl_inputs.proofs.ColumnLemmas.{none-laid}
use Rattle.idl_inputs.proofs.columns.Columns.new.Goals as goal

pub invariant_of-result : goal.invariant_of-result
invariant_of-result c = rw c.new.ensures.empty (none-laid c.args.bank.now.files)
