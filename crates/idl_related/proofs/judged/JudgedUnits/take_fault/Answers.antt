use Rattle.idl_related.proofs.FirstDeclaredLemmas.{on-ok}
use Rattle.idl_related.proofs.judged.JudgedUnits.take_fault.Goals as goal

pub returns-clause-told : goal.returns-clause-told
returns-clause-told c = on-ok c.pass_faulty.result c.in_ok-tell.ensures.told
