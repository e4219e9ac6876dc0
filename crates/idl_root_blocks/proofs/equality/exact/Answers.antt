use Rattle.idl_root_blocks.proofs.equality.exact.Goals as goal

pub returns-clause-equal : goal.returns-clause-equal
returns-clause-equal g c = g.met.T.Eq.laws

pub returns-clause-same : goal.returns-clause-same
returns-clause-same g c = g.met.T.Datum.same
