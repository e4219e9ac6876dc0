use Rattle.idl_root.proofs.DetailLemmas.{listing-printed}
use Rattle.idl_root.proofs.compiling.laws.detailing.Goals as goal

pub returns : goal.returns
returns c = listing-printed c.listed_row.ensures.declared c.listed_row.ensures.unknown c.printing.ensures
