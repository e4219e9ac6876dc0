use Rattle.idl_inputs.specs.Bank.{bank_of}
use Rattle.idl_project.proofs.DetailLemmas.{listing-of, listing-over}
use Rattle.idl_project.proofs.detailed.listing_is_details.Goals as goal

pub returns-clause-compiled : goal.returns-clause-compiled
returns-clause-compiled c = λ inputs name. listing-over c.detailing.ensures (bank_of inputs) name

pub returns-clause-answered : goal.returns-clause-answered
returns-clause-answered c = listing-of c.detailing.ensures
