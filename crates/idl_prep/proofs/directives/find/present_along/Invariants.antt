use Rattle.std.proofs.Common.{◌≡◌, drop}
use Rattle.idl_event.specs.Expanding.{arrival}
use Rattle.idl_prep.specs.Include.{first_present, present_along}
use Rattle.idl_source.specs.names.Candidates.{along}
use Rattle.idl_prep.proofs.directives.find.present_along.Given as goal

abbrev pub invariant-directories : goal.invariant-directories
invariant-directories g l =
    let bank = g.B.Bank.at l.bank in
    arrival bank (first_present (along (drop l.directory-index l.directories) l.name)) l.progress
    ≡ arrival bank (present_along l.name) l.fn.progress
