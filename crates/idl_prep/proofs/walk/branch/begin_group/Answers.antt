use Rattle.std.proofs.Common.{◌∷◌, true, ap}
use Rattle.idl_prep.specs.Pass.{begun}
use Rattle.idl_prep.proofs.WalkLaws.WalkLemmas.{to_come-opening}
use Rattle.idl_prep.proofs.walk.branch.begin_group.Goals as goal

pub returns : goal.returns
returns g c = λ enter gs lines walked.
    let site = c.args.site.now in
    let taken = c.in_ok-is_taken.is_taken in
    to_come-opening (g.B.Bank.at site.bank.now) enter site.file.now c.args.directive.now lines gs _ c.args.what taken c.args.root.now c.turn.new.self c.test.new.self
    c.requires walked c.in_ok-turn.ensures c.in_ok-is_taken.ensures.arrival c.in_ok-is_taken.ensures.state (ap (λ o. begun o true taken ∷ gs) c.in_ok-opener.ensures)
