use Rattle.idl_text.proofs.MatchedLemmas.{matched-endif}
use Rattle.idl_text.proofs.groups.matching.Matching.end_group.Goals as goal

pub returns-in_ok-close-in-Some : goal.returns-in_ok-close-in-Some
returns-in_ok-close-in-Some c = λ after later lines is m.
    let old = c.args.self.now in
    let new = c.close.new.self in
    let closed = c.in_ok-close-in-Some.ensures in
    matched-endif lines c.args.at after c.args.directive.now c.in-Some.branch c.pop.new.self old.branches new.branches old.spans.items new.spans.items old.faults.items new.faults.items
    c.requires later is c.in-Some.ensures closed.branches closed.spans closed.faults m
