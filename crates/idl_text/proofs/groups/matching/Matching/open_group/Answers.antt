use Rattle.std.proofs.Common.{◌≡◌, false, length, refl, rules}
use Rattle.idl_text.proofs.MatchedLemmas.{matched-opening}
use Rattle.idl_text.proofs.groups.matching.Matching.open_group.Goals as goal

pub returns : goal.returns
returns c = λ what at opens later lines is m.
    let old = c.args.self.now in
    let count : c.len.result ≡ length old.faults.items = search rules in
    matched-opening lines at c.args.after c.args.directive.now what
    (record { from = c.args.after; faults = c.len.result; has_else = false; unclosed = c.in_ok-unclosed.unclosed })
    old.branches c.push.new.self old.spans.items old.faults.items opens later is c.in_ok-push.ensures refl count refl c.in_ok-unclosed.ensures m
