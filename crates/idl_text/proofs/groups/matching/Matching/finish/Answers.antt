use Rattle.std.proofs.lemmas.List.Sorted.{All-permutation}
use Rattle.idl_text.specs.Matching.{IsSpan}
use Rattle.idl_text.proofs.MatchedLemmas.{matched-unclosed}
use Rattle.idl_text.proofs.groups.matching.Matching.finish.Goals as goal

pub branches-preserved : goal.branches-preserved
branches-preserved c = λ lines end m.
    let old = c.branches.self in
    let new = c.close.new.self in
    matched-unclosed lines c.args.at c.in-Some.branch c.pop.new.self old.branches new.branches old.spans.items new.spans.items old.faults.items new.faults.items c.push.new.self.items
    end c.in-Some.ensures c.in_ok-close.ensures.branches c.in_ok-close.ensures.spans c.in_ok-close.ensures.faults c.in_ok-push.ensures.items (c.branches.invariant lines end m)

pub returns : goal.returns
returns c = λ lines end m.
    let done = c.branches.self in
    All-permutation (IsSpan lines c.args.at done.faults.items) done.spans.items c.sort_unstable_by_key.new.self.items c.sort_unstable_by_key.ensures.permutation
    (c.branches.invariant lines end m).are_spans
