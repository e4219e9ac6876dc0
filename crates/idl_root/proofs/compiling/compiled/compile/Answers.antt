use Rattle.std.proofs.Common.{◌≡◌, [], flat_map, ◌∙◌, ap}
use Rattle.std.specs.List.{enumerate_from}
use Rattle.std.proofs.lemmas.Result.{IfOk-weaker}
use Rattle.idl_store.proofs.Obtaining.{on_ok}
use Rattle.idl_root.specs.Compile.{Outcome, compile, told}
use Rattle.idl_finding.specs.Findings.{event_finding}
use Rattle.idl_root.specs.Held.{held, to_come}
use Rattle.idl_root.proofs.FactsTold.{within-words}
use Rattle.idl_root.proofs.JudgingLemmas.{to_come-start, told-ended}
use Rattle.idl_root.proofs.compiling.compiled.compile.Goals as goal

pub returns-clause-compiled : goal.returns-clause-compiled
unfolding compile
returns-clause-compiled c =
    let events = c.args.expansion.now in
    let first = held c.in_ok-first.first in
    let start : first ≡ record { facts = []; found = flat_map event_finding (enumerate_from 0 events); rows = []; listed = [] } =
    c.in_ok-first.ensures ∙ ap (λ found. record { facts = []; found = found; rows = []; listed = [] }) c.in_ok-findings.ensures in
    let all = c.in_ok-judging.ensures ∙ ap (to_come first) (c.as_slice-2.ensures ∙ c.in_ok-units.ensures) ∙ to_come-start events first start in
    IfOk-weaker c.told.result _ _
    (λ compiled is. is ∙ told-ended c.args.end.now events c.ended.result (held c.in_ok-judging.judging) c.ended.ensures ∙ ap (told c.args.end.now events) all)
    c.told.ensures

pub returns-clause-within : goal.returns-clause-within
returns-clause-within c =
    let events = c.args.expansion.now in
    let first = held c.in_ok-first.first in
    let start : first ≡ record { facts = []; found = flat_map event_finding (enumerate_from 0 events); rows = []; listed = [] } =
    c.in_ok-first.ensures ∙ ap (λ found. record { facts = []; found = found; rows = []; listed = [] }) c.in_ok-findings.ensures in
    let all = c.in_ok-judging.ensures ∙ ap (to_come first) (c.as_slice-2.ensures ∙ c.in_ok-units.ensures) ∙ to_come-start events first start in
    on_ok c.told.result (within-words events (held c.in_ok-judging.judging).facts (ap (λ (o : Outcome). o.facts) all) c.bound.ensures.turns c.bound.ensures.count)
