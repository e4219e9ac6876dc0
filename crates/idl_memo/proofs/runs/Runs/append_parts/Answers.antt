-- A part more stands in front of what is left, until nothing is.
use Rattle.std.proofs.Common.{◌++◌, append-nil, flat_map, sym, ap, ◌∙◌, arith}
use Rattle.idl_memo.specs.Parts.{part_entries}
use Rattle.idl_memo.proofs.RunLaws.{at-some, more-entries}
use Rattle.std.proofs.lemmas.Grind.{common_steps}
use Rattle.idl_memo.proofs.runs.Runs.append_parts.Goals as goal

pub entries-preserved : goal.entries-preserved
entries-preserved g c =
    let behind = c.in-Some.behind.now in
    let here = at-some c.in_ok-part.field-0 (c.in-Some.part, c.in-Some.behind) _ c.in-Some.is c.in_ok-part.ensures.whole in
    let all = flat_map part_entries c.args.parts.now.items ++ c.args.entries.now in
    sym (more-entries part_entries all c.entries.parts.items c.entries.rest.now c.in-Some.part behind (sym c.entries.invariant) here ∙ ap (λ l. flat_map part_entries l ++ behind) (sym c.in_ok-push.ensures.items))

pub returns : goal.returns
returns g c =
    let parts = flat_map part_entries c.entries.parts.items in
    sym (append-nil parts) ∙ ap (λ r. parts ++ r) (sym (c.in_ok-part.ensures.none c.in_default.is)) ∙ c.entries.invariant

pub entries-init : goal.entries-init
entries-init g c = grind (arith, common_steps)
