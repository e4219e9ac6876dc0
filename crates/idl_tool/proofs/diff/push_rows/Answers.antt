use Rattle.std.proofs.Common.{◌∙◌, ◌++◌, List, ap, map}
use Rattle.std.proofs.lemmas.List.{map-append}
use Rattle.std.proofs.lemmas.Result.{on_ok_weaker}
use Rattle.idl_json.specs.Listed.{LocatedRow, row_of}
use Rattle.idl_tool.proofs.ShownLemmas.{grown-on_ok}
use Rattle.idl_tool.proofs.diff.push_rows.Goals as goal

pub returns-clause-rows : goal.returns-clause-rows
returns-clause-rows c =
    let old = c.args.rows.now.items in
    let listed = c.deref.result.now in
    let pushed = c.extend_from_slice.result in
    on_ok_weaker pushed
    (λ put. ap (map row_of) put ∙ map-append row_of old listed ∙ ap (λ (rs : List LocatedRow). map row_of old ++ rs) (ap (map row_of) c.deref.ensures.value ∙ c.in_ok-listed.ensures.rows))
    (grown-on_ok (old ++ listed) old pushed c.extend_from_slice.ensures.items)

pub returns-clause-same : goal.returns-clause-same
returns-clause-same c = c.in_ok-listed.ensures.same
