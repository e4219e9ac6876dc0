use Rattle.std.proofs.Common.{rules}
use Rattle.idl_root.specs.Followed.{results_from}
use Rattle.idl_root.proofs.ResultLemmas.{boundary-next}
use Rattle.idl_root.proofs.TakenLemmas.{some-weaker}
use Rattle.idl_root.proofs.kept.following.Following.across.Goals as goal

pub returns : goal.returns
returns c =
    let course = c.args.self.course in
    let begins = c.begins_with.ensures (search rules) in
    some-weaker c.in_ok-with_same.field-0 _ _
    (λ f more lists earlier b.
    more lists earlier (boundary-next c.args.boundary course.marks.now begins.0 (results_from lists course) c.args.facts.now begins.1 c.requires) b)
    c.in_ok-with_same.ensures
