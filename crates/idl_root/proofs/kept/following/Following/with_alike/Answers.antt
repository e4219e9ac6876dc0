use Rattle.std.proofs.Common.{◌∙◌}
use Rattle.idl_root.specs.Followed.{facts_of, results_from}
use Rattle.idl_root.proofs.FollowingLemmas.{beside-same}
use Rattle.idl_root.proofs.kept.following.Following.with_alike.Goals as goal

pub returns : goal.returns
returns c = λ lists earlier first b.
    let course = c.args.self.course in
    let next = c.in_ok-behind_first.field-0 in
    let behind = c.in_ok-behind_first.ensures lists c.args.facts.now first in
    record {
      list = behind.list ∙ b.list;
      beside = beside-same (facts_of lists earlier) course.marks.now (results_from lists course)
          c.args.facts.now next.marks.now (results_from lists next) behind.passed
          c.args.self.is_around c.args.self.changed c.args.env.now c.requires b.beside;
    }
