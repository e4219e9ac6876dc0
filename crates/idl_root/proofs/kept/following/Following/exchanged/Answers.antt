use Rattle.std.proofs.Common.{◌≡◌, ◌++◌, ◌∙◌, map, rules}
use Rattle.idl_root.specs.Followed.{StayAlike, facts_of, results_from}
use Rattle.idl_env.specs.Differing.{differing}
use Rattle.idl_env.specs.Facts.{UnitFacts}
use Rattle.idl_env.specs.keys.Key.{key_digest}
use Rattle.idl_root.proofs.FollowingLemmas.{beside-other}
use Rattle.idl_root.proofs.ResultLemmas.{first-next}
use Rattle.idl_root.proofs.kept.following.Following.exchanged.Goals as goal

pub returns : goal.returns
returns c = λ earlier b.
    let lists = c.args.kept.now.lists in
    let course = c.args.self.course in
    let next = c.in-Some-behind_first.course in
    let f : UnitFacts = c.in-Some.declaration.now.out.writes in
    let g : UnitFacts = c.args.facts.now in
    let behind = c.in-Some-behind_first.ensures lists f (first-next lists c.in-Some.declaration.now course c.in-Some.ensures.first) in
    let before : c.get-before.result.now ≡ f = search rules in
    let steps : f.step ≡ g.step = search rules in
    let changed : c.in_ok-changed.changed ≡ c.args.self.changed ++ map key_digest (differing f.additions g.additions) = search rules in
    let alike : StayAlike c.may_differ-is_around.result c.args.env.now c.in_ok-changed.changed g = search rules in
    record {
      list = behind.list ∙ b.list;
      beside = beside-other (facts_of lists earlier) course.marks.now (results_from lists course)
          f next.marks.now (results_from lists next) behind.passed
          c.args.self.is_around c.may_differ-is_around.result c.args.self.changed c.args.env.now g (search rules) c.in_ok-changed.changed changed steps alike b.beside;
    }
