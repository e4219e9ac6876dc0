use Rattle.std.proofs.Common.{◌≡◌, ◌++◌, ◌∙◌, [], false, map, rules}
use Rattle.idl_root.specs.Followed.{facts_of, results_from}
use Rattle.idl_env.specs.Facts.{UnitFacts, key_of, operations_among}
use Rattle.idl_env.specs.keys.Key.{key_digest}
use Rattle.idl_env.specs.declared.additions.addition.Step.TheVariants.{Stays}
use Rattle.idl_root.proofs.FollowingLemmas.{beside-less}
use Rattle.idl_root.proofs.ResultLemmas.{first-next}
use Rattle.idl_root.proofs.kept.following.Following.without_next.Goals as goal

pub returns-clause-followed : goal.returns-clause-followed
returns-clause-followed c = λ earlier facts b.
    let lists = c.args.kept.now.lists in
    let course = c.args.self.course in
    let next = c.in-Some-behind_first.course in
    let f : UnitFacts = c.in-Some.declaration.now.out.writes in
    let behind = c.in-Some-behind_first.ensures lists f (first-next lists c.in-Some.declaration.now course c.in-Some.ensures.first) in
    let before : c.get-facts.result.now ≡ f = search rules in
    let stays : f.step ≡ Stays = search rules in
    let changed : c.in_ok-changed.changed ≡ c.args.self.changed ++ map (λ a. key_digest (key_of a)) f.additions = search rules in
    let may : c.may_differ.result ≡ false → (c.args.self.is_around ≡ false) × (operations_among f.additions ≡ []) = λ no.
    let both = c.may_differ.ensures no in
    (both.0, search rules) in
    record {
      list = behind.list ∙ b.list;
      beside = beside-less (facts_of lists earlier) course.marks.now (results_from lists course)
          f next.marks.now (results_from lists next) behind.passed
          c.args.self.is_around c.may_differ.result c.args.self.changed facts may c.in_ok-changed.changed changed stays b.beside;
    }
