use Rattle.std.proofs.Common.{◌≡◌, ◌++◌, [], false, map, rules}
use Rattle.idl_root.specs.Followed.{facts_of, results_from}
use Rattle.idl_env.specs.Facts.{key_of, operations_among}
use Rattle.idl_env.specs.keys.Key.{key_digest}
use Rattle.idl_env.specs.declared.additions.addition.Step.TheVariants.{Stays}
use Rattle.idl_root.proofs.FollowingLemmas.{beside-more}
use Rattle.idl_root.proofs.kept.following.Following.with_more.Goals as goal

pub returns : goal.returns
returns c = λ lists earlier here b.
    let g = c.args.facts.now in
    let course = c.args.self.course in
    let stays : g.step ≡ Stays = search rules in
    let changed : c.in_ok-changed.changed ≡ c.args.self.changed ++ map (λ a. key_digest (key_of a)) g.additions = search rules in
    let may : c.may_differ.result ≡ false → (c.args.self.is_around ≡ false) × (operations_among g.additions ≡ []) = λ no.
    let both = c.may_differ.ensures no in
    (both.0, search rules) in
    record {
      list = b.list;
      beside = beside-more (facts_of lists earlier) course.marks.now (results_from lists course)
          c.args.self.is_around c.may_differ.result c.args.self.changed here g may c.in_ok-changed.changed changed stays b.beside;
    }
