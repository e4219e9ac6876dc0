use Rattle.std.proofs.Common.{◌≡◌, ◌∷◌, ◌++◌, ◌∙◌, [], ap, rules, subst, true}
use Rattle.idl_root.specs.Changed.{ShareNone}
use Rattle.idl_root.specs.Followed.{facts_of, results_from}
use Rattle.idl_env.specs.Facts.{entity_key}
use Rattle.idl_env.specs.keys.Key.{key_digest}
use Rattle.idl_env.specs.declared.keys.key.Key.TheVariants.{Cursor}
use Rattle.idl_root.proofs.FollowingLemmas.{beside-closing}
use Rattle.idl_root.proofs.kept.following.Following.with_closing.Goals as goal

pub returns : goal.returns
returns c = λ lists earlier first b.
    let course = c.args.self.course in
    let next = c.in-Some.course in
    let behind = c.in-Some.ensures lists c.args.facts.now first in
    let found = c.in-Some-digests_of_innermost.ensures.found in
    let closing = c.is_closing.ensures (search rules) in
    let yes : c.shares_none.result ≡ true = search rules in
    let apart : ShareNone (key_digest Cursor ∷ []) c.args.self.changed = subst (λ d. ShareNone (d ∷ []) c.args.self.changed) found.2 (c.shares_none.ensures yes) in
    let more : c.push.new.self ≡ c.args.self.changed ++ key_digest (entity_key found.0.path) ∷ [] = c.in_ok-push.ensures ∙ ap (λ d. c.args.self.changed ++ d ∷ []) found.3 in
    record {
      list = behind.list ∙ b.list;
      beside = beside-closing (facts_of lists earlier) course.marks.now (results_from lists course)
          c.args.facts.now next.marks.now (results_from lists next) behind.passed
          c.args.self.is_around c.args.self.changed c.args.env.now closing.0 closing.1 found.0 found.1 apart c.push.new.self more b.beside;
    }
