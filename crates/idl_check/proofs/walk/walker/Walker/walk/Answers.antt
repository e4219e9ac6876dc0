use Rattle.std.proofs.Common.{◌≤◌, ◌+◌, drop, map, sym, ap, ◌∙◌, arith}
use Rattle.std.proofs.lemmas.List.{drop_all}
use Rattle.idl_check.proofs.Visits.VisitLemmas.{runs_over, walk_end, walk_on, walk_over}
use Rattle.idl_check.specs.walk.Held.{held, visited}
use Rattle.idl_check.specs.walk.Walk.{walk}
use Rattle.idl_env.proofs.AnswerLaws.PlaceLemmas.{from_here}
use Rattle.idl_env.specs.Facts.{answers}
use Rattle.idl_env.specs.Turns.{turns_for}
use Rattle.idl_parts.specs.Item.{item_at, items_length}
use Rattle.idl_check.proofs.walk.walker.Walker.walk.Goals as goal

pub returns-then-is_over-clause-walked : goal.returns-then-is_over-clause-walked
returns-then-is_over-clause-walked c = λ turns more.
    let rest = map item_at (drop c.loop-site.site-index c.args.sites.now) in
    sym (walk_over (answers c.args.self.now.env.now) turns rest (held c.loop-site.self) c.loop-site.log (sym c.is_over.ensures ∙ c.if-is_over.true))
    ∙ c.loop-site.invariant.rest turns more

pub loop-site-preserved : goal.loop-site-preserved
loop-site-preserved c =
    let bank = answers c.args.self.now.env.now in
    let sites = c.args.sites.now in
    let at = c.loop-site.site-index in
    let site = item_at c.site-item.result in
    let rest = map item_at (drop (at + 1) sites) in
    let w = held c.loop-site.self in
    let log = c.loop-site.log in
    let here = ap (map item_at) (from_here sites at c.site-item.result c.loop-site-test.true c.site-item.is) in
    let counted = ap items_length here in
    record {
      rest = λ turns more.
          let enough : turns_for c.loop-site.self.env.now ≤ turns = rw c.loop-site.invariant.env more in
          let gives = c.in_ok-visit.ensures.visited turns enough ∙ ap (λ env. runs_over (answers env) (visited turns site w) log) c.loop-site.invariant.env in
          sym (walk_on bank turns site rest w log (held c.visit.new.self) c.visit.new.log (sym c.is_over.ensures ∙ c.if-is_over.false) gives)
          ∙ ap (λ sites. runs_over bank (walk turns sites w) log) (sym here) ∙ c.loop-site.invariant.rest turns more;
      env = c.in_ok-visit.ensures.env ∙ c.loop-site.invariant.env;
      room = omega (arith, counted, c.in_ok-visit.ensures.at, c.loop-site.invariant.room);
    }

pub returns-clause-walked : goal.returns-clause-walked
returns-clause-walked c = λ turns more.
    let bank = answers c.args.self.now.env.now in
    let w = held c.loop-site.self in
    let end = ap (map item_at) (drop_all c.loop-site.site-index c.args.sites.now c.loop-site-test.false) in
    sym (walk_end bank turns w c.loop-site.log)
    ∙ ap (λ sites. runs_over bank (walk turns sites w) c.loop-site.log) (sym end) ∙ c.loop-site.invariant.rest turns more
