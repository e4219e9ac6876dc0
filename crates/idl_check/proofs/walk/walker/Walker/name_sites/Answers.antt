use Rattle.std.proofs.Common.{◌≤◌, ◌+◌, ◌++◌, drop, map, sym, ap, ◌∙◌, append_assoc, append-nil, arith}
use Rattle.std.proofs.lemmas.List.{drop_all}
use Rattle.idl_check.proofs.Visits.NamesLemmas.{names-end, names-on, names-over}
use Rattle.idl_check.specs.walk.Held.{held, visited}
use Rattle.idl_check.specs.walk.Names.{names_at, site_names}
use Rattle.idl_env.proofs.AnswerLaws.PlaceLemmas.{from_here}
use Rattle.idl_env.specs.Facts.{answers}
use Rattle.idl_env.specs.Turns.{turns_for}
use Rattle.idl_memo.specs.Query.{outcome}
use Rattle.idl_parts.specs.Item.{item_at, items_length}
use Rattle.idl_check.proofs.walk.walker.Walker.name_sites.Goals as goal

pub returns-then-is_known : goal.returns-then-is_known
returns-then-is_known c = λ turns more.
    let bank = answers c.args.self.now.env.now in
    let before = c.loop-site.names.items in
    let rest = map item_at (drop c.loop-site.site-index c.args.sites.now) in
    sym (append-nil before)
    ∙ ap (λ ns. before ++ ns) (sym (names-over turns bank rest (held c.loop-site.self) (sym c.is_known.ensures ∙ c.if-is_known.true)))
    ∙ c.loop-site.invariant.rest turns more

pub loop-site-preserved : goal.loop-site-preserved
loop-site-preserved c =
    let bank = answers c.args.self.now.env.now in
    let sites = c.args.sites.now in
    let at = c.loop-site.site-index in
    let site = item_at c.site-item.result in
    let rest = map item_at (drop (at + 1) sites) in
    let w = held c.loop-site.self in
    let next = held c.name_site.new.self in
    let before = c.loop-site.names.items in
    let here = ap (map item_at) (from_here sites at c.site-item.result c.loop-site-test.true c.site-item.is) in
    let counted = ap items_length here in
    record {
      rest = λ turns more.
          let enough : turns_for c.loop-site.self.env.now ≤ turns = rw c.loop-site.invariant.env more in
          let gives = c.in_ok-name_site.ensures.visited turns enough ∙ ap (λ env. outcome (visited turns site w) (answers env)) c.loop-site.invariant.env in
          ap (λ ns. ns ++ site_names turns bank rest next) c.in_ok-name_site.ensures.names
          ∙ append_assoc before (names_at site w next) (site_names turns bank rest next)
          ∙ ap (λ ns. before ++ ns) (names-on turns bank site rest w next (sym c.is_known.ensures ∙ c.if-is_known.false) gives)
          ∙ ap (λ sites. before ++ site_names turns bank sites w) (sym here) ∙ c.loop-site.invariant.rest turns more;
      env = c.in_ok-name_site.ensures.env ∙ c.loop-site.invariant.env;
      room = omega (arith, counted, c.in_ok-name_site.ensures.at, c.loop-site.invariant.room);
    }

pub returns : goal.returns
returns c = λ turns more.
    let bank = answers c.args.self.now.env.now in
    let w = held c.loop-site.self in
    let before = c.loop-site.names.items in
    let end = ap (map item_at) (drop_all c.loop-site.site-index c.args.sites.now c.loop-site-test.false) in
    sym (append-nil before)
    ∙ ap (λ ns. before ++ ns) (sym (names-end turns bank w))
    ∙ ap (λ sites. before ++ site_names turns bank sites w) (sym end) ∙ c.loop-site.invariant.rest turns more
