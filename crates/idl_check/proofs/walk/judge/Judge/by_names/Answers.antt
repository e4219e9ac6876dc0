use Rattle.std.proofs.Common.{map, ap, ◌∙◌, arith}
use Rattle.std.proofs.lemmas.Result.{IfOk-weaker}
use Rattle.idl_check.proofs.Visits.JudgeLemmas.{sites-length}
use Rattle.idl_check.proofs.Visits.VisitLemmas.{runs_over}
use Rattle.idl_check.specs.walk.Verdict.{judged}
use Rattle.idl_check.specs.walk.Walk.{first_walk, walk}
use Rattle.idl_memo.specs.Query.{and_then}
use Rattle.idl_env.specs.Facts.{answers}
use Rattle.idl_parts.specs.Item.{item_at, items, items_length}
use Rattle.idl_parts.specs.UnitParts.{unit_parts}
use Rattle.idl_check.proofs.walk.judge.Judge.by_names.Goals as goal

pub walked-requires : goal.walked-requires
walked-requires c =
    let sites = ap (map item_at) c.as_slice.ensures.value ∙ c.in_ok-sites.ensures in
    let all = ap items_length sites ∙ sites-length c.args.self.tokens.now c.args.tree.now c.requires in
    let at = ap (λ w. w.at) c.new-walker.ensures.walk in
    record { sites = sites; room = omega (arith, all, at); env = c.new-walker.ensures.env }

pub returns : goal.returns
returns c =
    let bank = answers c.args.self.env.now in
    let tokens = c.args.self.tokens.now in
    let scopes = c.args.self.scopes.now in
    let tree = c.args.tree.now in
    let sites = items (unit_parts tree) in
    let log = c.args.log.now in
    IfOk-weaker c.walked.result _ _
    (λ v given turns more.
    given turns more
    ∙ (λ i. runs_over bank (and_then (walk turns sites (c.new-walker.ensures.walk i)) (λ w. judged tokens scopes tree w)) log)
    ∙ (λ i. runs_over bank (and_then (walk turns sites (record (first_walk scopes) { fault = c.place_fault-known.ensures i })) (λ w. judged tokens scopes tree w)) log))
    c.walked.ensures
