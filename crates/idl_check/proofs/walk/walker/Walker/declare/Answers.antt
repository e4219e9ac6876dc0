use Rattle.std.proofs.Common.{◌≡◌, Some, sym, ap, ◌∙◌}
use Rattle.std.proofs.lemmas.Result.{on_ok_weaker}
use Rattle.idl_check.proofs.Visits.VisitLemmas.{declared_in, first-at, runs_over, turns-here}
use Rattle.idl_check.specs.tables.Codes.{codes_in}
use Rattle.idl_check.specs.tables.Declaring.{declared_table, standing}
use Rattle.idl_check.specs.walk.Held.{held}
use Rattle.idl_check.specs.walk.Walk.{declared_visit, noted_in, turns_at}
use Rattle.idl_env.specs.Facts.{answers}
use Rattle.idl_scope.specs.Lookup.{under}
use Rattle.idl_entity.specs.Path.{scope_of}
use Rattle.idl_unit.specs.TokenRules.{first}
use Rattle.idl_check.proofs.walk.walker.Walker.declare.Goals as goal

pub standing_of-requires : goal.standing_of-requires
standing_of-requires c = ap (λ e. scope_of e.path) (c.get.ensures ∙ c.in_ok-entity.ensures)

pub returns-clause-visited : goal.returns-clause-visited
returns-clause-visited c = on_ok_weaker c.declare_as.result (λ visit turns more.
    let w = held c.args.self.now in
    let bank = answers c.args.self.now.env.now in
    let way = c.args.way in
    let name = c.args.name.now in
    let log = c.args.log.now in
    let after = c.standing_of.new.log in
    let s = c.in-Some.scope.now in
    let there = c.in_ok-standing.standing in
    let entity = c.in_ok-entity.ensures in
    let new = c.get.ensures ∙ entity in
    let innermost : first w.cursor ≡ Some s = first-at w.cursor ∙ sym c.in-Some.ensures.value in
    let code = c.declared_code-code.ensures ∙ (λ i. first (codes_in (declared_table s there (c.get-2.ensures i)))) in
    let gives = c.in_ok-standing.ensures (turns_at turns w) (turns-here c.args.self.now.env.now w.own turns more)
    ∙ (λ i. runs_over bank (under w.own (standing (turns_at turns w) s (new i))) log) in
    (λ i. (visit s code i, after))
    ∙ (λ i. (noted_in (declared_visit w way s (entity i) there) w.fault, after))
    ∙ sym (declared_in bank turns way name w log s there after innermost gives))
    c.declare_as.ensures.visit
