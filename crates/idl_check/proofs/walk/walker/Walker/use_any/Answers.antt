use Rattle.std.proofs.Common.{ℕ, ◌≤◌, ◌+◌, length, subst, sym, ap, ◌∙◌, arith}
use Rattle.std.proofs.lemmas.Result.{on_ok_weaker}
use Rattle.idl_check.proofs.PartLemmas.{part-within}
use Rattle.idl_check.proofs.Visits.VisitLemmas.{runs_over, turns-here, unfound_by, used_by}
use Rattle.idl_check.specs.walk.Held.{held, held_values}
use Rattle.idl_check.specs.told.Types.{looked_through}
use Rattle.idl_check.specs.tables.Using.{values_after}
use Rattle.idl_check.specs.walk.Walk.{noted_in, turns_at, unfound_visit, unions_without, used_visit}
use Rattle.std.specs.Prelude.{None}
use Rattle.idl_env.specs.Facts.{answers}
use Rattle.idl_scope.specs.Lookup.{denoted, under}
use Rattle.idl_scope.specs.declared.fault.NameFault.TheVariants.{At}
use Rattle.idl_env.specs.Turns.{HasTurnsFor, turns_among, turns_for}
use Rattle.idl_check.proofs.walk.walker.Walker.use_any.Goals as goal

pub use_nothing-requires-clause-part : goal.use_nothing-requires-clause-part
use_nothing-requires-clause-part c =
    let asked = rw c.in-Err-At.field-0-is at c.in-Err-At.ensures.asked in
    let name = c.args.name.now in
    let within =
    part-within c.args.self.now.own.additions (answers c.args.self.now.env.now) (turns_for c.args.self.now.env.now + turns_among c.args.self.now.own.additions) c.scopes.result.now name c.args.log.now c.resolve.new.log
    c.in-Err-At.code c.in-Err-At.part (asked (turns_for c.args.self.now.env.now + turns_among c.args.self.now.own.additions) (omega arith)) in
    subst (λ (part : ℕ). part ≤ length name.rest) (sym c.in-Err-At.part-is) within

pub returns-in_ok-behind-in-Ok-clause-run : goal.returns-in_ok-behind-in-Ok-clause-run
returns-in_ok-behind-in-Ok-clause-run c = on_ok_weaker c.use_as.result (λ visit turns more.
    let w = held c.args.self.now in
    let bank = answers c.args.self.now.env.now in
    let way = c.args.way in
    let name = c.args.name.now in
    let log = c.args.log.now in
    let found = c.in-Ok.found in
    let middle = c.resolve.new.log in
    let after = c.looked_through.new.log in
    let gives = c.in-Ok.ensures.asked (turns_at turns w) (turns-here c.args.self.now.env.now w.own turns more) ∙ ap (λ cursor. runs_over bank (under w.own (denoted (turns_at turns w) cursor name)) log) c.scopes.ensures.value in
    let seen : HasTurnsFor c.view.result.env.now c.view.result.own.now.additions (turns_at turns w) = rw (c.view.ensures.env, c.view.ensures.own) (turns-here c.args.self.now.env.now w.own turns more) in
    let through = c.in_ok-behind-in-Ok.ensures (turns_at turns w) seen ∙ (λ i. runs_over (answers (c.view.ensures.env i)) (under (c.view.ensures.own i).additions (looked_through (turns_at turns w) way found.entity)) middle) in
    (λ i. (visit i, after))
    ∙ (λ i. (noted_in (used_visit w way name found (c.get.ensures i)) w.fault, after))
    ∙ sym (used_by bank turns way name w log found middle c.in_ok-behind-in-Ok.behind after gives through))
    c.use_as.ensures.visit

pub returns-in_ok-behind-in-Ok-clause-at : goal.returns-in_ok-behind-in-Ok-clause-at
returns-in_ok-behind-in-Ok-clause-at c = on_ok_weaker c.use_as.result (λ visit. ap (λ w. w.at) visit) c.use_as.ensures.visit

pub returns-in-Err-At-clause-run : goal.returns-in-Err-At-clause-run
returns-in-Err-At-clause-run c = on_ok_weaker c.follow_nothing.result (λ walk turns more.
    let w = held c.args.self.now in
    let bank = answers c.args.self.now.env.now in
    let way = c.args.way in
    let name = c.args.name.now in
    let log = c.args.log.now in
    let after = c.resolve.new.log in
    let asked = rw c.in-Err-At.field-0-is at c.in-Err-At.ensures.asked in
    let gives = asked (turns_at turns w) (turns-here c.args.self.now.env.now w.own turns more) ∙ ap (λ cursor. runs_over bank (under w.own (denoted (turns_at turns w) cursor name)) log) c.scopes.ensures.value in
    (λ i. (walk i, after))
    ∙ (λ i. (
      record (held (c.use_nothing.ensures i)) {
        unions = unions_without way (c.use_nothing.ensures i).unions.items;
        values = values_after way None (held_values (c.use_nothing.ensures i).values);
      },
      after,
    ))
    ∙ (λ i. (noted_in (unfound_visit w way name (At (c.in-Err-At.code-is i) (c.in-Err-At.part-is i))) w.fault, after))
    ∙ sym (unfound_by bank turns way name w log (At c.in-Err-At.code c.in-Err-At.part) after gives))
    c.follow_nothing.ensures.walk

pub returns-in-Err-At-clause-at : goal.returns-in-Err-At-clause-at
returns-in-Err-At-clause-at c =
    on_ok_weaker c.follow_nothing.result (λ walk. ap (λ w. w.at) walk ∙ (λ i. (c.use_nothing.ensures i).at)) c.follow_nothing.ensures.walk
