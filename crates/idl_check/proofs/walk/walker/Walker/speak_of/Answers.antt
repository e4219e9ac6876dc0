use Rattle.std.proofs.Common.{ℕ, ◌≤◌, ◌+◌, ◌∷◌, ◌++◌, [], length, subst, sym, ap, ◌∙◌, arith}
use Rattle.std.proofs.lemmas.Result.{on_ok_weaker}
use Rattle.std.specs.Prelude.{fold}
use Rattle.idl_check.proofs.PartLemmas.{part-within}
use Rattle.idl_check.proofs.Visits.VisitLemmas.{runs_over, spoken_by, turns-here, unspoken_by}
use Rattle.idl_check.specs.ids.Remarks.{remark, remarked}
use Rattle.idl_check.specs.walk.Held.{held}
use Rattle.idl_tree.specs.NameParts.{last_at}
use Rattle.idl_check.specs.walk.Walk.{noted_in, turns_at, unspoken_visit}
use Rattle.idl_entity.specs.declared.entity.Entity.{Entity}
use Rattle.idl_env.specs.Facts.{answers, with_addition}
use Rattle.idl_scope.specs.Lookup.{denoted, under}
use Rattle.idl_scope.specs.declared.fault.NameFault.TheVariants.{At}
use Rattle.idl_env.specs.Turns.{turns_among, turns_for}
use Rattle.idl_check.proofs.walk.walker.Walker.speak_of.Goals as goal

pub use_nothing-requires-clause-part : goal.use_nothing-requires-clause-part
use_nothing-requires-clause-part c =
    let asked = rw c.in-Err-At.field-0-is at c.in-Err-At.ensures.asked in
    let name = c.args.name.now in
    let within =
    part-within c.args.self.now.own.additions (answers c.args.self.now.env.now) (turns_for c.args.self.now.env.now + turns_among c.args.self.now.own.additions) c.scopes.result.now name c.args.log.now c.resolve.new.log
    c.in-Err-At.code c.in-Err-At.part (asked (turns_for c.args.self.now.env.now + turns_among c.args.self.now.own.additions) (omega arith)) in
    subst (λ (part : ℕ). part ≤ length name.rest) (sym c.in-Err-At.part-is) within

pub returns-in_ok-remark-in-Ok-clause-run : goal.returns-in_ok-remark-in-Ok-clause-run
returns-in_ok-remark-in-Ok-clause-run c = on_ok_weaker c.take_remark.result (λ visit turns more.
    let w = held c.args.self.now in
    let bank = answers c.args.self.now.env.now in
    let purpose = c.args.purpose in
    let name = c.args.name.now in
    let log = c.args.log.now in
    let found = c.in-Ok.found in
    let middle = c.resolve.new.log in
    let after = c.remark.new.log in
    let at = last_at w.at name in
    let s = remarked at c.in_ok-remark-in-Ok.remark in
    let gives = c.in-Ok.ensures.asked (turns_at turns w) (turns-here c.args.self.now.env.now w.own turns more) ∙ ap (λ cursor. runs_over bank (under w.own (denoted (turns_at turns w) cursor name)) log) c.scopes.ensures.value in
    let said = c.in_ok-remark-in-Ok.ensures at
    ∙ (λ i. runs_over (answers (c.view.ensures.env i)) (under (c.view.ensures.own i).additions (remark (c.text_for-text.ensures.purpose i) at (c.text_for-text.ensures.text i) (c.get-entity.ensures i))) middle) in
    let path = c.path.ensures ∙ ap (λ (e : Entity). e.path) c.get-entity.ensures in
    (λ i. (visit i, after))
    ∙ (λ i. (
      noted_in (record {
        faults = s.faults;
        after = record w { at = at + 1; own = fold with_addition w.own s.additions; found = w.found ++ path i ∷ [] };
      }) w.fault,
      after,
    ))
    ∙ sym (spoken_by bank turns purpose name w log found middle s after gives said))
    c.take_remark.ensures.visit

pub returns-in_ok-remark-in-Ok-clause-at : goal.returns-in_ok-remark-in-Ok-clause-at
returns-in_ok-remark-in-Ok-clause-at c = on_ok_weaker c.take_remark.result (λ visit. ap (λ w. w.at) visit) c.take_remark.ensures.visit

pub returns-in-Err-At-clause-run : goal.returns-in-Err-At-clause-run
returns-in-Err-At-clause-run c = λ turns more.
    let w = held c.args.self.now in
    let bank = answers c.args.self.now.env.now in
    let purpose = c.args.purpose in
    let name = c.args.name.now in
    let log = c.args.log.now in
    let after = c.resolve.new.log in
    let asked = rw c.in-Err-At.field-0-is at c.in-Err-At.ensures.asked in
    let gives = asked (turns_at turns w) (turns-here c.args.self.now.env.now w.own turns more) ∙ ap (λ cursor. runs_over bank (under w.own (denoted (turns_at turns w) cursor name)) log) c.scopes.ensures.value in
    (λ i. (held (c.use_nothing.ensures i), after))
    ∙ (λ i. (noted_in (unspoken_visit w name (At (c.in-Err-At.code-is i) (c.in-Err-At.part-is i))) w.fault, after))
    ∙ sym (unspoken_by bank turns purpose name w log (At c.in-Err-At.code c.in-Err-At.part) after gives)
