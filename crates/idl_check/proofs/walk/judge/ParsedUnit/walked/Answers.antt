use Rattle.std.proofs.Common.{◌≤◌, sym, ap, ◌∙◌, arith}
use Rattle.std.proofs.lemmas.Result.{IfOk-weaker}
use Rattle.idl_check.proofs.Visits.JudgeLemmas.{judged_faulty, judged_from, judged_sound}
use Rattle.idl_check.proofs.Visits.VisitLemmas.{runs_over}
use Rattle.idl_check.specs.walk.Held.{held}
use Rattle.idl_check.specs.walk.Walk.{walk}
use Rattle.idl_env.specs.Facts.{answers}
use Rattle.idl_env.specs.Turns.{turns_for}
use Rattle.idl_check.proofs.walk.judge.ParsedUnit.walked.Goals as goal

pub sound-requires : goal.sound-requires
sound-requires c = record { sites = c.requires.sites; room = omega (arith, c.requires.room) }

pub returns-in-Some : goal.returns-in-Some
returns-in-Some c =
    let bank = answers c.args.self.judge.env.now in
    let tokens = c.args.self.judge.tokens.now in
    let scopes = c.args.self.judge.scopes.now in
    let tree = c.args.self.tree.now in
    let from = held c.args.walker.now in
    let w = held c.walk.new.self in
    let log = c.args.log.now in
    let after = c.walk.new.log in
    IfOk-weaker c.refused.result _ _
    (λ v given turns more.
    let enough : turns_for c.args.walker.now.env.now ≤ turns = rw c.requires.env more in
    let gives = c.in_ok-walk.ensures.walked turns enough ∙ (λ i. runs_over (answers (c.requires.env i)) (walk turns (c.requires.sites i) from) log) in
    given ∙ ap (λ q. runs_over bank q after) (sym (judged_faulty bank turns tokens scopes tree w c.in-Some.fault c.in-Some.is))
    ∙ sym (judged_from bank turns tokens scopes tree log from w after gives))
    c.refused.ensures

pub returns-in-None : goal.returns-in-None
returns-in-None c =
    let bank = answers c.args.self.judge.env.now in
    let tokens = c.args.self.judge.tokens.now in
    let scopes = c.args.self.judge.scopes.now in
    let tree = c.args.self.tree.now in
    let from = held c.args.walker.now in
    let w = held c.walk.new.self in
    let log = c.args.log.now in
    let after = c.walk.new.log in
    IfOk-weaker c.sound.result _ _
    (λ v given turns more.
    let enough : turns_for c.args.walker.now.env.now ≤ turns = rw c.requires.env more in
    let gives = c.in_ok-walk.ensures.walked turns enough ∙ (λ i. runs_over (answers (c.requires.env i)) (walk turns (c.requires.sites i) from) log) in
    given ∙ ap (λ q. runs_over bank q after) (sym (judged_sound bank turns tokens scopes tree w c.in-None.is))
    ∙ sym (judged_from bank turns tokens scopes tree log from w after gives))
    c.sound.ensures
