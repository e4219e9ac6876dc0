use Rattle.std.proofs.Common.{◌+◌, ◌∷◌, [], sym, ◌∙◌}
use Rattle.std.proofs.lemmas.Result.{IfErr-at_err, IfOk-weaker}
use Rattle.std.specs.Prelude.{◌≤◌}
use Rattle.idl_check.proofs.PragmaLaws.PragmaLemmas.{name-first, told-spoken, verdict-faulty}
use Rattle.idl_check.specs.ids.About.{refused_for, with_faults}
use Rattle.idl_check.specs.ids.Remarks.{is_bad_id, remarked}
use Rattle.idl_check.specs.tables.Codes.{faults_by}
use Rattle.idl_check.specs.walk.Held.{fixed_by, said_of}
use Rattle.idl_check.specs.walk.Verdict.{pragma_verdict}
use Rattle.idl_env.specs.Facts.{answers}
use Rattle.idl_fault.specs.declared.code.Code.TheVariants.{BadIdText}
use Rattle.idl_tree.specs.NameParts.{last_at}
use Rattle.idl_unit.specs.declared.fault.Fault.{Fault}
use Rattle.idl_check.proofs.ids.pragmas.Speaker.about.Goals as goal

pub returns-in-Ok : goal.returns-in-Ok
returns-in-Ok c =
    let bank = answers c.args.self.env.now in
    let scopes = c.args.self.scopes.now in
    let name = c.args.name.now in
    let change = fixed_by c.args.statement in
    let log = c.args.log.now in
    let after = c.remark.new.log in
    let at = last_at 2 name in
    let more = faults_by (at + 1) ((is_bad_id change, BadIdText) ∷ []) in
    IfOk-weaker c.judged.result _ _
    (λ v gives turns enough.
    (λ i. (gives i, after))
    ∙ (λ i. (pragma_verdict (with_faults (faults_by (c.last_at.ensures i + 1) ((c.is_bad.ensures i, BadIdText) ∷ [])) (remarked (c.last_at.ensures i) c.in-Ok.remark)), after))
    ∙ (λ i. (pragma_verdict (with_faults more (said_of at (sym c.in-Ok.is i))), after))
    ∙ sym (told-spoken bank turns scopes name log change _ after (c.in_ok-remark.ensures.said turns enough)))
    c.judged.ensures

pub returns-in-Err : goal.returns-in-Err
returns-in-Err c =
    let bank = answers c.args.self.env.now in
    let scopes = c.args.self.scopes.now in
    let name = c.args.name.now in
    let change = fixed_by c.args.statement in
    let log = c.args.log.now in
    let after = c.remark.new.log in
    let at = last_at 2 name in
    let more = faults_by (at + 1) ((is_bad_id change, BadIdText) ∷ []) in
    let fault = c.in-Err.fault in
    let place = IfErr-at_err (λ (fault : Fault). fault.index ≤ at) c.in-Err.is c.in_ok-remark.ensures.place in
    IfOk-weaker c.adding.result _ _
    (λ v gives turns enough.
    (λ i. (gives i, after))
    ∙ (λ i. (sym (verdict-faulty (with_faults more (refused_for (fault ∷ []))) fault (name-first fault at (is_bad_id change) place)) i, after))
    ∙ (λ i. (pragma_verdict (with_faults more (said_of at (sym c.in-Err.is i))), after))
    ∙ sym (told-spoken bank turns scopes name log change _ after (c.in_ok-remark.ensures.said turns enough)))
    c.adding.ensures
