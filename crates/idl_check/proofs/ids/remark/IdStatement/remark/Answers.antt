use Rattle.std.proofs.Common.{[], ◌∷◌, None, Some, sym, ap, ◌∙◌}
use Rattle.std.proofs.lemmas.Result.{IfOk-weaker}
use Rattle.idl_check.proofs.PragmaLaws.PragmaLemmas.{about-known, about-none, identified-by}
use Rattle.idl_check.proofs.PragmaLaws.RemarkLemmas.{unless-refused}
use Rattle.idl_check.specs.ids.About.{said_at}
use Rattle.idl_check.specs.ids.Remarks.{is_bad_id, unless}
use Rattle.idl_check.specs.tables.Rules.{has_id}
use Rattle.idl_check.specs.walk.Held.{fixed_by}
use Rattle.idl_env.specs.Facts.{answers}
use Rattle.idl_fault.specs.declared.code.Code.TheVariants.{NoRepositoryId}
use Rattle.idl_scope.proofs.LookupLaws.RunLemmas.{runs}
use Rattle.idl_scope.specs.Known.{known}
use Rattle.idl_unit.specs.TokenRules.{fault_at}
use Rattle.idl_check.proofs.ids.remark.IdStatement.remark.Goals as goal

pub returns-then-not-has_id : goal.returns-then-not-has_id
returns-then-not-has_id c = λ at.
    let own = c.args.view.own.now.additions in
    let bank = answers c.args.view.env.now in
    let e = c.args.entity.now in
    let change = fixed_by c.args.self in
    let log = c.args.log.now in
    let none = ap has_id (sym c.kind.ensures) ∙ sym c.has_id.ensures ∙ c.if-not-has_id.true in
    (λ i. (sym (unless-refused (is_bad_id change) (fault_at at NoRepositoryId ∷ [])) i, log))
    ∙ sym (identified-by own bank change at e log _ log (sym (about-none own bank change at e log none)))

pub returns-in-Some : goal.returns-in-Some
returns-in-Some c =
    let own = c.args.view.own.now.additions in
    let bank = answers c.args.view.env.now in
    let e = c.args.entity.now in
    let change = fixed_by c.args.self in
    let log = c.args.log.now in
    let after = c.known.new.log in
    let d = c.in-Some.identity in
    let some = ap has_id (sym c.kind.ensures) ∙ sym c.has_id.ensures ∙ c.if-not-has_id.false in
    let gives = (λ i. (sym c.in-Some.is i, after)) ∙ c.in_ok-found.ensures ∙ ap (λ path. runs own bank (known path) log) c.path-path.ensures in
    IfOk-weaker c.of_identity.result _ _
    (λ r told at.
    (λ i. (told at i, after))
    ∙ (λ i. (unless (is_bad_id change) (said_at at change (c.path-path.ensures i) d), after))
    ∙ sym (identified-by own bank change at e log _ after (sym (about-known own bank change at e log (Some d) after some gives))))
    c.of_identity.ensures

pub returns-in-None : goal.returns-in-None
returns-in-None c = λ at.
    let own = c.args.view.own.now.additions in
    let bank = answers c.args.view.env.now in
    let e = c.args.entity.now in
    let change = fixed_by c.args.self in
    let log = c.args.log.now in
    let after = c.known.new.log in
    let some = ap has_id (sym c.kind.ensures) ∙ sym c.has_id.ensures ∙ c.if-not-has_id.false in
    let gives = (λ i. (sym c.in-None.is i, after)) ∙ c.in_ok-found.ensures ∙ ap (λ path. runs own bank (known path) log) c.path-path.ensures in
    (λ i. (sym (unless-refused (is_bad_id change) []) i, after))
    ∙ sym (identified-by own bank change at e log _ after (sym (about-known own bank change at e log None after some gives)))
