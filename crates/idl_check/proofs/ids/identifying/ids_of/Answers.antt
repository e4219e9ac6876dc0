use Rattle.std.proofs.Common.{◌∙◌, Some, sym, ap}
use Rattle.idl_check.proofs.StandingLemmas.{ids_by}
use Rattle.idl_check.specs.ids.Identifying.{id_before}
use Rattle.idl_check.specs.tables.Rules.{has_id}
use Rattle.idl_env.specs.Facts.{answers}
use Rattle.idl_scope.proofs.LookupLaws.RunLemmas.{runs}
use Rattle.idl_check.proofs.ids.identifying.ids_of.Goals as goal

pub returns : goal.returns
returns c =
    let own = c.args.view.own.now.additions in
    let bank = answers c.args.view.env.now in
    let there = c.args.there.now in
    let e = c.args.new.now in
    let before = c.in_ok-before.before in
    let after = c.id_before.new.log in
    let is = ap has_id (sym c.kind.ensures) ∙ sym c.has_id.ensures ∙ c.if-not-has_id.false in
    let found = c.in_ok-before.ensures ∙ ap (runs own bank (id_before there)) c.in_ok-prefix.ensures.logged in
    (λ i. (Some (record { prefix = c.in_ok-prefix.ensures.prefix i; before = before }), after))
    ∙ sym (ids_by own bank there e c.args.log.now before after is found)
