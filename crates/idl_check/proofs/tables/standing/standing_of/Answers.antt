use Rattle.std.proofs.Common.{sym, ap, ◌∙◌}
use Rattle.std.specs.Prelude.{is_some}
use Rattle.idl_memo.specs.Query.{and_then, noted}
use Rattle.idl_check.proofs.StandingLemmas.{counted, standing_by}
use Rattle.idl_check.specs.tables.Declaring.{inherited}
use Rattle.idl_check.specs.ids.Identifying.{ids_of}
use Rattle.idl_lex.specs.kinds.Keywords.{folded}
use Rattle.idl_scope.proofs.LookupLaws.RunLemmas.{runs, seen_at}
use Rattle.idl_env.specs.Facts.{answers, entity_in, entity_key}
use Rattle.idl_env.specs.keys.Key.{key_eq}
use Rattle.idl_entity.specs.Path.{name_of}
use Rattle.idl_env.specs.declared.keys.key.Key.TheVariants.{Declared, Introduced}
use Rattle.idl_check.proofs.tables.standing.standing_of.Goals as goal

pub returns : goal.returns
returns c = λ turns h.
    let own = c.args.view.own.now.additions in
    let bank = answers c.args.view.env.now in
    let s = c.args.scope.now in
    let e = c.args.new.now in
    let log = c.args.log.now in
    let n = folded (name_of e.path) in
    let there = c.in_ok-there.ensures.there
    ∙ (λ i. entity_in (seen_at own bank (entity_key (c.path.ensures i))))
    ∙ ap (λ p. entity_in (seen_at own bank (Declared n p))) c.requires in
    let is_used = c.in_ok-is_used.ensures.used ∙ (λ i. is_some (seen_at own bank (Introduced (folded (name_of (c.path-2.ensures i))) s.path s.body))) in
    let logged = c.in_ok-there.ensures.logged ∙ (λ i. noted key_eq bank log (entity_key (c.path.ensures i))) ∙ ap (λ p. noted key_eq bank log (Declared n p)) c.requires in
    let logs = c.in_ok-is_used.ensures.logged ∙ (λ i. noted key_eq bank (logged i) (Introduced (folded (name_of (c.path-2.ensures i))) s.path s.body)) in
    let last = c.in_ok-brought.ensures turns h ∙ (λ i. runs own bank (and_then (inherited turns s (folded (name_of (c.path-3.ensures i)))) counted) (logs i)) in
    let told = c.in_ok-ids.ensures ∙ ap (λ t. runs own bank (ids_of t e) c.brought.new.log) there in
    (λ i. (
      record {
        there = there i;
        is_used = is_used i;
        brings_operation = c.in_ok-brought.brought.0;
        is_reached = c.in_ok-brought.brought.1;
        ids = c.in_ok-ids.ids;
      },
      c.ids_of.new.log,
    ))
    ∙ sym (standing_by own bank turns s e log c.in_ok-brought.brought c.brought.new.log c.in_ok-ids.ids c.ids_of.new.log last told)
