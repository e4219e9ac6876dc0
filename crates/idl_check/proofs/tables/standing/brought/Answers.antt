use Rattle.std.proofs.Common.{◌+◌, arith, sym, ap, ◌∙◌, map}
use Rattle.std.specs.List.{list_any}
use Rattle.idl_check.proofs.StandingLemmas.{inherited_some}
use Rattle.idl_check.specs.tables.Declaring.{is_any}
use Rattle.idl_lex.specs.kinds.Keywords.{folded}
use Rattle.idl_memo.specs.Query.{noted}
use Rattle.idl_scope.proofs.LookupLaws.LookupLaws.{reached-more}
use Rattle.idl_scope.proofs.LookupLaws.RunLemmas.{runs}
use Rattle.idl_entity.specs.Entity.{is_operation}
use Rattle.idl_env.specs.Facts.{answers, entity_key}
use Rattle.idl_env.specs.keys.Key.{key_eq}
use Rattle.idl_scope.specs.Lookup.{bases_of, reached}
use Rattle.idl_entity.specs.Path.{name_of}
use Rattle.idl_check.proofs.tables.standing.brought.Goals as goal

pub returns : goal.returns
returns c = λ turns h.
    let own = c.args.view.own.now.additions in
    let bank = answers c.args.view.env.now in
    let s = c.args.scope.now in
    let n = folded (name_of c.args.path.now) in
    let log = c.args.log.now in
    let bases = c.bases_of.ensures ∙ ap bases_of c.in_ok-entity.ensures.entity in
    let logs = c.in_ok-entity.ensures.logged in
    let gives = c.in_ok-found.ensures (turns + 18446744073709551615) (omega arith) ∙ (λ i. runs own bank (reached (turns + 18446744073709551615) (c.in_ok-name.ensures i) (bases i)) (logs i))
    ∙ reached-more c.args.view.env.now own turns h 18446744073709551615 n s.path (noted key_eq bank log (entity_key s.path)) in
    let is = sym c.inherits.ensures ∙ c.if-not-inherits.false in
    let counts = c.has_operation.ensures ∙ ap (λ es. list_any is_operation (map (λ e. e.now) es)) c.as_slice.ensures.value in
    let some = c.is_any.ensures ∙ ap (λ es. is_any (map (λ e. e.now) es)) c.as_slice-2.ensures.value in
    (λ i. ((counts i, some i), c.reached.new.log))
    ∙ sym (inherited_some own bank turns s n log _ _ is gives)
