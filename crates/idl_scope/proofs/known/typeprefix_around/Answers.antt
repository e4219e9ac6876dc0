use Rattle.std.proofs.Common.{◌∙◌, ap, sym}
use Rattle.std.proofs.lemmas.Result.{IfOk-weaker}
use Rattle.idl_memo.specs.Query.{asked, noted_all, run}
use Rattle.idl_env.specs.Facts.{answers}
use Rattle.idl_env.specs.keys.Key.{key_eq}
use Rattle.idl_scope.specs.Known.{typeprefix_around}
use Rattle.idl_scope.proofs.KnownLemmas.{typeprefix_none}
use Rattle.idl_scope.proofs.LookupLaws.RunLemmas.{under-nothing}
use Rattle.idl_scope.proofs.known.typeprefix_around.Goals as goal

pub returns-then-has_typeprefixes : goal.returns-then-has_typeprefixes
returns-then-has_typeprefixes c =
    let bank = answers c.args.env.now in
    IfOk-weaker c.typeprefix_over.result _ _
    (λ text same. same ∙ ap (λ q. run key_eq q bank c.args.log.now) (under-nothing (typeprefix_around c.args.path.now)))
    c.typeprefix_over.ensures

pub returns-then-note_asked : goal.returns-then-note_asked
returns-then-note_asked c =
    let bank = answers c.args.env.now in
    let path = c.args.path.now in
    let none = typeprefix_none bank (c.has_typeprefixes.ensures c.if-has_typeprefixes.false) path in
    λ i. (sym none i, c.note_asked.ensures.all c.if-note_asked.true i)

pub note_outward-requires : goal.note_outward-requires
note_outward-requires c = c.has_typeprefixes.ensures c.if-has_typeprefixes.false

pub returns : goal.returns
returns c =
    let bank = answers c.args.env.now in
    let path = c.args.path.now in
    let none = typeprefix_none bank (c.has_typeprefixes.ensures c.if-has_typeprefixes.false) path in
    let same = c.note_asked.ensures.none c.if-note_asked.false in
    λ i. (sym none i, (c.in_ok-note_outward.ensures ∙ ap (λ log. noted_all key_eq bank log (asked (typeprefix_around path) bank)) same) i)
