use Rattle.std.proofs.Common.{◌∙◌, sym, ap}
use Rattle.std.proofs.lemmas.Result.{IfOk-weaker}
use Rattle.std.specs.Option.{option_copied}
use Rattle.idl_memo.specs.Query.{Done, noted}
use Rattle.idl_env.specs.Facts.{answers, identity_in, over}
use Rattle.idl_env.specs.keys.Key.{key_eq}
use Rattle.idl_env.specs.declared.keys.key.Key.TheVariants.{IdOf}
use Rattle.idl_scope.specs.Known.{typeprefix_around}
use Rattle.idl_scope.proofs.LookupLaws.RunLemmas.{runs, runs-and_then, seen_at}
use Rattle.idl_scope.proofs.lookup.View.known.Goals as goal

pub returns : goal.returns
returns c =
    let own = c.args.self.own.now.additions in
    let bank = answers c.args.self.env.now in
    let path = c.args.path.now in
    let key = c.id_of-key.ensures in
    let logged = c.in_ok-before.ensures.logged ∙ ap (noted key_eq bank c.args.log.now) key in
    let answer = ap (over own c.id_of-key.result) c.in_ok-before.ensures.answer ∙ ap (λ k. over own k (bank k)) key in
    let found = c.in_ok-typeprefix.ensures ∙ ap (runs own bank (typeprefix_around path)) logged in
    IfOk-weaker c.identified.result _ _
    (λ d told.
    (λ i. ((told ∙ ap (identity_in (option_copied c.in_ok-typeprefix.typeprefix)) answer) i, c.typeprefix_over.new.log))
    ∙ sym (runs-and_then own bank (typeprefix_around path) (λ typeprefix. Done (identity_in typeprefix (seen_at own bank (IdOf path)))) (noted key_eq bank c.args.log.now (IdOf path)) _ _ found))
    c.identified.ensures
