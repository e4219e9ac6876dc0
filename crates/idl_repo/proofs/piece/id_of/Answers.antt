use Rattle.std.proofs.Common.{◌∙◌, ap}
use Rattle.std.specs.Option.{option_copied}
use Rattle.idl_memo.specs.Query.{noted, run}
use Rattle.idl_env.specs.Facts.{answers, id_at}
use Rattle.idl_env.specs.keys.Key.{key_eq}
use Rattle.idl_scope.specs.Known.{typeprefix_around}
use Rattle.idl_repo.proofs.WriteLemmas.{id-run}
use Rattle.idl_repo.proofs.piece.id_of.Goals as goal

pub returns : goal.returns
returns c =
    let bank = answers c.args.env.now in
    let path = c.args.path.now in
    let log = c.args.log.now in
    let typeprefix = option_copied c.in_ok-typeprefix.typeprefix in
    let answer = c.in_ok-answer.ensures.answer ∙ ap bank c.id_of-key.ensures in
    let logged = c.in_ok-answer.ensures.logged ∙ ap (noted key_eq bank log) c.id_of-key.ensures in
    let found = c.in_ok-typeprefix.ensures ∙ ap (run key_eq (typeprefix_around path) bank) logged in
    (λ i. (id_at path typeprefix (answer i), c.typeprefix_around.new.log))
    ∙ id-run bank path log _ typeprefix found
