use Rattle.std.proofs.lemmas.Result.{IfOk-weaker}
use Rattle.idl_prep.proofs.WalkLaws.WalkLemmas.{to_come-endif, to_come-endif-skipped}
use Rattle.idl_prep.proofs.walk.branch.end_group.Goals as goal

pub returns-then-not-group : goal.returns-then-not-group
returns-then-not-group g c = λ bank enter gs lines.
    to_come-endif-skipped bank enter c.args.file.now c.args.directive.now lines c.args.group.now gs c.args.root.now c.requires c.if-not-group.true

pub returns : goal.returns
returns g c = IfOk-weaker c.turn.result _ _ (λ _ turned bank enter gs lines.
    to_come-endif bank enter c.args.file.now c.args.directive.now lines c.args.group.now gs c.args.root.now c.turn.new.self c.requires c.if-not-group.false turned) c.turn.ensures
