use Rattle.std.proofs.lemmas.Result.{IfOk-weaker}
use Rattle.idl_prep.proofs.WalkLaws.WalkLemmas.{to_come-stray}
use Rattle.idl_prep.proofs.walk.stray.stray_inside.Goals as goal

pub returns : goal.returns
returns g c = IfOk-weaker c.stray.result _ _ (λ _ strayed bank enter gs lines.
    to_come-stray bank enter c.args.file.now c.args.directive.now lines c.args.group.now gs c.args.root.now c.stray.new.root
    c.requires.branch c.requires.has_else (strayed bank enter)) c.stray.ensures
