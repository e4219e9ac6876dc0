use Rattle.std.proofs.lemmas.Result.{IfOk-weaker}
use Rattle.idl_prep.proofs.WalkLaws.WalkLemmas.{to_come-stray-outside}
use Rattle.idl_prep.proofs.walk.stray.stray_outside.Goals as goal

pub returns : goal.returns
returns g c = IfOk-weaker c.stray.result _ _ (λ _ strayed bank enter lines.
    to_come-stray-outside bank enter c.args.file.now c.args.directive.now lines c.args.root.now c.stray.new.root c.requires (strayed bank enter)) c.stray.ensures
