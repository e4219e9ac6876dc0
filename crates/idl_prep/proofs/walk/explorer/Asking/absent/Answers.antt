use Rattle.std.proofs.Common.{ap, ◌∙◌}
use Rattle.std.proofs.lemmas.Result.{IfOk-weaker}
use Rattle.idl_prep.specs.Root.{absent_files}
use Rattle.idl_prep.proofs.walk.explorer.Asking.absent.Goals as goal

pub returns : goal.returns
returns g c =
    IfOk-weaker c.absent.result _ _ (λ _ are. are ∙ ap absent_files (c.in_ok-kept.ensures.kept ∙ c.into_parts-events.ensures.log)) c.absent.ensures
