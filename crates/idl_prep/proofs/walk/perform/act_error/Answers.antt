use Rattle.std.proofs.Common.{ℕ, List, Some, ap, ◌∙◌}
use Rattle.std.proofs.lemmas.Result.{IfOk-weaker}
use Rattle.idl_fault.specs.declared.code.Code.TheVariants.{Error}
use Rattle.idl_event.specs.declared.told.event.Event.TheVariants.{Fault}
use Rattle.idl_event.specs.declared.told.event.Item.TheVariants.{Kept}
use Rattle.idl_fault.specs.declared.place.Place.{Place}
use Rattle.idl_lex.specs.tokens.Tokens.{tokens_in}
use Rattle.idl_prep.specs.Directive.{parted}
use Rattle.idl_prep.specs.Place.{place_in}
use Rattle.idl_prep.specs.State.{telling}
use Rattle.idl_prep.proofs.walk.perform.act_error.Goals as goal

pub returns : goal.returns
returns g c = IfOk-weaker c.fault.result _ _ (λ _ told.
    let root = c.args.root.now in
    told
    ∙ ap (λ (place : Place). telling (Kept (Fault place Error (Some c.in_ok-text.text))) root) c.in_ok-place.ensures
    ∙ ap (λ (text : List ℕ). telling (Kept (Fault (place_in c.args.file.now c.args.directive.now) Error (Some text))) root)
    (c.in_ok-text.ensures ∙ ap parted (c.as_slice.ensures ∙ ap tokens_in c.tokens.ensures))) c.fault.ensures
