-- A unit's result more.
use Rattle.std.proofs.Common.{◌∷◌, [], subst}
use Rattle.std.specs.Prelude.{OnOk}
use Rattle.idl_env.specs.Facts.{answers}
use Rattle.idl_kept.proofs.Drafts.{obtained-kept}
use Rattle.idl_kept.specs.Texts.{Texts}
use Rattle.idl_memo.specs.declared.task.TaskKind.TheVariants.{Check}
use Rattle.idl_root_blocks.specs.Places.{DeclarationPlace, declaration_result}
use Rattle.idl_store.specs.Obtained.{IsObtained}
use Rattle.idl_store.specs.Stored.{results_in}
use Rattle.idl_kept.proofs.texts.KeptTexts.obtain.Goals as goal

pub returns-clause-meter : goal.returns-clause-meter
returns-clause-meter c =
    let here : DeclarationPlace = (c.args.task.now.text, answers c.args.env.now) in
    subst (λ (t : Texts). OnOk c.obtain.result (IsObtained here (declaration_result here) Check (results_in t.declarations) c.args.meter.now c.obtain.new.meter)) c.self.view_is c.obtain.ensures.meter

pub invariant_of-self : goal.invariant_of-self
invariant_of-self c =
    let texts : Texts = record { declarations = c.self.inside.declarations; blocks = c.self.inside.blocks; begins = c.self.inside.begins } in
    obtained-kept c.obtain.result texts c.obtain.new.self (declaration_result (c.args.task.now.text, answers c.args.env.now) ∷ []) c.obtain.ensures.ok c.obtain.ensures.err c.self.invariant
