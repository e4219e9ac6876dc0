use Rattle.std.proofs.Common.{◌∙◌, None, refl, ap, sym}
use Rattle.std.specs.Map.{keys_of}
use Rattle.idl_event.specs.declared.asked.key.RootKey.TheVariants as keys
use Rattle.idl_macro.specs.Words.{is_macro_word}
use Rattle.idl_inputs.specs.Edits.{Undef, after}
use Rattle.idl_inputs.specs.Project.{Project}
use Rattle.idl_project.specs.UpToDate.{State}
use Rattle.idl_inputs.proofs.EditLemmas.{undef-accepted}
use Rattle.idl_inputs.proofs.FormLemmas.{after-formed}
use Rattle.idl_project.proofs.RootLemmas.{IsUpToDate-edited, IsUpToDate-left, work-edited}
use Rattle.idl_project.proofs.session.Session.undef.Goals as goal

pub invariant_of-self : goal.invariant_of-self
invariant_of-self c = IsUpToDate-left c.self.inside.bank c.self.inside.roots c.self.inside.keeper c.renewed.new.keeper c.self.invariant c.in_err-renewed.ensures.err

pub invariant_of-self-2 : goal.invariant_of-self-2
invariant_of-self-2 c =
    let project : Project = record { inputs = c.self.inside.bank; roots = keys_of c.self.inside.roots } in
    let new : Project = record { inputs = c.undef.new.self; roots = keys_of c.in_ok-renewed.renewed.0 } in
    let word = c.in_ok-word.word in
    let is = undef-accepted project word c.undef.new.self new.roots (ap is_macro_word c.in_ok-word.ensures ∙ sym c.is_macro_word.ensures ∙ c.if-not-is_macro_word.false) c.undef.ensures.left
    c.in_ok-renewed.ensures.renewed.roots in
    IsUpToDate-edited c.self.inside.bank c.undef.new.self c.self.inside.roots c.in_ok-renewed.renewed c.renewed.new.keeper c.commit.new.self _ (keys.Macro word) _ None
    c.in_ok-renewed.ensures.renewed c.commit.ensures.texts c.commit.ensures.entries (ap keys.Macro c.in_ok-clone.ensures.cases) c.as_ref-answer.ensures.value c.undef.ensures.bank (after-formed project new (Undef word) c.self.invariant.formed is)

pub returns : goal.returns
returns c =
    let project : Project = record { inputs = c.self.inside.bank; roots = keys_of c.self.inside.roots } in
    let word = c.in_ok-word.word in
    let both = work-edited c.args.self.now c.self.inside.bank c.undef.new.self c.self.inside.roots c.in_ok-renewed.renewed c.renewed.new.keeper _ (keys.Macro word) _ None c.self.inside.work c.self.inside.touched c.self.view_is c.in_ok-renewed.ensures.renewed (ap keys.Macro c.in_ok-clone.ensures.cases) c.as_ref-answer.ensures.value c.undef.ensures.bank in
    record {
      project =
          ap (λ (state : State). after state.project (Undef c.args.word.now)) (sym c.self.view_is)
          ∙ ap (λ w. after project (Undef w)) (sym c.in_ok-word.ensures)
          ∙ undef-accepted project word c.undef.new.self (keys_of c.in_ok-renewed.renewed.0) (ap is_macro_word c.in_ok-word.ensures ∙ sym c.is_macro_word.ensures ∙ c.if-not-is_macro_word.false)
          c.undef.ensures.left
          c.in_ok-renewed.ensures.renewed.roots;
      kept = refl;
      told = both.0;
      touched = both.1;
    }
