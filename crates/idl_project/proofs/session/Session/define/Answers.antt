use Rattle.std.proofs.Common.{◌≡◌, ◌∙◌, ℕ, List, ◌∷◌, [], None, Some, refl, ap, sym, subst}
use Rattle.std.specs.Map.{keys_of}
use Rattle.std.specs.Result.{result_err}
use Rattle.std.specs.Str.{bytes_eq}
use Rattle.indexmap.specs.IndexMap.{insert_entry}
use Rattle.idl_event.specs.declared.asked.key.RootAnswer.TheVariants as answers
use Rattle.idl_event.specs.declared.asked.key.RootKey.TheVariants as keys
use Rattle.idl_inputs.specs.Edits.{Define, after, macros_with}
use Rattle.idl_inputs.specs.Bank.{bank_of}
use Rattle.idl_inputs.specs.Project.{Inputs, Project}
use Rattle.idl_project.specs.UpToDate.{IsUpToDate, State}
use Rattle.idl_inputs.proofs.EditLemmas.{define-accepted, define-refused}
use Rattle.idl_inputs.proofs.FormLemmas.{after-formed}
use Rattle.idl_project.proofs.RootLemmas.{IsKeeperLeft-discarded, IsUpToDate-edited, IsUpToDate-left, work-edited}
use Rattle.idl_project.proofs.session.Session.define.Goals as goal

pub returns-in-Some : goal.returns-in-Some
returns-in-Some c =
    let project : Project = record { inputs = c.self.inside.bank; roots = keys_of c.self.inside.roots } in
    let word = c.in_ok-word.word in
    record {
      unchanged = refl;
      least = λ other.
          ap (λ (state : State). after state.project (Define c.args.word.now c.args.body)) (sym c.self.view_is)
          ∙ ap (λ w. after project (Define w c.args.body)) (sym c.in_ok-word.ensures)
          ∙ define-refused project word c.args.body c.in-Some.refusal c.in-Some.ensures;
      memory = λ is. refl;
    }

pub invariant_of-self : goal.invariant_of-self
invariant_of-self c = IsUpToDate-left c.self.inside.bank c.self.inside.roots c.self.inside.keeper c.renewed.new.keeper c.self.invariant c.in_err-renewed.ensures.err

pub invariant_of-self-in-Err : goal.invariant_of-self-in-Err
invariant_of-self-in-Err c =
    let left = IsKeeperLeft-discarded (bank_of c.self.inside.bank) (keys_of c.self.inside.roots) c.self.inside.keeper c.renewed.new.keeper c.discard.new.self
    c.self.invariant.texts c.self.invariant.entries c.renewed.ensures.lists c.discard.ensures.texts c.discard.ensures.entries in
    subst (λ (inputs : Inputs). IsUpToDate inputs c.self.inside.roots c.discard.new.self) (sym c.in-Err.ensures.err)
    (IsUpToDate-left c.self.inside.bank c.self.inside.roots c.self.inside.keeper c.discard.new.self c.self.invariant left)

pub invariant_of-self-2 : goal.invariant_of-self-2
invariant_of-self-2 c =
    let project : Project = record { inputs = c.self.inside.bank; roots = keys_of c.self.inside.roots } in
    let new : Project = record { inputs = c.define.new.self; roots = keys_of c.in_ok-renewed.renewed.0 } in
    let word = c.in_ok-word.word in
    let none : None ≡ result_err (macros_with project.inputs.macros word c.args.body) = c.in_default.ensures in
    let is = define-accepted project word c.args.body c.define.new.self new.roots none
    (c.in_default-define.ensures.ok ∙ ap (λ (b : List ℕ). record project.inputs { macros = insert_entry bytes_eq project.inputs.macros word b }) c.in_ok-body.ensures)
    c.in_ok-renewed.ensures.renewed.roots in
    IsUpToDate-edited c.self.inside.bank c.define.new.self c.self.inside.roots c.in_ok-renewed.renewed c.renewed.new.keeper c.commit.new.self _ (keys.Macro word)
    (Some c.answer.result.now) (Some (answers.Macro (c.in_ok-body.body ∷ [])))
    c.in_ok-renewed.ensures.renewed c.commit.ensures.texts c.commit.ensures.entries (ap keys.Macro c.in_ok-clone.ensures.cases) (ap Some c.answer.ensures) c.in_default-define.ensures.bank
    (after-formed project new (Define word c.args.body) c.self.invariant.formed is)

pub returns : goal.returns
returns c =
    let project : Project = record { inputs = c.self.inside.bank; roots = keys_of c.self.inside.roots } in
    let word = c.in_ok-word.word in
    let none : None ≡ result_err (macros_with project.inputs.macros word c.args.body) = c.in_default.ensures in
    let both = work-edited c.args.self.now c.self.inside.bank c.define.new.self c.self.inside.roots c.in_ok-renewed.renewed c.renewed.new.keeper _ (keys.Macro word) (Some c.answer.result.now) (Some (answers.Macro (c.in_ok-body.body ∷ []))) c.self.inside.work c.self.inside.touched c.self.view_is c.in_ok-renewed.ensures.renewed (ap keys.Macro c.in_ok-clone.ensures.cases) (ap Some c.answer.ensures) c.in_default-define.ensures.bank in
    record {
      project =
          ap (λ (state : State). after state.project (Define c.args.word.now c.args.body)) (sym c.self.view_is)
          ∙ ap (λ w. after project (Define w c.args.body)) (sym c.in_ok-word.ensures)
          ∙ define-accepted project word c.args.body c.define.new.self (keys_of c.in_ok-renewed.renewed.0) none
          (c.in_default-define.ensures.ok ∙ ap (λ (b : List ℕ). record project.inputs { macros = insert_entry bytes_eq project.inputs.macros word b }) c.in_ok-body.ensures)
          c.in_ok-renewed.ensures.renewed.roots;
      kept = refl;
      told = both.0;
      touched = both.1;
    }
