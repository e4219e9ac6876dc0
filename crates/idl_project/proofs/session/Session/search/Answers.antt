use Rattle.std.proofs.Common.{◌∙◌, ℕ, List, map, refl, ap, sym}
use Rattle.std.specs.Borrow.{Bor}
use Rattle.std.specs.Map.{keys_of}
use Rattle.idl_event.specs.declared.asked.key.RootKey.TheVariants as keys
use Rattle.idl_inputs.specs.Edits.{Search, after}
use Rattle.idl_inputs.specs.Project.{Project}
use Rattle.idl_project.specs.UpToDate.{State}
use Rattle.idl_inputs.proofs.EditLemmas.{search-accepted}
use Rattle.idl_inputs.proofs.FormLemmas.{after-formed}
use Rattle.idl_project.proofs.RootLemmas.{IsUpToDate-edited, IsUpToDate-left, work-edited}
use Rattle.idl_project.proofs.session.Session.search.Goals as goal

pub invariant_of-self : goal.invariant_of-self
invariant_of-self c = IsUpToDate-left c.self.inside.bank c.self.inside.roots c.self.inside.keeper c.renewed.new.keeper c.self.invariant c.in_err-renewed.ensures.err

pub invariant_of-self-2 : goal.invariant_of-self-2
invariant_of-self-2 c =
    let project : Project = record { inputs = c.self.inside.bank; roots = keys_of c.self.inside.roots } in
    let new : Project = record { inputs = c.set_search.new.self; roots = keys_of c.in_ok-renewed.renewed.0 } in
    let given : List (List ℕ) = map (λ (bytes : Bor (List ℕ)). bytes.now) c.args.list.now in
    let is = search-accepted project given c.in_ok-list.list.items c.set_search.new.self new.roots c.in_ok-list.ensures.ok
    (c.set_search.ensures.set ∙ ap (λ (list : List (List ℕ)). record project.inputs { search = list }) c.from_vec.ensures)
    c.in_ok-renewed.ensures.renewed.roots in
    IsUpToDate-edited c.self.inside.bank c.set_search.new.self c.self.inside.roots c.in_ok-renewed.renewed c.renewed.new.keeper c.commit.new.self keys.Search keys.Search _ _
    c.in_ok-renewed.ensures.renewed c.commit.ensures.texts c.commit.ensures.entries refl refl c.set_search.ensures.bank (after-formed project new (Search given) c.self.invariant.formed is)

pub returns : goal.returns
returns c =
    let project : Project = record { inputs = c.self.inside.bank; roots = keys_of c.self.inside.roots } in
    let given : List (List ℕ) = map (λ (bytes : Bor (List ℕ)). bytes.now) c.args.list.now in
    let both = work-edited c.args.self.now c.self.inside.bank c.set_search.new.self c.self.inside.roots c.in_ok-renewed.renewed c.renewed.new.keeper keys.Search keys.Search _ _ c.self.inside.work c.self.inside.touched c.self.view_is c.in_ok-renewed.ensures.renewed refl refl c.set_search.ensures.bank in
    record {
      project =
          ap (λ (state : State). after state.project (Search given)) (sym c.self.view_is)
          ∙ search-accepted project given c.in_ok-list.list.items c.set_search.new.self (keys_of c.in_ok-renewed.renewed.0) c.in_ok-list.ensures.ok
          (c.set_search.ensures.set ∙ ap (λ (list : List (List ℕ)). record project.inputs { search = list }) c.from_vec.ensures)
          c.in_ok-renewed.ensures.renewed.roots;
      kept = refl;
      told = both.0;
      touched = both.1;
    }
