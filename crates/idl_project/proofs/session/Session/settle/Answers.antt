use Rattle.std.proofs.Common.{◌≡◌, ◌∙◌, refl, ap, subst, sym}
use Rattle.std.specs.Map.{keys_of}
use Rattle.idl_inputs.specs.Bank.{bank_of}
use Rattle.idl_inputs.specs.Project.{Inputs, Project, with_files}
use Rattle.idl_inputs.specs.Refiled.{AreRefiled, files_after, refiled}
use Rattle.idl_project.specs.UpToDate.{IsUpToDate, State}
use Rattle.idl_inputs.specs.WellFormed.{IsWellFormed}
use Rattle.idl_inputs.proofs.RefiledLemmas.{refiled-is}
use Rattle.idl_project.proofs.RootLemmas.{IsKeeperLeft-discarded, IsUpToDate-left, IsUpToDate-renewed, work-renewed}
use Rattle.idl_project.proofs.session.Session.settle.Goals as goal

pub invariant_of-self : goal.invariant_of-self
invariant_of-self c = IsUpToDate-left c.self.inside.bank c.self.inside.roots c.self.inside.keeper c.renewed.new.keeper c.self.invariant c.in_err-renewed.ensures.err

pub refile-requires : goal.refile-requires
refile-requires c = subst (λ (state : State). AreRefiled state.project.inputs c.args.edited) (sym c.self.view_is) c.requires.refiled

pub invariant_of-self-in-Err : goal.invariant_of-self-in-Err
invariant_of-self-in-Err c =
    let left = IsKeeperLeft-discarded (bank_of c.self.inside.bank) (keys_of c.self.inside.roots) c.self.inside.keeper c.renewed.new.keeper c.discard.new.self
    c.self.invariant.texts c.self.invariant.entries c.renewed.ensures.lists c.discard.ensures.texts c.discard.ensures.entries in
    subst (λ (inputs : Inputs). IsUpToDate inputs c.self.inside.roots c.discard.new.self) (sym c.in-Err.ensures.err)
    (IsUpToDate-left c.self.inside.bank c.self.inside.roots c.self.inside.keeper c.discard.new.self c.self.invariant left)

pub invariant_of-self-2 : goal.invariant_of-self-2
invariant_of-self-2 c =
    let bank : Inputs = c.self.inside.bank in
    let project : Project = record { inputs = bank; roots = keys_of c.self.inside.roots } in
    let files = files_after bank.files c.args.edited in
    let are : AreRefiled bank c.args.edited = subst (λ (state : State). AreRefiled state.project.inputs c.args.edited) (sym c.self.view_is) c.requires.refiled in
    let is : c.refile.new.self ≡ record bank { files = files } = c.in_default.ensures.ok in
    let formed : IsWellFormed (with_files project files) =
    subst (λ (state : State). IsWellFormed (with_files state.project (files_after state.project.inputs.files c.args.edited))) (sym c.self.view_is) c.requires.formed in
    IsUpToDate-renewed bank c.refile.new.self c.self.inside.roots c.in_ok-renewed.renewed c.renewed.new.keeper c.commit.new.self (refiled (bank_of bank) c.args.edited.answers.entries)
    c.in_ok-renewed.ensures.renewed c.commit.ensures.texts c.commit.ensures.entries
    (refiled-is bank c.args.edited are ∙ ap bank_of (sym is))
    (subst (λ (p : Project). IsWellFormed p) (λ i. record { inputs = sym is i; roots = sym c.in_ok-renewed.ensures.renewed.roots i }) formed)

pub returns-clause-ok : goal.returns-clause-ok
returns-clause-ok c =
    let bank : Inputs = c.self.inside.bank in
    let project : Project = record { inputs = bank; roots = keys_of c.self.inside.roots } in
    let files = files_after bank.files c.args.edited in
    let are : AreRefiled bank c.args.edited = subst (λ (state : State). AreRefiled state.project.inputs c.args.edited) (sym c.self.view_is) c.requires.refiled in
    let is : c.refile.new.self ≡ record bank { files = files } = c.in_default.ensures.ok in
    let both = work-renewed c.args.self.now bank c.refile.new.self c.self.inside.roots c.in_ok-renewed.renewed c.renewed.new.keeper (refiled (bank_of bank) c.args.edited.answers.entries)
    c.self.inside.work c.self.inside.touched c.self.view_is c.in_ok-renewed.ensures.renewed (refiled-is bank c.args.edited are ∙ ap bank_of (sym is)) in
    record {
      project =
          (λ i. record { inputs = is i; roots = c.in_ok-renewed.ensures.renewed.roots i })
          ∙ ap (λ (state : State). with_files state.project (files_after state.project.inputs.files c.args.edited)) c.self.view_is;
      kept = refl;
      told = both.0;
      touched = both.1;
    }
