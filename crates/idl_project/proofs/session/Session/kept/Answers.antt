use Rattle.std.proofs.Common.{◌≡◌, ◌∙◌, List, [], ℕ, Option, None, Bor, sym, ap, subst}
use Rattle.std.proofs.lemmas.Bool.{cond-false, false≢true}
use Rattle.std.specs.List.{list_any}
use Rattle.std.specs.Map.{keys_of, lookup}
use Rattle.std.specs.Option.{IfNone, IfSome, option_copied, option_map}
use Rattle.std.specs.Str.{bytes_eq}
use Rattle.idl_inputs.specs.Asked.{asked_files, asked_of}
use Rattle.idl_inputs.specs.Bank.{bank_of}
use Rattle.idl_project.specs.Details.{details_of, expansion_of}
use Rattle.idl_project.specs.UpToDate.{State}
use Rattle.idl_project.specs.declared.kept_root.KeptRoot.{KeptRoot}
use Rattle.idl_project.proofs.AskedLemmas.{none-asked, some-asked}
use Rattle.idl_project.proofs.DetailLemmas.{kept_details, kept_expansion, lookup-detailed, lookup-expanded}
use Rattle.idl_project.proofs.RootLemmas.{list_any-bad_name}
use Rattle.idl_project.proofs.session.Session.kept.Goals as goal

pub returns-in_err-new-clause-none : goal.returns-in_err-new-clause-none
returns-in_err-new-clause-none c =
    let held = c.self.inside.roots in
    let name = c.args.root.now in
    let none : asked_of c.args.self.now.project name ≡ [] =
    ap (λ (state : State). asked_of state.project name) (sym c.self.view_is)
    ∙ cond-false (list_any (bytes_eq name) (keys_of held)) _ _
    (list_any-bad_name (keys_of held) name c.self.invariant.formed.roots (λ allowed. false≢true (c.in_err-new.ensures.allowed.1 allowed))) in
    subst (λ (found : Option (Bor KeptRoot)). IfNone found (asked_of c.args.self.now.project name ≡ [])) (sym c.from_residual.ensures) none

pub returns-clause-some : goal.returns-clause-some
returns-clause-some c =
    let name = c.args.root.now in
    let held = c.self.inside.roots in
    let found = c.kept.ensures ∙ ap (λ (bytes : List ℕ). lookup (bytes_eq bytes) held) c.in_ok-new.ensures.same in
    subst (λ (state : State). IfSome c.kept.result (λ k. asked_files k.now.result.value.log ≡ asked_of state.project name)) c.self.view_is
    (some-asked (bank_of c.self.inside.bank) held name c.self.invariant.kept c.kept.result found)

pub returns-clause-none : goal.returns-clause-none
returns-clause-none c =
    let name = c.args.root.now in
    let held = c.self.inside.roots in
    let found = c.kept.ensures ∙ ap (λ (bytes : List ℕ). lookup (bytes_eq bytes) held) c.in_ok-new.ensures.same in
    subst (λ (state : State). IfNone c.kept.result (asked_of state.project name ≡ [])) c.self.view_is
    (none-asked (bank_of c.self.inside.bank) held name c.self.invariant.kept c.kept.result found)

pub returns-in_err-new-clause-details : goal.returns-in_err-new-clause-details
returns-in_err-new-clause-details c =
    let held = c.self.inside.roots in
    let name = c.args.root.now in
    let none : details_of c.args.self.now.project name ≡ None =
    ap (λ (state : State). details_of state.project name) (sym c.self.view_is)
    ∙ cond-false (list_any (bytes_eq name) (keys_of held)) _ _
    (list_any-bad_name (keys_of held) name c.self.invariant.formed.roots (λ allowed. false≢true (c.in_err-new.ensures.allowed.1 allowed))) in
    ap (λ (found : Option (Bor KeptRoot)). option_map kept_details (option_copied found)) c.from_residual.ensures ∙ sym none

pub returns-clause-details : goal.returns-clause-details
returns-clause-details c =
    let name = c.args.root.now in
    let held = c.self.inside.roots in
    let found = c.kept.ensures ∙ ap (λ (bytes : List ℕ). lookup (bytes_eq bytes) held) c.in_ok-new.ensures.same in
    ap (option_map kept_details) found
    ∙ lookup-detailed (bank_of c.self.inside.bank) held name c.self.invariant.kept
    ∙ ap (λ (state : State). details_of state.project name) c.self.view_is

pub returns-in_err-new-clause-expansion : goal.returns-in_err-new-clause-expansion
returns-in_err-new-clause-expansion c =
    let held = c.self.inside.roots in
    let name = c.args.root.now in
    let none : expansion_of c.args.self.now.project name ≡ None =
    ap (λ (state : State). expansion_of state.project name) (sym c.self.view_is)
    ∙ cond-false (list_any (bytes_eq name) (keys_of held)) _ _
    (list_any-bad_name (keys_of held) name c.self.invariant.formed.roots (λ allowed. false≢true (c.in_err-new.ensures.allowed.1 allowed))) in
    ap (λ (found : Option (Bor KeptRoot)). option_map kept_expansion (option_copied found)) c.from_residual.ensures ∙ sym none

pub returns-clause-expansion : goal.returns-clause-expansion
returns-clause-expansion c =
    let held = c.self.inside.roots in
    let name = c.args.root.now in
    let found = c.kept.ensures ∙ ap (λ (bytes : List ℕ). lookup (bytes_eq bytes) held) c.in_ok-new.ensures.same in
    ap (option_map kept_expansion) found
    ∙ lookup-expanded (bank_of c.self.inside.bank) held name c.self.invariant.kept
    ∙ ap (λ (state : State). expansion_of state.project name) c.self.view_is
