use Rattle.std.proofs.Common.{◌≡◌, ◌∙◌, List, ℕ, Option, None, Bor, sym, ap}
use Rattle.std.proofs.lemmas.Bool.{cond-false, false≢true}
use Rattle.std.specs.List.{list_any}
use Rattle.std.specs.Map.{keys_of, lookup}
use Rattle.std.specs.Option.{option_copied, option_map}
use Rattle.std.specs.Str.{bytes_eq}
use Rattle.idl_inputs.specs.Bank.{bank_of}
use Rattle.idl_project.specs.UpToDate.{State, compiled_of}
use Rattle.idl_sources.specs.declared.compile.CompiledRoot.{CompiledRoot}
use Rattle.idl_project.specs.declared.kept_root.KeptRoot.{KeptRoot}
use Rattle.idl_project.proofs.RootLemmas.{lookup-held, list_any-bad_name}
use Rattle.idl_project.proofs.session.Session.compiled.Goals as goal

pub returns-in_err-new : goal.returns-in_err-new
returns-in_err-new c =
    let held = c.self.inside.roots in
    let name = c.args.root.now in
    let none : compiled_of c.args.self.now.project name ≡ None =
    ap (λ (state : State). compiled_of state.project name) (sym c.self.view_is)
    ∙ cond-false (list_any (bytes_eq name) (keys_of held)) _ _
    (list_any-bad_name (keys_of held) name c.self.invariant.formed.roots (λ allowed. false≢true (c.in_err-new.ensures.allowed.1 allowed))) in
    ap (λ (found : Option (Bor CompiledRoot)). option_copied found) c.from_residual.ensures ∙ sym none

pub returns : goal.returns
returns c =
    let name = c.args.root.now in
    c.get.ensures
    ∙ ap (λ (bytes : List ℕ). option_map (λ (k : KeptRoot). k.compiled.value) (lookup (bytes_eq bytes) c.self.inside.roots)) c.in_ok-new.ensures.same
    ∙ lookup-held (bank_of c.self.inside.bank) c.self.inside.roots name c.self.invariant.kept
    ∙ ap (λ (state : State). compiled_of state.project name) c.self.view_is
