use Rattle.std.proofs.Common.{◌≡◌, ◌∙◌, ℕ, All, List, None, subst, sym, true}
use Rattle.std.proofs.lemmas.List.Elements.{All-nil}
use Rattle.std.specs.Map.{lookup}
use Rattle.std.specs.Str.{bytes_eq}
use Rattle.idl_inputs.specs.Project.{is_root}
use Rattle.idl_server.specs.Files.{AreTriedBy}
use Rattle.idl_server.proofs.RootLemmas.{each-among}
use Rattle.idl_server.proofs.workspace.Workspace.untried.Goals as goal

pub add_untried-requires : goal.add_untried-requires
add_untried-requires c =
    let project = c.args.self.now.session.project in
    subst (λ (roots : List (List ℕ)). All (λ root. is_root project root ≡ true) roots) (sym (c.deref.ensures.value ∙ c.in_ok-roots.ensures)) (each-among project.roots)

pub returns-clause-closed : goal.returns-clause-closed
returns-clause-closed c =
    let P : List ℕ → Type 0 = λ name. lookup (bytes_eq name) c.args.self.now.documents.entries ≡ None in
    c.in_ok-add_untried.ensures.closed (subst (λ (names : List (List ℕ)). All P names) (sym c.new-names.ensures.empty) (All-nil P))

pub returns-clause-tried : goal.returns-clause-tried
returns-clause-tried c = λ none.
    subst (λ (roots : List (List ℕ)). AreTriedBy c.args.self.now roots) (c.deref.ensures.value ∙ c.in_ok-roots.ensures) (c.in_ok-add_untried.ensures.tried none).1
