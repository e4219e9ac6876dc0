use Rattle.std.proofs.Common.{◌≡◌, ◌∙◌, ℕ, All, List, None, subst, sym}
use Rattle.std.specs.Map.{lookup}
use Rattle.std.specs.Str.{bytes_eq}
use Rattle.idl_server.proofs.FileLemmas.{none-there}
use Rattle.idl_server.proofs.RootLemmas.{all-inserted}
use Rattle.idl_server.proofs.workspace.Workspace.written_in.Goals as goal

pub files-preserved : goal.files-preserved
files-preserved c =
    let documents = c.args.self.now.documents.entries in
    let one = none-there (lookup (bytes_eq c.in-Some-2.name) documents) (sym c.contains_key.ensures ∙ c.if-contains_key.false) in
    subst (λ (keys : List (List ℕ)). All (λ name. lookup (bytes_eq name) documents ≡ None) keys) (sym c.in_ok-insert.ensures.keys)
    (all-inserted (λ name. lookup (bytes_eq name) documents ≡ None) c.files.names.keys c.in-Some-2.name c.files.invariant one)
