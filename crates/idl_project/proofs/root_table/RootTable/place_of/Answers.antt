use Rattle.std.proofs.Common.{◌∙◌, List, ℕ, ap}
use Rattle.std.proofs.lemmas.Map.Made.{is_some-lookup}
use Rattle.std.specs.List.{list_any}
use Rattle.std.specs.Map.{keys_of}
use Rattle.std.specs.Str.{bytes_eq}
use Rattle.idl_project.specs.declared.kept_root.KeptRoot.{KeptRoot}
use Rattle.idl_project.proofs.root_table.RootTable.place_of.Goals as goal

pub returns-clause-found : goal.returns-clause-found
returns-clause-found c =
    c.get_index_of.ensures.found
    ∙ is_some-lookup (bytes_eq c.args.root.now) c.self.inside.roots.entries
    ∙ ap (λ (held : List (List ℕ × KeptRoot)). list_any (bytes_eq c.args.root.now) (keys_of held)) c.self.view_is
