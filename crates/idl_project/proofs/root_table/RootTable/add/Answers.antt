use Rattle.std.proofs.Common.{◌∷◌, ◌++◌, [], ◌∙◌, ap}
use Rattle.std.specs.Map.{lookup}
use Rattle.std.specs.Str.{bytes_eq}
use Rattle.indexmap.proofs.CallerLemmas.{insert_entry-new}
use Rattle.idl_project.proofs.RootLemmas.{lookup-absent}
use Rattle.idl_project.proofs.root_table.RootTable.add.Goals as goal

pub returns-clause-ok : goal.returns-clause-ok
returns-clause-ok c =
    c.in_ok-insert.ensures.entries
    ∙ insert_entry-new bytes_eq c.self.inside.roots c.args.root c.args.kept
    (ap (lookup (bytes_eq c.args.root)) c.self.view_is ∙ lookup-absent c.args.self.now c.args.root c.requires)
    ∙ ap (λ held. held ++ (c.args.root, c.args.kept) ∷ []) c.self.view_is
