use Rattle.std.proofs.Common.{◌∙◌, List, ap, map, subst, sym}
use Rattle.serde_json.proofs.Views.{view-Array}
use Rattle.serde_json.specs.Data.{Data, array}
use Rattle.serde_json.specs.View.{items_of, view}
use Rattle.idl_editor.specs.declared.told.found.RootFinding.{RootFinding}
use Rattle.idl_editor.specs.told.Found.{findings_in}
use Rattle.idl_server.specs.Found.{AreFoundIn}
use Rattle.idl_server.proofs.workspace.Workspace.diagnostics_in.Goals as goal

pub returns : goal.returns
returns c = (
  findings_in c.as_slice-held.result.now,
  subst (λ (found : List RootFinding). AreFoundIn c.args.self.now.session.project c.args.name.now (findings_in found)) (sym c.as_slice-held.ensures.value) c.in_ok-found.ensures,
  map view c.in_ok-list.list.items,
  c.in_ok-list.ensures,
  view-Array c.push_rest.new.list ∙ ap (λ (jsons : List Data). array (items_of jsons)) c.in_ok-push_rest.ensures,
)
