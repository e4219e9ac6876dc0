use Rattle.std.proofs.Common.{◌≡◌, map, take}
use Rattle.std.specs.List.{AllZip}
use Rattle.serde_json.specs.View.{view}
use Rattle.idl_server.specs.Diagnostics.{IsToldOf}
use Rattle.idl_editor.specs.told.Found.{findings_in}
use Rattle.idl_server.proofs.workspace.Workspace.first_values.Given as goal

-- those of the findings before, and the columns are those of the session's files
abbrev pub invariant-each : goal.invariant-each
invariant-each l = record {
  told : AllZip (IsToldOf l.self.encoding l.self.session.project) (findings_in (take l.index l.held)) (map view l.list.items);
  columns : l.columns ≡ l.self.session.project.inputs.files;
}
