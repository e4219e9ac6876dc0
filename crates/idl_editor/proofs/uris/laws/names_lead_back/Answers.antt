use Rattle.idl_editor.proofs.FolderLemmas.{lead-back}
use Rattle.idl_editor.proofs.uris.laws.names_lead_back.Goals as goal

pub returns : goal.returns
returns c = lead-back
