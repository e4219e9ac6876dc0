use Rattle.idl_editor.proofs.UriLemmas.{uri-reads}
use Rattle.idl_editor.proofs.uris.laws.uris_read_back.Goals as goal

pub returns : goal.returns
returns c = uri-reads
