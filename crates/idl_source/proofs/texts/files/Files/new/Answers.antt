use Rattle.std.proofs.Common.{List, [], refl, ap, ◌∙◌}
use Rattle.std.specs.Global.{Global}
use Rattle.std.specs.declared.rc.Rc.{Rc}
use Rattle.idl_source.specs.declared.texts.entries.NamedFile.{NamedFile}
use Rattle.idl_source.specs.texts.Entries.{entries_of}
use Rattle.idl_source.proofs.TextLemmas.{no-entries, texts}
use Rattle.idl_source.proofs.texts.files.Files.new.Goals as goal

pub returns : goal.returns
returns c = ap (λ (entries : List (Rc NamedFile Global)). texts (entries_of entries)) c.new.ensures.items ∙ (no-entries [] refl).0 refl
