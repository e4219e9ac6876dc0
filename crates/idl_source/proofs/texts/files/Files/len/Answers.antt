use Rattle.std.proofs.Common.{◌∙◌, ap, sym}
use Rattle.std.specs.FinMap as finite
use Rattle.idl_source.proofs.TextLemmas.{len-texts}
use Rattle.idl_source.proofs.texts.files.Files.len.Goals as goal

pub returns : goal.returns
returns c =
    c.len.ensures
    ∙ c.self.inside.entries.ok.0
    ∙ sym (len-texts c.self.inside.entries.items c.self.invariant)
    ∙ ap finite.len c.self.view_is
