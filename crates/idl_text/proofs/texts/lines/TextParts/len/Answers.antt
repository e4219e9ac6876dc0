use Rattle.std.proofs.Common.{◌∙◌, ap, length, sym}
use Rattle.std.proofs.lemmas.List.{length-take-le}
use Rattle.idl_text.proofs.texts.lines.TextParts.len.Goals as goal

pub returns : goal.returns
returns c =
    let it = c.self.inside in
    sym (length-take-le it.count it.tokens c.self.invariant) ∙ ap length c.self.view_is
