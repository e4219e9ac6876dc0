use Rattle.std.proofs.Common.{◌==◌, ◌∙◌, ap, sym, eqb-true}
use Rattle.idl_source.proofs.TextLemmas.{no-entries}
use Rattle.idl_source.proofs.texts.files.Files.is_empty.Goals as goal

pub returns : goal.returns
returns c =
    let sides = no-entries c.self.inside.entries.items c.self.invariant in
    let len = c.self.inside.entries.ok.0 in (
      (λ h. sym c.self.view_is ∙ sides.0 (sym len ∙ eqb-true _ _ (sym c.is_empty.ensures ∙ h))),
      (λ h. c.is_empty.ensures ∙ ap (λ n. n == 0) (len ∙ sides.1 (c.self.view_is ∙ h))),
    )
