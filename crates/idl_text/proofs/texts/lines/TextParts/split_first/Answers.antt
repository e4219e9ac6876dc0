use Rattle.std.proofs.Common.{◌∙◌, ◌++◌, ◌-◌, ap, sym, take}
use Rattle.idl_text.proofs.GatherLemmas.{take-past}
use Rattle.idl_text.proofs.texts.lines.TextParts.split_first.Goals as goal

pub returns-then-self-eq0 : goal.returns-then-self-eq0
returns-then-self-eq0 c = sym c.self.view_is ∙ ap (λ n. take n c.self.inside.tokens) c.if-self-eq0.true

pub returns : goal.returns
returns c =
    let it = c.self.inside in
    let part = c.first_part-part.result.0 in
    let rest = c.first_part-part.result.1 in
    let first = c.first_part-part.ensures in (
      sym c.self.view_is
          ∙ ap (take it.count) first.all
          ∙ take-past it.count part rest first.few
          ∙ ap (λ n. part ++ take (it.count - n) rest) (sym c.len.ensures),
      first.some,
    )
