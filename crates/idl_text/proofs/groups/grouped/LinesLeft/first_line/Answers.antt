use Rattle.idl_lex.specs.tokens.Tokens.{tokens_of}
use Rattle.idl_text.proofs.LeftLemmas.{behind-first, within-first}
use Rattle.idl_text.proofs.groups.grouped.LinesLeft.first_line.Goals as goal

pub invariant_of-rest : goal.invariant_of-rest
invariant_of-rest c =
    let it = c.self.inside in
    let tokens = tokens_of it.file.now in
    let line = c.first_line-line.result.0 in
    let rest = c.first_line-line.result.1 in
    let all = c.first_line-line.ensures.all in
    let here = c.self.invariant in (
      behind-first tokens it.tokens line rest it.before c.len.result here.0 all c.len.ensures,
      within-first tokens it.tokens line rest it.before c.len.result here.0 all c.len.ensures here.1,
      here.2,
    )
