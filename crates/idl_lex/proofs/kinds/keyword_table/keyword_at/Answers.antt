use Rattle.std.proofs.Common.{◌∙◌, Some, ap, arith, sym}
use Rattle.idl_lex.specs.kinds.KeywordTable.{if_alike}
use Rattle.idl_lex.proofs.KindLaws.TableLemmas.{entry_of-at, like_keyword-if_alike, like_keyword-nowhere}
use Rattle.idl_lex.proofs.kinds.keyword_table.keyword_at.Goals as goal

pub returns-then-keywords-place : goal.returns-then-keywords-place
returns-then-keywords-place c =
    sym (like_keyword-nowhere c.args.word.now (omega (arith, c.if-keywords-place.true, c.table-keywords.ensures.len, c.place_of-place.ensures)))

pub returns : goal.returns
returns c =
    let word = c.args.word.now in
    let here = entry_of-at c.table-keywords.result.now word c.place_of-place.result _ c.table-keywords.ensures.all c.place_of-place.ensures (omega (arith, c.if-keywords-place.false)) in
    like_keyword-if_alike word (omega (arith, c.if-keywords-place.false, c.table-keywords.ensures.len, c.place_of-place.ensures))
    ∙ ap (λ k. if_alike word (Some k)) (sym here)
