use Rattle.std.proofs.Common.{◌∙◌, List, ap, refl, sym}
use Rattle.idl_lex.proofs.ColumnLemmas.{gaps_after-none, gaps_after-some}
use Rattle.idl_lex.specs.bytes.Columns.{behind_gaps, bytes_in, gap_length}
use Rattle.idl_lex.specs.declared.bytes.text_left.TextByte.{TextByte}
use Rattle.idl_lex.proofs.bytes.text_left.TextLeft.behind_gaps.Goals as goal

pub gaps-preserved : goal.gaps-preserved
gaps-preserved c =
    ap (λ (text : List TextByte). behind_gaps text) c.in-Some.ensures.behind
    ∙ sym (gaps_after-some c.gaps.left (gap_length (bytes_in c.gaps.left)) refl c.in-Some.ensures.some)
    ∙ c.gaps.invariant

pub returns : goal.returns
returns c = sym (gaps_after-none c.gaps.left c.in_default.ensures.none) ∙ c.gaps.invariant
