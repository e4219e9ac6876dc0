use Rattle.std.proofs.Common.{◌∙◌, ◌+◌, ◌*◌, ◌%◌, ap, arith, length, refl, sym}
use Rattle.std.proofs.Math.ListN.{get_or}
use Rattle.idl_lex.specs.kinds.KeywordTable.{places}
use Rattle.idl_lex.proofs.KindLaws.TableLemmas.{place-folded, places-length}
use Rattle.idl_lex.proofs.kinds.keyword_table.place_of.Goals as goal

pub bounds-places-mixed : goal.bounds-places-mixed
bounds-places-mixed c = rw c.places.ensures (omega (arith, places-length))

pub returns : goal.returns
returns c =
    let n = length c.args.word.now in
    ap (λ ps. get_or ps ((c.letter.result + 144 * c.letter-2.result + 153 * c.letter-3.result + n) % 256) 0) c.places.ensures
    ∙ (λ i. get_or places ((c.letter.ensures i + 144 * c.letter-2.ensures i + 153 * c.letter-3.ensures i + n) % 256) 0)
    ∙ sym (place-folded c.args.word.now n refl (omega (arith, c.if-len-lt2.false)) (omega (arith, c.if-len-gt-LONGEST.false)))
