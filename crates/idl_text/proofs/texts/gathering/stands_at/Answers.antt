use Rattle.std.proofs.Common.{◌∙◌, sym}
use Rattle.std.specs.Cmp.Lexicographic.{bytes_decides}
use Rattle.idl_text.proofs.texts.gathering.stands_at.Goals as goal

pub returns-in-Some : goal.returns-in-Some
returns-in-Some c = λ same.
    let there = c.in-Some.ensures.lookup.3 in
    (c.args.place, there.0, sym (there.1 c.args.word.now) ∙ (bytes_decides _ _).0 (sym c.eq.ensures ∙ same))
