use Rattle.std.specs.Cmp.Lexicographic.{bytes_decides}
use Rattle.std.specs.Str.{bytes_eq}
use Rattle.std.proofs.lemmas.List.Elements.{Decides-contains, contains_decides}
use Rattle.idl_text.proofs.texts.gathering.is_found.Goals as goal

pub returns-then-words-lt-FEW : goal.returns-then-words-lt-FEW
returns-then-words-lt-FEW c = λ found.
    let words = c.args.words.now in
    let word = c.args.word.now in
    (Decides-contains words word c.contains.result (contains_decides bytes_eq bytes_decides words word c.contains.result c.contains.ensures.cases)).0 found
