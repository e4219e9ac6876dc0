use Rattle.std.proofs.Common.{◌≡◌, ◌∙◌, rules, sym}
use Rattle.std.specs.Cmp.Lexicographic.{bytes_decides, pointwise, pointwise_decides}
use Rattle.std.specs.Str.{bytes_eq}
use Rattle.idl_event.proofs.asked.lexed_file.LexedFilePartialEq.eq.Goals as goal

pub returns-clause-exact : goal.returns-clause-exact
returns-clause-exact c =
    let lines = c.args.self.now in
    let others = c.args.other.now in
    let value : c.eq.result ≡ pointwise bytes_eq lines others = search rules in
    let decides = pointwise_decides bytes_decides lines others in
    (λ same. decides.0 (sym value ∙ same), λ same. value ∙ decides.1 same)
