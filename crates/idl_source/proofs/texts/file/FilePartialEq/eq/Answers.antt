use Rattle.std.proofs.Common.{◌≡◌, ◌∙◌, sym, rules}
use Rattle.std.specs.Cmp.Lexicographic.{pointwise, pointwise_decides, bytes_decides}
use Rattle.std.specs.Str.{bytes_eq}
use Rattle.idl_source.proofs.texts.file.FilePartialEq.eq.Goals as goal

pub returns-clause-exact : goal.returns-clause-exact
returns-clause-exact c =
    let value : c.eq.result ≡ pointwise bytes_eq c.args.self.now c.args.other.now = search rules in
    let decides = pointwise_decides bytes_decides c.args.self.now c.args.other.now in
    (λ h. decides.0 (sym value ∙ h), λ e. value ∙ decides.1 e)
