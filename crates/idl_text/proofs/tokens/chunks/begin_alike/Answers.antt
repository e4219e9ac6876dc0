use Rattle.std.proofs.Common.{◌≡◌, ◌∙◌, sym, rules, take}
use Rattle.std.specs.Cmp.Lexicographic.{pointwise, pointwise_decides, bytes_decides}
use Rattle.std.specs.Str.{bytes_eq}
use Rattle.idl_text.proofs.tokens.chunks.begin_alike.Goals as goal

pub returns-clause-same : goal.returns-clause-same
returns-clause-same c =
    let lines = take c.args.count c.args.lines.now in
    let own = take c.args.count c.args.own.now in
    let value : c.eq.result ≡ pointwise bytes_eq lines own = search rules in
    λ h. (pointwise_decides bytes_decides lines own).0 (sym value ∙ h)
