use Rattle.std.proofs.Common.{◌∙◌, ◌∷◌, ◌+◌, Option, Some, ℕ, ap, drop, sym}
use Rattle.idl_lex.specs.kinds.Literal.{characters}
use Rattle.idl_lex.proofs.KindLaws.LiteralLemmas.{first-escape, first-plain}
use Rattle.idl_lex.proofs.kinds.literal.first_character.Goals as goal

pub returns-then-first-ne-BACKSLASH-clause-some : goal.returns-then-first-ne-BACKSLASH-clause-some
returns-then-first-ne-BACKSLASH-clause-some c =
    first-plain c.args.is_wide c.args.bytes.now c.in-Some.first.now c.in-Some.rest.now c.in-Some.ensures.cases.0 c.if-first-ne-BACKSLASH.true
    ∙ ap (λ v. Some v ∷ characters c.args.is_wide (drop 1 c.args.bytes.now)) (sym c.from.ensures)

pub returns-clause-some : goal.returns-clause-some
returns-clause-some c =
    first-escape c.args.is_wide c.args.bytes.now c.in-Some.first.now c.in-Some.rest.now c.in-Some.ensures.cases.0 c.if-first-ne-BACKSLASH.false
    ∙ ap (λ (read : Option ℕ × ℕ). read.0 ∷ characters c.args.is_wide (drop (1 + read.1) c.args.bytes.now)) (sym c.escape-character.ensures.value)
