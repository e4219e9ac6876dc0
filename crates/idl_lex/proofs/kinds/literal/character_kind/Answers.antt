use Rattle.std.proofs.Common.{◌∙◌, arith, length-drop, sym}
use Rattle.idl_lex.proofs.KindLaws.LiteralLemmas.{character_kind-one, character_kind-many, character_kind-none}
use Rattle.idl_lex.proofs.kinds.literal.character_kind.Goals as goal

pub returns-in_default : goal.returns-in_default
returns-in_default c = sym (character_kind-none c.args.is_wide c.args.body.now c.in_default.ensures.none)

pub returns-then-len-body : goal.returns-then-len-body
returns-then-len-body c =
    c.one_kind.ensures
    ∙ sym (character_kind-one c.args.is_wide c.args.body.now c.in-Some.character c.in-Some.len c.in-Some.ensures.some c.if-len-body.true)

pub returns : goal.returns
returns c =
    let body = c.args.body.now in
    let le = c.in-Some.ensures.within.1 in
    let ne = c.if-len-body.false in
    sym (character_kind-many c.args.is_wide body c.in-Some.character c.in-Some.len c.in-Some.ensures.some (omega (arith, length-drop c.in-Some.len body, le, ne)))
