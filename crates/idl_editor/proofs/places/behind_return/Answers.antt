use Rattle.std.proofs.Common.{◌∙◌, ◌+◌, ◌-◌, None, Some, arith, drop, length, length-drop, subst}
use Rattle.std.proofs.lemmas.List.{take_all}
use Rattle.memchr.specs.Find.{IsLastByte, is_byte}
use Rattle.idl_editor.proofs.PlaceLemmas.{behind-last}
use Rattle.idl_editor.proofs.places.behind_return.Goals as goal

pub returns-in-Some : goal.returns-in-Some
returns-in-Some c =
    let from = c.in-Some.place + 1 in
    let bytes = c.args.bytes.now in
    take_all (length bytes - from) (drop from bytes) (omega (arith, length-drop from bytes))
    ∙ behind-last c.args.bytes.now (Some c.in-Some.place) (subst (λ place. IsLastByte (is_byte 13) c.args.bytes.now place) c.in-Some.is c.memrchr.ensures)

pub returns-in-None : goal.returns-in-None
returns-in-None c = behind-last c.args.bytes.now None (subst (λ place. IsLastByte (is_byte 13) c.args.bytes.now place) c.in-None.is c.memrchr.ensures)
