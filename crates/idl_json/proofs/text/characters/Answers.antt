use Rattle.std.proofs.Common.{◌∙◌, ◌++◌, ap₂, ap, sym}
use Rattle.std.specs.Char.{encode_utf8}
use Rattle.idl_json.proofs.TextLemmas.{encode-next}
use Rattle.idl_json.proofs.text.characters.Goals as goal

pub bytes-preserved : goal.bytes-preserved
bytes-preserved c =
    c.in_ok-push.ensures.bytes ∙ ap₂ (λ s t. s ++ t) c.bytes.invariant (ap encode_utf8 c.from.ensures)
    ∙ sym (encode-next c.args.bytes.now c.bytes.byte-index c.bytes-test.true)
