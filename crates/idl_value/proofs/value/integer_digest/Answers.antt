use Rattle.std.proofs.Common.{ap, of_z, ◌∙◌}
use Rattle.std.proofs.Math.Facts.{to_z-of_z}
use Rattle.std.specs.Int.{to_le_bytes, w128}
use Rattle.idl_base.specs.Digest.{with_bytes}
use Rattle.idl_value.proofs.value.integer_digest.Goals as goal

pub returns : goal.returns
returns c =
    c.with_bytes.ensures
    ∙ ap (with_bytes 0) c.to_le_bytes.ensures
    ∙ ap (λ z. with_bytes 0 (to_le_bytes w128 (of_z w128 z))) (to_z-of_z {w = w128} {z = c.args.number} c.ranges.number)
