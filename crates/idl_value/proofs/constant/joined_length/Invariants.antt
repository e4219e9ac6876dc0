use Rattle.std.proofs.Common.{◌≡◌, ◌≤◌, drop, flat_map, length}
use Rattle.idl_value.specs.Evaluation.{ahead, joined}
use Rattle.idl_value.proofs.constant.joined_length.Given as goal

-- those so far and those of the rest are all
abbrev pub invariant-loop-piece : goal.invariant-loop-piece
invariant-loop-piece l = record {
  all :
      ahead l.length (length (flat_map (λ piece. piece) (drop l.piece-index l.pieces.rest)))
      ≡ ahead 0 (length (joined l.pieces));
  fits : l.length ≤ 18446744073709551615;
}
