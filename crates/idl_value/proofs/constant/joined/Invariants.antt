use Rattle.std.proofs.Common.{◌≡◌, ◌++◌, drop, flat_map}
use Rattle.idl_value.specs.Evaluation.{joined}
use Rattle.idl_value.proofs.constant.joined.Given as goal

-- those so far and those of the rest are all
abbrev pub invariant-loop-piece : goal.invariant-loop-piece
invariant-loop-piece l =
    l.text.items ++ flat_map (λ piece. piece) (drop l.piece-index l.pieces.rest) ≡ joined l.pieces
