use Rattle.std.proofs.Common.{◌≡◌, ◌∙◌, [], ap, arith, drop, flat_map, length, sym}
use Rattle.std.proofs.lemmas.List.{drop_all}
use Rattle.idl_value.specs.Evaluation.{ahead}
use Rattle.idl_value.proofs.WalkLemmas.{ahead_none}
use Rattle.idl_value.proofs.constant.joined_length.Goals as goal

pub returns : goal.returns
returns c =
    let same : c.as_slice-piece-items.result.now ≡ c.args.pieces.now.rest = c.as_slice-piece-items.ensures in
    let long = ap length same in
    let done : drop c.loop-piece.piece-index c.args.pieces.now.rest ≡ [] = drop_all c.loop-piece.piece-index c.args.pieces.now.rest (omega arith) in
    sym (ahead_none c.loop-piece.length c.loop-piece.invariant.fits)
    ∙ ap (λ ys. ahead c.loop-piece.length (length (flat_map (λ piece. piece) ys))) (sym done)
    ∙ c.loop-piece.invariant.all
