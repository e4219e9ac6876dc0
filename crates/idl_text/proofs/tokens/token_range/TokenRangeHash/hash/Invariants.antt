use Rattle.std.proofs.Common.{◌≡◌, length}
use Rattle.std.specs.Hash as fed
use Rattle.std.specs.List.{flat_map, fold}
use Rattle.idl_text.proofs.tokens.token_range.TokenRangeHash.hash.Given as goal

abbrev pub invariant-loop-left : goal.invariant-loop-left
invariant-loop-left g l =
    fold g.H.Hasher.write l.state (flat_map (fed.slice fed.u8) l.left)
    ≡ fold g.H.Hasher.write l.initial.state (flat_map (fed.slice fed.u8) l.initial.left)

abbrev pub decreases-loop-left : goal.decreases-loop-left
decreases-loop-left g l = length l.left
