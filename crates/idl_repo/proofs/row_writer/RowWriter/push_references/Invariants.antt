use Rattle.std.proofs.Common.{◌∷◌, codes, flat_map, take}
use Rattle.idl_repo.specs.Pieces.{Says, Writes}
use Rattle.idl_repo.specs.TypeCode.{reference}
use Rattle.idl_repo.proofs.row_writer.RowWriter.push_references.Given as goal

-- those before, but the first
abbrev pub invariant-loop-path : goal.invariant-loop-path
invariant-loop-path l =
    Writes (flat_map (λ p. Says (codes ",") ∷ reference p) (take l.path-index l.rest))
    l.initial.self l.self
