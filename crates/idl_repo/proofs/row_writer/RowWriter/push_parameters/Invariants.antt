use Rattle.std.proofs.Common.{◌∷◌, codes, flat_map, take}
use Rattle.idl_repo.specs.Pieces.{Says, Writes}
use Rattle.idl_repo.specs.Row.{parameter_pieces}
use Rattle.idl_repo.proofs.row_writer.RowWriter.push_parameters.Given as goal

-- those before, but the first
abbrev pub invariant-loop-parameter : goal.invariant-loop-parameter
invariant-loop-parameter l =
    Writes (flat_map (λ m. Says (codes ",") ∷ parameter_pieces m) (take l.parameter-index l.rest))
    l.initial.self l.self
