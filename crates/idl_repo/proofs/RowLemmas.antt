-- The base of a struct, or none.
use Rattle.std.proofs.Common.{◌≡◌, ℕ, ◌<◌, ◌≤◌, List, [], ◌∷◌, ◌++◌, refl, arith, codes, length}
use Rattle.idl_repo.proofs.WriteLemmas.{grows-nothing}
use Rattle.idl_repo.specs.Pieces.{Grows, Says, State, says}
use Rattle.idl_repo.specs.Row.{base_pieces, references}

pub no-base : {s : State} (paths : List (List (List ℕ))) → length paths < 1 → Grows (base_pieces paths) s s
no-base [] h = grows-nothing
no-base (path ∷ paths) h = absurd (omega arith)

pub some-base : (paths : List (List (List ℕ))) → 1 ≤ length paths → Says (codes " base(") ∷ (references paths ++ says (codes ")")) ≡ base_pieces paths
some-base [] h = absurd (omega arith)
some-base (path ∷ paths) h = refl
