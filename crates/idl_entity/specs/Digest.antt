-- Digests of paths: numbers of 64 bits by which answers are found. No promise rests on how they are
-- spread.
use Rattle.std.specs.Prelude.{ℕ, ◌+◌, ◌*◌, ◌/◌, ◌%◌, ◌^◌, List, [], ◌∷◌, if◌then◌else◌, nat_eq}
use Rattle.idl_base.specs.Digest.{mixed, with_bytes}
use Rattle.idl_value.specs.idl_lex.kinds.Keywords.{folded}

-- a digest with the last 6 bits of another in place of its own: they choose first among answers
unfoldable pub behind : ℕ → ℕ → ℕ
behind first digest = digest / 64 * 64 + first % 64

-- of a folded name in a scope with this digest, behind a number that is no byte. What stands in one
-- outermost scope has the last 6 bits of that, so that its answers lie together
unfoldable pub under : ℕ → List ℕ → ℕ
under scope name =
    let whole = with_bytes (mixed scope 256) name in
    behind (if nat_eq scope 0 then whole / 2 ^ 58 else scope) whole

-- of a path: of its folded names, from the outermost on
unfoldable pub path_digest : List (List ℕ) → ℕ
path_digest [] = 0
path_digest (name ∷ scope) = under (path_digest scope) (folded name)
