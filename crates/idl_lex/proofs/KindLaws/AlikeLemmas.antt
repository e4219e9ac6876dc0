-- Words that differ in one byte, whatever its case, are not alike.
use Rattle.std.proofs.Common.{◌≢◌, ◌∙◌, ℕ, List, get_or, ap, sym}
use Rattle.std.proofs.Math.ListN.{get_or-map}
use Rattle.std.specs.Char.{to_ascii_lowercase}
use Rattle.idl_lex.specs.kinds.Keywords.{folded}

pub folded-other : (a b : List ℕ) (i : ℕ) → to_ascii_lowercase (get_or a i 0) ≢ to_ascii_lowercase (get_or b i 0) → folded a ≢ folded b
folded-other a b i other same =
    other (sym (get_or-map to_ascii_lowercase a i 0) ∙ ap (λ bs. get_or bs i 0) same ∙ get_or-map to_ascii_lowercase b i 0)
