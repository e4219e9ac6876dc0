-- Blanks.
use Rattle.std.proofs.Common.{◌≡◌, ◌∙◌, ℕ, suc, ◌+◌, ◌-◌, ◌<◌, List, ◌++◌, ap, arith, drop, length, take}
use Rattle.std.proofs.Math.Seq.{drop-append-add, take-append_seam}
use Rattle.std.specs.List.{repeat}

-- one blank pair of those that are left
pub repeat-more : (depth i : ℕ) (xs : List ℕ) → i < depth → repeat (depth - i) xs ≡ xs ++ repeat (depth - (i + 1)) xs
repeat-more depth i xs lt =
    let e : depth - i ≡ suc (depth - (i + 1)) = omega arith in
    ap (λ n. repeat n xs) e

-- words behind blanks, without the first byte of them
pub behind_blanks : (blanks words : List ℕ)
    → take (length blanks) (blanks ++ words) ++ drop (length blanks + 1) (blanks ++ words) ≡ blanks ++ drop 1 words
behind_blanks blanks words =
    ap (λ l. l ++ drop (length blanks + 1) (blanks ++ words)) (take-append_seam blanks words)
    ∙ ap (λ l. blanks ++ l) (drop-append-add blanks words 1)
