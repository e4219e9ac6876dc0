-- What is left of a file's tokens behind a line of them.
use Rattle.std.proofs.Common.{◌≡◌, ◌∙◌, ◌+◌, ◌≤◌, ◌++◌, ℕ, List, ap, arith, drop, length, length-append, sym}
use Rattle.std.proofs.Math.Seq.{drop-append_seam}
use Rattle.std.proofs.lemmas.List.{drop-drop, length-drop}
use Rattle.idl_lex.specs.declared.tokens.token.PlacedToken.{PlacedToken}

pub behind-first : (tokens left line rest : List PlacedToken) (at count : ℕ) → left ≡ drop at tokens → left ≡ line ++ rest → count ≡ length line → rest ≡ drop (at + count) tokens
behind-first tokens left line rest at count is all size =
    sym (drop-append_seam line rest) ∙ ap (drop (length line)) (sym all ∙ is) ∙ ap (λ n. drop n (drop at tokens)) (sym size) ∙ drop-drop count at tokens

pub within-first : (tokens left line rest : List PlacedToken) (at count : ℕ) → left ≡ drop at tokens → left ≡ line ++ rest → count ≡ length line → at ≤ length tokens → at + count ≤ length tokens
within-first tokens left line rest at count is all size within =
    omega (arith, size, ap length is, ap length all, length-append line rest, length-drop at tokens)
