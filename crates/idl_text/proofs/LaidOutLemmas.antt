-- The lines of a chunk, and the tokens that are put on them.
use Rattle.std.proofs.Common.{◌≡◌, ◌∙◌, inr, ◌≤◌, ◌<◌, ◌+◌, ◌++◌, ◌∷◌, ℕ, zero, suc, nat_eq, List, [], ap, append_assoc, arith, drop, get_or, length, sym}
use Rattle.std.proofs.lemmas.List.Elements.{filter-append}
use Rattle.idl_text.specs.Chunk.{AreChunks, AreChunksOf, IsChunkOfLine}
use Rattle.idl_text.specs.Starts.{Start, on_line}
use Rattle.idl_text.specs.declared.tokens.chunk.PlacedChunk.{PlacedChunk}
use Rattle.idl_text.proofs.ChunkLemmas.{AreChunks-at}

-- a chunk begins behind the lines of those before it
later-chunk : (lines : List (List ℕ)) (lines_before tokens_before : ℕ) (chunks : List PlacedChunk) (k j : ℕ) (d : PlacedChunk) → AreChunks lines lines_before tokens_before chunks → k < j → j < length chunks
    → (get_or chunks k d).lines_before + (get_or chunks k d).chunk.value.lines ≤ (get_or chunks j d).lines_before
later-chunk lines lb tb [] k j d are more less = absurd (omega (arith, less))
later-chunk lines lb tb (x ∷ chunks) k zero d are more less = absurd (omega (arith, more))
later-chunk lines lb tb (x ∷ chunks) zero (suc j) d are more less =
    let n = x.chunk.value.lines in
    let at = AreChunks-at (drop n lines) (lb + n) (tb + length x.chunk.value.tokens) chunks j d are.3 (omega (arith, less)) in
    omega (arith, are.0, at.is)
later-chunk lines lb tb (x ∷ chunks) (suc k) (suc j) d are more less =
    let n = x.chunk.value.lines in
    later-chunk (drop n lines) (lb + n) (tb + length x.chunk.value.tokens) chunks k j d are.3 (omega (arith, more)) (omega (arith, less))

-- each line of a chunk is in it
pub line-within : (lines : List (List ℕ)) (chunks : List PlacedChunk) (line other : ℕ) (b : PlacedChunk) → AreChunksOf lines chunks → IsChunkOfLine chunks other b
    → b.lines_before < line → line ≤ b.lines_before + b.chunk.value.lines → IsChunkOfLine chunks line b
line-within lines chunks line other b are of above within = record {
  place = of.place;
  within = of.within;
  is = of.is;
  above = inr above;
  others = λ j more less.
      let later = later-chunk lines 0 0 chunks of.place j b are.each more less in
      let here = ap (λ (x : PlacedChunk). x.lines_before + x.chunk.value.lines) of.is in
      omega (arith, within, later, here);
}

-- a token that is put on its line comes off those that are left
pub put-next : (line : ℕ) (before : List Start) (s : Start) (left all : List Start) → before ++ on_line line (s ∷ left) ≡ on_line line all
    → (before ++ on_line line (s ∷ [])) ++ on_line line left ≡ on_line line all
put-next line before s left all is =
    append_assoc before (on_line line (s ∷ [])) (on_line line left)
    ∙ ap (λ (ss : List Start). before ++ ss) (sym (filter-append (λ (u : Start). nat_eq u.0.line line) (s ∷ []) left)) ∙ is
