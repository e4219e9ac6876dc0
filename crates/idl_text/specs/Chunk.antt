-- A file in chunks: lines that are cut into tokens as if they were a file of their own.
use Rattle.std.specs.Prelude.{◌≡◌, ◌⊎◌, ◌≤◌, ◌<◌, ◌+◌, ◌-◌, ◌^◌, ℕ, false, List, [], ◌∷◌, ◌++◌, drop, get_or, length, take}
use Rattle.std.specs.List.{flat_map, sum_by}
use Rattle.idl_text.specs.Moved.{moved_tokens}
use Rattle.idl_lex.specs.bytes.Text.{is_continued}
use Rattle.idl_lex.specs.tokens.Tokens.{tokens_of}
use Rattle.idl_text.specs.declared.tokens.chunk.Chunk.{Chunk}
use Rattle.idl_text.specs.declared.tokens.chunk.PlacedChunk.{PlacedChunk}
use Rattle.idl_lex.specs.declared.tokens.token.PlacedToken.{PlacedToken}

-- Lines that stand apart: whatever lines follow them, those before have the tokens of a file of
-- their own, and so have those that follow, but for where they stand.
abbrev pub IsApart : List (List ℕ) → Type 0
IsApart lines =
    (rest : List (List ℕ))
    → tokens_of (lines ++ rest)
    ≡ tokens_of lines ++ moved_tokens (length lines) (tokens_of rest)

-- no line behind the first so many is joined to them
abbrev pub IsEnded : List (List ℕ) → ℕ → Type 0
IsEnded lines count =
    0 < count → count < length lines → is_continued (get_or lines (count - 1) []) ≡ false

-- the first of these lines, with the tokens of a file of their own; unless they are the last ones,
-- they stand apart, and no line is joined to them
pub record IsChunk (lines : List (List ℕ)) (chunk : Chunk) : Type 0 where
  pub some : 0 < chunk.lines
  pub within : chunk.lines ≤ length lines
  pub own : chunk.tokens ≡ tokens_of (take chunk.lines lines)
  pub apart : (chunk.lines ≡ length lines) ⊎ IsApart (take chunk.lines lines)
  pub ends : IsEnded lines chunk.lines

-- the tokens of a chunk where it stands in a file
abbrev pub tokens_there : PlacedChunk → List PlacedToken
tokens_there placed = moved_tokens placed.lines_before placed.chunk.value.tokens

-- the tokens of chunks, end to end
abbrev pub tokens_in_chunks : List PlacedChunk → List PlacedToken
tokens_in_chunks chunks = flat_map tokens_there chunks

-- how many lines chunks have
abbrev pub lines_in_chunks : List PlacedChunk → ℕ
lines_in_chunks chunks = sum_by (λ b. b.chunk.value.lines) chunks

-- chunks of these lines, from the first line on, behind so many lines and tokens of a file
abbrev pub AreChunks : List (List ℕ) → ℕ → ℕ → List PlacedChunk → Type 0
AreChunks lines lines_before tokens_before [] = Unit {0}
AreChunks lines lines_before tokens_before (b ∷ chunks) =
    let chunk = b.chunk.value in
    (b.lines_before ≡ lines_before) × (b.tokens_before ≡ tokens_before) × IsChunk lines chunk
    × AreChunks (drop chunk.lines lines) (lines_before + chunk.lines)
    (tokens_before + length chunk.tokens) chunks

-- chunks of a whole file: all its lines, as many as a file may have, and no more tokens than can be
-- counted
pub record AreChunksOf (lines : List (List ℕ)) (chunks : List PlacedChunk) : Type 0 where
  pub each : AreChunks lines 0 0 chunks
  pub whole : lines_in_chunks chunks ≡ length lines
  pub few : length lines ≤ 200000
  pub countable : length (tokens_in_chunks chunks) < 2 ^ 64

-- chunks of some whole file
abbrev pub AreOfSomeFile : List PlacedChunk → Type 0
AreOfSomeFile chunks = (lines : List (List ℕ)) × AreChunksOf lines chunks

-- The first of the tokens behind so many stands in this chunk at this place, or no token is left,
-- and no chunk.
pub record IsPlace (chunks : List PlacedChunk) (chunk place before : ℕ) : Type 0 where
  pub is : before ≡ length (tokens_in_chunks (take chunk chunks)) + place
  pub within :
      (before < length (tokens_in_chunks (take (chunk + 1) chunks)))
      ⊎ ((length chunks ≤ chunk) × (before ≡ length (tokens_in_chunks chunks)))

-- The chunk of a line: the last one that begins above it, or else the first.
pub record IsChunkOfLine (chunks : List PlacedChunk) (line : ℕ) (b : PlacedChunk) : Type 0 where
  pub place : ℕ
  pub within : place < length chunks
  pub is : get_or chunks place b ≡ b
  pub above : (place ≡ 0) ⊎ (b.lines_before < line)
  pub others : (j : ℕ) → place < j → j < length chunks → line ≤ (get_or chunks j b).lines_before
