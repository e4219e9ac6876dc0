-- Where the tokens of a file begin, and the column of one that is asked for.
-- A column is found when it is asked for, in a chunk of some 64 lines, of which only white space
-- and comments have to be told apart from tokens. So a call doesn't grow with the file, and takes
-- no memory. Who asks for many goes over each chunk once, and holds what begins on its lines.
use Rattle.std.specs.Prelude.{◌≡◌, ◌+◌, ◌<◌, ◌≤◌, ℕ, zero, suc, List, [], ◌∷◌, ◌++◌, drop, filter, get_or, length, map, nat_eq, slice_get, take, Option, None, Some, if◌then◌else◌}
use Rattle.std.specs.List.{starts_with}
use Rattle.std.specs.Str.{bytes_eq}
use Rattle.idl_lex.specs.bytes.Columns.{behind_gaps, bytes_in, text_from}
use Rattle.idl_lex.specs.bytes.Context.{context_after, is_include}
use Rattle.idl_lex.specs.bytes.Scan.{further}
use Rattle.idl_lex.specs.tokens.Tokens.{token_if, tokens_of}
use Rattle.idl_lex.specs.declared.bytes.context.Context.{Context}
use Rattle.idl_lex.specs.declared.bytes.text_left.TextByte.{TextByte}
use Rattle.idl_lex.specs.declared.tokens.token.PlacedToken.{PlacedToken}
use Rattle.idl_text.specs.declared.tokens.starts_left.ChunkStarts.{ChunkStarts}
use Rattle.idl_text.specs.declared.tokens.starts_left.StartsLeft.{StartsLeft}

-- a token, and how many bytes of its line are before it
abbrev pub Start : Type 0
Start = PlacedToken × ℕ

-- a token where a text begins, if there is any of it
abbrev pub start_at : PlacedToken → List TextByte → List Start
start_at t [] = []
start_at t (b ∷ text) = (t, b.column) ∷ []

-- Tokens where they begin in a text: each behind the white bytes and the comments that follow the
-- one before it.
unfoldable pub starts_in : List PlacedToken → List TextByte → List Start
starts_in [] text = []
starts_in (t ∷ tokens) text =
    start_at t (behind_gaps text) ++ starts_in tokens (drop (length t.token) (behind_gaps text))

-- those that are left of a walk
abbrev pub starts_left : StartsLeft → List Start
starts_left left = starts_in left.tokens left.text

-- those of a file
abbrev pub starts_of : List (List ℕ) → List Start
starts_of lines = starts_in (tokens_of lines) (text_from 1 lines)

-- the tokens after the first n bytes of a text as it is cut into pieces, each with the column of its
-- first byte
unfoldable pub cut_after : Context → ℕ → List TextByte → List Start
cut_after c n [] = []
cut_after c (suc n) (b ∷ text) = cut_after c n text
cut_after c zero (b ∷ text) =
    let n = further (is_include c.beginning) b.byte (bytes_in text) in
    let piece = b.byte ∷ bytes_in (take n text) in
    map (λ t. (t, b.column)) (token_if c piece b.line) ++ cut_after (context_after c piece) n text

-- those on a line
abbrev pub on_line : ℕ → List Start → List Start
on_line line starts = filter (λ s. nat_eq s.0.line line) starts

-- where this one begins, if it is spelled so
abbrev pub column_if : List ℕ → Option Start → Option ℕ
column_if text None = None
column_if text (Some s) = if bytes_eq s.0.token text then Some s.1 else None

-- where the one with a number begins, if it is spelled so
abbrev pub column_by : Option ℕ → List ℕ → List Start → Option ℕ
column_by None text starts = None
column_by (Some number) text starts = column_if text (slice_get starts number)

-- where the only one begins
abbrev pub column_of_only : List Start → Option ℕ
column_of_only [] = None
column_of_only (s ∷ []) = Some s.1
column_of_only (s ∷ t ∷ starts) = None

-- one, or else another
abbrev pub or_else : Option ℕ → Option ℕ → Option ℕ
or_else (Some column) other = Some column
or_else None other = other

-- where one with this number and spelled so begins, or else the only one that is spelled so
abbrev pub column_among : Option ℕ → List ℕ → List Start → Option ℕ
column_among number text starts =
    or_else (column_by number text starts)
    (column_of_only (filter (λ s. bytes_eq s.0.token text) starts))

-- a column at which a line goes on with this text: one that goes over joined lines has none
abbrev pub column_with : List ℕ → List ℕ → Option ℕ → Option ℕ
column_with text bytes None = None
column_with text bytes (Some column) =
    if starts_with nat_eq (drop column bytes) text then Some column else None

-- Lists of starts are those of lines of a file, each of one line, behind so many lines.
abbrev pub AreLinesOf : List (List ℕ) → ℕ → List (List Start) → Type 0
AreLinesOf lines before starts =
    (index : ℕ) → index < length starts
    → get_or starts index [] ≡ on_line (before + index + 1) (starts_of lines)

-- Tokens of a chunk behind so many lines of a file, where they begin: on each of so many lines, they
-- are those of the file.
abbrev pub IsLaidOut : List (List ℕ) → ChunkStarts → Type 0
IsLaidOut lines chunk =
    (line : ℕ) → chunk.before < line → line ≤ chunk.before + chunk.count
    → on_line line (starts_left chunk.starts) ≡ on_line line (starts_of lines)

-- the bytes of the line with a number, from 1 on
abbrev pub line_of : List (List ℕ) → ℕ → Option (List ℕ)
line_of lines zero = None
line_of lines (suc n) = slice_get lines n

-- the column in a file of the token on a line with this number, from 0 on, that is spelled so, or
-- else of the only one there that is
abbrev pub column_in : List (List ℕ) → ℕ → Option ℕ → List ℕ → Option ℕ
column_in lines line number text =
    elim (line_of lines line) [
      | None ↦ None
      | Some bytes ↦ column_with text bytes
          (column_among number text (on_line line (starts_of lines)))
    ]
