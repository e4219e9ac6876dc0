-- What a command line asks for.
use Rattle.std.specs.Prelude.{ℕ, ◌+◌, ◌-◌, ◌*◌, Bool, false, ◌&&◌, ◌||◌, not, List, [], ◌∷◌, nat_le, nat_eq, length, codes, fold, Option, None, Some, if◌then◌else◌}
use Rattle.std.specs.List.{join_with_byte, slice_split, list_all}
use Rattle.std.specs.Str.{bytes_eq}
use Rattle.idl_source.specs.Limits.{longest_command}
use Rattle.idl_source.specs.names.Name.{is_visible}
use Rattle.idl_inputs.specs.Edits.{Edit, Put, Splice, Remove, Define, Undef, Search, AddRoot, DropRoot}
use Rattle.idl_session.specs.Lines.{line_within}
use Rattle.idl_session.specs.declared.heading.RootQuery.{RootQuery}
use Rattle.idl_session.specs.declared.heading.RootQuery.TheVariants.{Diagnostics, Listing, Dump, Absent}

-- no command, an edit with so many lines that follow, an edit that no line follows, a question about
-- a root, or one about the work of the last accepted edit
pub data Request : Type 0 where
  Malformed : Request
  Place : (edit : List (List ℕ) → Edit) (count : ℕ) → Request
  Make : (edit : Edit) → Request
  Ask : (question : RootQuery) (name : List ℕ) → Request
  TellWork : Request

-- bytes 33 to 126, one at least
abbrev pub is_command_word : List ℕ → Bool
is_command_word word = not (bytes_eq word []) && list_all is_visible word

-- the parts between the blanks
abbrev pub words : List ℕ → List (List ℕ)
words line = slice_split (λ b. nat_eq b 32) line

abbrev pub is_digit : ℕ → Bool
is_digit b = nat_le 48 b && nat_le b 57

-- `0`, or one to nine digits without leading zero
abbrev pub is_number : List ℕ → Bool
is_number [] = false
is_number (d ∷ digits) =
    is_digit d &&
    (list_all is_digit digits
    && (nat_le (length digits) 8 && (not (nat_eq d 48) || nat_eq (length digits) 0)))

-- the number that digits make
abbrev pub value_of : List ℕ → ℕ
value_of digits = fold (λ n d. 10 * n + (d - 48)) 0 digits

abbrev pub put_request : List ℕ → List ℕ → Request
put_request name count = if is_number count then Place (Put name) (value_of count) else Malformed

abbrev pub splice_request : List ℕ → List ℕ → List ℕ → List ℕ → Request
splice_request name from del count =
    if is_number from && (is_number del && is_number count)
    then Place (Splice name (value_of from) (value_of del)) (value_of count) else Malformed

-- a word and what it is about
abbrev pub pair_request : List ℕ → List ℕ → Request
pair_request w about =
    if bytes_eq w (codes "remove") then Make (Remove about)
    else (if bytes_eq w (codes "undef") then Make (Undef about)
    else (if bytes_eq w (codes "root") then Make (AddRoot about)
    else (if bytes_eq w (codes "unroot") then Make (DropRoot about)
    else (if bytes_eq w (codes "diagnostics") then Ask Diagnostics about
    else (if bytes_eq w (codes "listing") then Ask Listing about
    else (if bytes_eq w (codes "dump") then Ask Dump about
    else (if bytes_eq w (codes "absent") then Ask Absent about else Malformed)))))))

-- by how many words follow the first
abbrev pub counted_request : List ℕ → List (List ℕ) → Request
counted_request w [] = if bytes_eq w (codes "work") then TellWork else Malformed
counted_request w (about ∷ []) = pair_request w about
counted_request w (name ∷ count ∷ []) =
    if bytes_eq w (codes "put") then put_request name count else Malformed
counted_request w (name ∷ from ∷ del ∷ count ∷ []) =
    if bytes_eq w (codes "splice") then splice_request name from del count else Malformed
counted_request w others = Malformed

-- the directories of `search` are the words after it, however many
abbrev pub request_of_words : List ℕ → List (List ℕ) → Request
request_of_words w ws =
    if bytes_eq w (codes "search") then Make (Search ws) else counted_request w ws

-- the body of `define` is all bytes after the second blank
abbrev pub define_request : List (List ℕ) → Request
define_request [] = Malformed
define_request (word ∷ rest) =
    if is_command_word word then Make (Define word (join_with_byte 32 rest)) else Malformed

-- all words are of bytes 33 to 126, but for those of a body
abbrev pub request_in_words : List (List ℕ) → Request
request_in_words [] = Malformed
request_in_words (w ∷ ws) =
    if bytes_eq w (codes "define") then define_request ws
    else (if list_all is_command_word (w ∷ ws) then request_of_words w ws else Malformed)

-- what is asked by a line, of which nothing may be kept
abbrev pub request_kept : Option (List ℕ) → Request
request_kept None = Malformed
request_kept (Some line) = request_in_words (words line)

-- what a command line asks for: one that is too long is malformed
abbrev pub request_of : List ℕ → Request
request_of line = request_kept (line_within longest_command line)

-- how many further lines it takes
abbrev pub lines_taken : Request → ℕ
lines_taken Malformed = 0
lines_taken (Place edit count) = count
lines_taken (Make edit) = 0
lines_taken (Ask question name) = 0
lines_taken TellWork = 0
