-- What explains a code or a refusal, and what is shown of it.
use Rattle.std.specs.Prelude.{◌≡◌, ◌++◌, ◌∷◌, ℕ, List, [], codes, decimal, map, nat_eq}
use Rattle.std.specs.Char.{to_ascii_lowercase}
use Rattle.std.specs.List.{flat_map, slice_split}
use Rattle.idl_fault.specs.Code.{code_text}
use Rattle.idl_source.specs.Refusal.{number_of}
use Rattle.idl_explain.specs.declared.explanation.Explanation.{Explanation}
use Rattle.idl_explain.specs.declared.explanation.ExampleOutcome.{ExampleOutcome}
use Rattle.idl_explain.specs.declared.explanation.ExampleOutcome.TheVariants.{Row, Refused}
use Rattle.idl_explain.specs.declared.explanation.Topic.{Topic}
use Rattle.idl_explain.specs.declared.explanation.Topic.TheVariants as topic
use Rattle.idl_explain.specs.declared.explanation.Words.{Words}
use Rattle.idl_explain.specs.declared.explanation.Words.TheVariants.{Whole, Around}

-- what an example is for
abbrev pub topic_of : ExampleOutcome → Topic
topic_of (Row line code token) = topic.Code code
topic_of (Refused refusal) = topic.Refusal refusal

-- what a user calls it: `E35` a code, and its number a refusal
abbrev pub label : Topic → List ℕ
label (topic.Code code) = code_text code
label (topic.Refusal refusal) = decimal (number_of refusal)

-- a word calls it so, in whatever case its letters are
abbrev pub Names : List ℕ → Topic → Type 0
Names word topic = map to_ascii_lowercase word ≡ map to_ascii_lowercase (label topic)

-- what a row and a reply call it
abbrev pub title : Topic → List ℕ
title (topic.Code code) = code_text code
title (topic.Refusal refusal) = codes "refused " ++ decimal (number_of refusal)

-- a token at the end of a row, if there is one
abbrev pub behind : List ℕ → List ℕ
behind [] = []
behind (b ∷ token) = 32 ∷ b ∷ token

-- the token of an example's row
abbrev pub token_of : ExampleOutcome → List ℕ
token_of (Row line code token) = token.now
token_of (Refused refusal) = []

-- an example's row, of the file `a.idl`; or the reply to it
abbrev pub row_of : ExampleOutcome → List ℕ
row_of (Row line code token) =
    codes "a.idl:" ++ decimal line ++ codes ": " ++ code_text code ++ behind token.now
row_of (Refused refusal) = title (topic.Refusal refusal)

-- what is said of a token
abbrev pub said : Words → List ℕ → List ℕ
said (Whole words) token = words.now
said (Around before behind) token = before.now ++ token ++ behind.now

-- a line with its end
abbrev pub ended : List ℕ → List ℕ
ended line = line ++ 10 ∷ []

-- a line behind four blanks
abbrev pub indented_line : List ℕ → List ℕ
indented_line line = codes "    " ++ ended line

abbrev pub indented : List ℕ → List ℕ
indented text = flat_map indented_line (slice_split (λ b. nat_eq b 10) text)

-- what is said of a token, on a line
abbrev pub headline : Explanation → List ℕ → List ℕ
headline explanation token =
    title (topic_of explanation.told) ++ codes ": " ++ ended (said explanation.words token)

-- all that is shown of it
abbrev pub shown : Explanation → List ℕ
shown explanation =
    headline explanation (token_of explanation.told)
    ++ indented explanation.example.now
    ++ row_of explanation.told ++ ended (codes "      mended:")
    ++ indented explanation.mended.now
    ++ ended explanation.hint.now
