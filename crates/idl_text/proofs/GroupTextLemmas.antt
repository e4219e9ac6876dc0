-- Lines of text, as they are read.
use Rattle.std.proofs.Common.{◌≡◌, ◌∙◌, ◌++◌, ◌∷◌, Bool, true, false, not, if◌then◌else◌, List, [], codes, map, refl, ap}
use Rattle.std.proofs.lemmas.List.{map-append}
use Rattle.std.proofs.lemmas.List.Elements.{All-head, All-tail}
use Rattle.std.specs.List.{All}
use Rattle.std.specs.Str.{bytes_eq}
use Rattle.idl_lex.specs.tokens.Tokens.{is_text, lines_of}
use Rattle.idl_lex.specs.declared.tokens.token.PlacedToken.{PlacedToken}
use Rattle.idl_text.specs.Line.{Text, after_hash, lines_from, read}

read-text : (line : List PlacedToken) → is_text line ≡ true → read line ≡ Text line
read-text [] is = refl
read-text (t ∷ line) is = by (bytes_eq t.token (codes "#")) is
  where
    by : (b : Bool) → not b ≡ true → (if b then after_hash t.line line else Text (t ∷ line)) ≡ Text (t ∷ line)
    by true is = absurd (cc)
    by false is = refl

read-texts : (lines : List (List PlacedToken)) → All (λ line. is_text line ≡ true) lines → map read lines ≡ map Text lines
read-texts [] all = refl
read-texts (line ∷ lines) all =
    (λ i. read-text line (All-head (λ line. is_text line ≡ true) line lines all) i ∷ read-texts lines (All-tail (λ line. is_text line ≡ true) line lines all) i)

-- lines of text that come first are read as such
pub lines_from-text : (left text rest : List PlacedToken) → lines_of left ≡ lines_of text ++ lines_of rest → All (λ line. is_text line ≡ true) (lines_of text)
    → lines_from left ≡ map Text (lines_of text) ++ lines_from rest
lines_from-text left text rest is all =
    ap (map read) is
    ∙ map-append read (lines_of text) (lines_of rest)
    ∙ ap (λ ls. ls ++ lines_from rest) (read-texts (lines_of text) all)
