-- What is left of a source whose bytes come through a feed.
use Rattle.std.specs.Prelude.{◌≡◌, ℕ, ◌+◌, ◌*◌, ◌<◌, ◌≤◌, Bool, true, false, List, [], ◌∷◌, ◌++◌, length, Option, IfSome, if◌then◌else◌}
use Rattle.std.specs.Option.{option_map}
use Rattle.idl_source.specs.devices.Device.{prepend}
use Rattle.idl_session.specs.Lines.{lines_of, whole_lines, line_within}

-- the bytes that were read and not yet taken, and whether the source has told its end
pub record Fed : Type 0 where
  pub bytes : List ℕ
  pub ended : Bool

-- the bytes to come, as far as the source tells, and whether it has told its end
pub record Stream : Type 0 where
  pub bytes : Option (List ℕ)
  pub ended : Bool

-- nothing more is read once the end was told
abbrev pub rest_after : Bool → Option (List ℕ) → Option (List ℕ)
rest_after ended rest = if ended then option_map (λ _. []) rest else rest

-- what comes of the feed, and then of the source
abbrev pub stream_of : Option (List ℕ) → Fed → Stream
stream_of rest fed =
    record { bytes = prepend fed.bytes (rest_after fed.ended rest); ended = fed.ended }

-- what a source has of which all that was read is taken
abbrev pub unread : Option (List ℕ) → Stream
unread rest = record { bytes = rest; ended = false }

-- a stream with these bytes before it
abbrev pub onto : List ℕ → Stream → Stream
onto bytes stream = record stream { bytes = prepend bytes stream.bytes }

-- nothing is left, as far as is known
abbrev pub IsOver : {X : Type 0} → Option (List X) → Type 0
IsOver rest = IfSome rest (λ xs. xs ≡ [])

-- the source told its end, and nothing is left
abbrev pub IsAtEnd : Stream → Type 0
IsAtEnd stream = (stream.ended ≡ true) × IsOver stream.bytes

-- a bound on how often a byte may still come
abbrev pub fuel : ℕ → Fed → ℕ
fuel reads fed = reads * 4097 + length fed.bytes

-- bytes were taken, and they are these lines with a newline behind each
pub record TakesWhole (old new : Stream) (lines : List (List ℕ)) : Type 0 where
  pub bytes : List ℕ
  pub taken : old ≡ onto bytes new
  pub cut : (rest : List ℕ) → whole_lines (bytes ++ rest) ≡ lines ++ whole_lines rest

-- lines were taken; where the end has not come, each had its newline
pub record TakesLines (old new : Stream) (lines : List (List ℕ)) : Type 0 where
  pub taken : option_map lines_of old.bytes ≡ prepend lines (option_map lines_of new.bytes)
  pub whole : new.ended ≡ false → TakesWhole old new lines

-- one line was taken, and this is kept of it
abbrev pub TakesLine : ℕ → Stream → Stream → Option (List ℕ) → Type 0
TakesLine n old new held =
    (line : List ℕ) × TakesLines old new (line ∷ []) × (held ≡ line_within n line)

-- so many lines were taken, or fewer at the end
abbrev pub IsTakenBy : ℕ → List (List ℕ) → Stream → Type 0
IsTakenBy n lines new = (length lines ≤ n) × (length lines < n → IsAtEnd new)

-- a read failed before so many whole lines were taken; this is what the source still has
pub record FailsWithin (n : ℕ) (old : Stream) (rest : Option (List ℕ)) : Type 0 where
  pub bytes : List ℕ
  pub taken : old ≡ onto bytes (unread rest)
  pub few : length (whole_lines bytes) < n
