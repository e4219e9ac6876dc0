-- What words are to a command: what clap finds among words that it takes, and what it tells of
-- others, by its `matches_of`, `subcommand_of` and `fault_of`.
use Rattle.std.specs.Prelude.{◌≡◌, ◌≢◌, ◌⊎◌, List, []}
use Rattle.clap.specs.Words.{App, IsAmong, Kinds, Text, fault_of, found_of, matches_of, rows_of, subcommand_of, subcommand_rows_of}
use Rattle.clap.specs.declared.error.kind.ErrorKind.{ErrorKind}
use Rattle.clap.specs.declared.error.kind.ErrorKind.TheVariants.{DisplayHelp, DisplayVersion, OutOfMemory}
use Rattle.idl_driver.specs.declared.words.ParsedWords.{ParsedWords}
use Rattle.idl_driver.specs.declared.words.ParsedWords.TheVariants as parsed
use Rattle.idl_driver.specs.declared.words.WordsFault.{WordsFault}
use Rattle.idl_driver.specs.declared.words.WordsFault.TheVariants.{Wrong, NoMemory}

-- clap's error shows how the program is used, or its version
abbrev pub IsDisplay : ErrorKind → Type 0
IsDisplay kind = (kind ≡ DisplayHelp) ⊎ (kind ≡ DisplayVersion)

-- it says that words are wrong
abbrev pub IsRefusal : ErrorKind → Type 0
IsRefusal kind = (kind ≢ DisplayHelp) × (kind ≢ DisplayVersion) × (kind ≢ OutOfMemory)

-- clap tells an error of this sort, among the kinds that it may tell of words
abbrev pub Tells : (ErrorKind → Type 0) → Kinds → Type 0
Tells sort kinds = (kind : ErrorKind) × IsAmong kind kinds × sort kind

-- what words are to a program that takes them, or that has a text for them
abbrev pub IsParsedBy : App → List Text → ParsedWords → Type 0
IsParsedBy app words (parsed.Taken matches) = (fault_of app words ≡ [])
    × (rows_of (found_of matches) ≡ matches_of app words)
    × (subcommand_rows_of matches ≡ subcommand_of app words)
IsParsedBy app words (parsed.Text text) = Tells IsDisplay (fault_of app words)

-- a fault says that words are wrong so, if there was memory to read them
abbrev pub SaysWrong : Type 0 → WordsFault → Type 0
SaysWrong wrong (Wrong text) = wrong
SaysWrong wrong NoMemory = Unit {0}
