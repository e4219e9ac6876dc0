-- Findings of a file in the order of lines, each once.
use Rattle.std.specs.Prelude.{◌≡◌, ◌≤◌, ℕ, Bool, ◌&&◌, List, [], ◌∷◌, ◌++◌, fold, map, nat_eq, if◌then◌else◌}
use Rattle.std.specs.List.{filter, list_any}
use Rattle.std.specs.Option.{option_eq}
use Rattle.std.specs.Str.{bytes_eq}
use Rattle.idl_fault.specs.Code.{number_of}
use Rattle.idl_finding.specs.declared.finding.Finding.{Finding}
use Rattle.idl_editor.specs.declared.told.found.FindingKey.{FindingKey}
use Rattle.idl_editor.specs.declared.told.found.RootFinding.{RootFinding}

-- so many findings of a file are told at most
abbrev pub most_told : ℕ
most_told = 1000

-- a finding is in a file
abbrev pub is_in : List ℕ → Finding → Bool
is_in name finding = bytes_eq finding.place.file name

-- two findings of a file tell the same
abbrev pub is_same : Finding → Finding → Bool
is_same a b =
    nat_eq a.place.line b.place.line && nat_eq (number_of a.code) (number_of b.code)
    && (option_eq bytes_eq a.text b.text && option_eq nat_eq a.number b.number)

-- what is compared, by which a finding is looked up
abbrev pub key_of : Finding → FindingKey
key_of finding = record {
  line = finding.place.line;
  code = number_of finding.code;
  text = finding.text;
  number = finding.number;
}

-- findings, and one more, unless one of them tells the same
abbrev pub with_one : List Finding → Finding → List Finding
with_one found one = if list_any (is_same one) found then found else found ++ one ∷ []

-- of findings that tell the same the first
abbrev pub each_once : List Finding → List Finding
each_once found = fold with_one [] found

-- a finding stands on this line
abbrev pub is_on : ℕ → Finding → Bool
is_on line finding = nat_eq line finding.place.line

-- none stands on a line before this one, or before that of an earlier one
abbrev pub AreFrom : ℕ → List Finding → Type 0
AreFrom line [] = Unit {0}
AreFrom line (finding ∷ found) =
    (line ≤ finding.place.line) × AreFrom finding.place.line found

-- findings in the order of lines: those of each line are the same ones, in the same order
pub record AreInOrder (found ordered : List Finding) : Type 0 where
  pub lines : AreFrom 0 ordered
  pub same : (line : ℕ) → filter (is_on line) ordered ≡ filter (is_on line) found

-- the findings alone
abbrev pub findings_in : List RootFinding → List Finding
findings_in found = map (λ one. one.finding.now) found
