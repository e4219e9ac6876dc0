-- The files of a project: a finite map from names to lists of lines.
use Rattle.std.specs.Prelude.{ℕ, Bool, ◌+◌, ◌-◌, ◌&&◌, ◌||◌, ◌++◌, List, is_none, nat_le, nat_lt, length, take, drop, Option, None, Some, Result, Ok, Err, if◌then◌else◌}
use Rattle.std.specs.Coded.{Coded, coded_list, coded_ℕ}
use Rattle.std.specs.List.{list_any}
use Rattle.std.specs.Ordering.{nat_cmp}
use Rattle.std.specs.Cmp.Lexicographic.{slice_cmp}
use Rattle.std.specs.FinMap as map
use Rattle.idl_source.specs.Limits.{most_files, most_lines, longest_line}
use Rattle.idl_source.specs.names.Name.{is_name}
use Rattle.idl_source.specs.declared.refusal.Refusal.{Refusal}
use Rattle.idl_source.specs.declared.refusal.Refusal.TheVariants.{BadName, NoSuchFile, OutsideFile, OverLimit}

-- files by name: each is a list of lines, and a line a list of bytes
abbrev pub Texts : Type 0
Texts = map.FinMap (slice_cmp nat_cmp) (List (List ℕ))

abbrev pub texts_code : Coded Texts
texts_code = map.code (coded_list coded_ℕ) (coded_list (coded_list coded_ℕ))

-- a file of these lines under this name goes past a limit
abbrev pub is_over : Texts → List ℕ → List (List ℕ) → Bool
is_over files name lines =
    nat_lt most_lines (length lines)
    || (list_any (λ line. nat_lt longest_line (length line)) lines
    || (nat_le most_files (map.len files) && is_none (map.get files name)))

-- the files after a put, or the least refusal
abbrev pub after_put : Texts → List ℕ → List (List ℕ) → Result Texts Refusal
after_put files name lines =
    if is_name name
    then (if is_over files name lines then Err OverLimit else Ok (map.insert files name lines))
    else Err BadName

-- lines FROM to FROM + DEL - 1 are in the file; 1 is the first
abbrev pub is_inside : List (List ℕ) → ℕ → ℕ → Bool
is_inside old from del = nat_le 1 from && nat_le (from - 1 + del) (length old)

-- the lines with new ones in the place of those
abbrev pub spliced : List (List ℕ) → ℕ → ℕ → List (List ℕ) → List (List ℕ)
spliced old from del lines = take (from - 1) old ++ (lines ++ drop (from - 1 + del) old)

-- they are too many, or a new one is too long
abbrev pub is_splice_over : List (List ℕ) → ℕ → ℕ → List (List ℕ) → Bool
is_splice_over old from del lines =
    nat_lt most_lines (length (spliced old from del lines))
    || list_any (λ line. nat_lt longest_line (length line)) lines

-- the files after a splice of this file, or the least refusal
abbrev pub after_splice_of : Texts → List ℕ → Option (List (List ℕ)) → ℕ → ℕ → List (List ℕ)
    → Result Texts Refusal
after_splice_of files name None from del lines = Err NoSuchFile
after_splice_of files name (Some old) from del lines =
    if is_inside old from del
    then (if is_splice_over old from del lines then Err OverLimit
    else Ok (map.insert files name (spliced old from del lines)))
    else Err OutsideFile

abbrev pub after_splice : Texts → List ℕ → ℕ → ℕ → List (List ℕ) → Result Texts Refusal
after_splice files name from del lines =
    if is_name name then after_splice_of files name (map.get files name) from del lines
    else Err BadName

-- the files after a removal, or the least refusal
abbrev pub after_remove : Texts → List ℕ → Result Texts Refusal
after_remove files name =
    if is_name name
    then (if is_none (map.get files name) then Err NoSuchFile else Ok (map.remove files name))
    else Err BadName
