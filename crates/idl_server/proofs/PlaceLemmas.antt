-- Ranges of lines, and of tokens.
use Rattle.std.proofs.Common.{◌≡◌, ◌≤◌, ◌∙◌, ◌⊎◌, ℕ, zero, suc, ◌+◌, ◌*◌, All, Bool, true, false, cond, List, [], ◌∷◌, ◌++◌, Some, ap, arith, inl, inr, length, pred, refl, subst, sym, take}
use Rattle.std.proofs.lemmas.List.{take_all}
use Rattle.std.proofs.lemmas.List.Elements.{All-cons, All-head, All-nil, All-tail}
use Rattle.std.proofs.lemmas.Option.{same_Some}
use Rattle.std.specs.Cmp.Lexicographic.{bytes_decides}
use Rattle.std.specs.List.{slice_get, sum_by}
use Rattle.std.specs.Map.{lookup}
use Rattle.std.specs.Option.{unwrap_or}
use Rattle.std.specs.Str.{bytes_eq}
use Rattle.indexmap.specs.IndexMap.{insert_entry}
use Rattle.idl_source.specs.Limits.{longest_line}
use Rattle.idl_inputs.specs.Project.{Project}
use Rattle.idl_inputs.specs.WithinLimits.{IsAllowedFile}
use Rattle.idl_editor.specs.declared.change.Range.{Range}
use Rattle.idl_editor.specs.declared.column.Encoding.{Encoding}
use Rattle.idl_editor.specs.declared.position.Position.{Position}
use Rattle.idl_editor.specs.Places.{line_range, position_behind, position_in, returns}
use Rattle.idl_server.specs.Places.{AreCounts, AreOfProject, lines_of}

-- a line of a file, and one that isn't there
abbrev line_at : List (List ℕ) → ℕ → List ℕ
line_at lines at = unwrap_or (slice_get lines at) []

short-line : (lines : List (List ℕ)) (at : ℕ) → All (λ line. length line ≤ longest_line) lines → length (line_at lines at) ≤ longest_line
short-line [] at all = omega arith
short-line (line ∷ lines) zero all = all 0 [] (omega arith)
short-line (line ∷ lines) (suc at) all = short-line lines at (λ k d h. all (suc k) d (omega (arith, h)))

take-past : (bytes : List ℕ) (n m : ℕ) → length bytes ≤ n → length bytes ≤ m → take n bytes ≡ take m bytes
take-past bytes n m a b = take_all n bytes a ∙ sym (take_all m bytes b)

-- behind the end of a line is its end
position-past : (encoding : Encoding) (lines : List (List ℕ)) (number n m : ℕ) → length (line_at lines (pred number)) ≤ n → length (line_at lines (pred number)) ≤ m
    → position_in encoding lines number n ≡ position_in encoding lines number m
position-past encoding lines zero n m a b = refl
position-past encoding lines (suc at) n m a b = ap (λ bytes. position_behind encoding (at + sum_by returns (take at lines)) bytes) (take-past (line_at lines at) n m a b)

-- ranges by their ends
range-of_ends : (range : Range) (start end : Position) → range.start ≡ start → range.end ≡ end → range ≡ record { start = start; end = end }
range-of_ends range start end a b = ap (λ s. made s range.end) a ∙ ap (λ e. made start e) b
  where
    made : Position → Position → Range
    made s e = record { start = s; end = e }

pub line-range : (encoding : Encoding) (lines : List (List ℕ)) (number past : ℕ) (range : Range) → IsAllowedFile lines → longest_line ≤ past
    → range.start ≡ position_in encoding lines number 0 → range.end ≡ position_in encoding lines number past → range ≡ line_range encoding lines number
line-range encoding lines number past range allowed le start end =
    let short = short-line lines (pred number) allowed.long in
    range-of_ends range (position_in encoding lines number 0) (position_in encoding lines number (length (line_at lines (pred number)))) start
    (end ∙ position-past encoding lines number past (length (line_at lines (pred number))) (omega (arith, short, le)) (omega arith))

-- ---- what was counted

pub none-counted : (lines : List (List ℕ)) → AreCounts lines []
none-counted lines index count found = absurd (cc)

get-pushed : (xs : List ℕ) (x m y : ℕ) → slice_get (xs ++ x ∷ []) m ≡ Some y → (slice_get xs m ≡ Some y) ⊎ ((m ≡ length xs) × (x ≡ y))
get-pushed [] x zero y h = inr (refl, same_Some x y h)
get-pushed [] x (suc m) y h = absurd (cc)
get-pushed (z ∷ xs) x zero y h = inl h
get-pushed (z ∷ xs) x (suc m) y h = by (get-pushed xs x m y h)
  where
    by : (slice_get xs m ≡ Some y) ⊎ ((m ≡ length xs) × (x ≡ y)) → (slice_get (z ∷ xs) (suc m) ≡ Some y) ⊎ ((suc m ≡ length (z ∷ xs)) × (x ≡ y))
    by (inl found) = inl found
    by (inr last) = inr (ap suc last.0, last.1)

pub counts-more : (lines : List (List ℕ)) (counts : List ℕ) (i count : ℕ) → AreCounts lines counts → length counts ≡ i → count ≡ sum_by returns (take i lines) → count ≤ longest_line * length lines
    → AreCounts lines (counts ++ count ∷ [])
counts-more lines counts i count are many is few index other found = by (get-pushed counts count index other found)
  where
    by : (slice_get counts index ≡ Some other) ⊎ ((index ≡ length counts) × (count ≡ other)) → (other ≡ sum_by returns (take index lines)) × (other ≤ longest_line * length lines)
    by (inl before) = are index other before
    by (inr last) =
        (sym last.1 ∙ is ∙ ap (λ (n : ℕ). sum_by returns (take n lines)) (sym (last.0 ∙ many)), subst (λ (n : ℕ). n ≤ longest_line * length lines) last.1 few)

-- ---- files that are counted

module _ (project : Project) (name : List ℕ) (lines : List (List ℕ)) where
  abbrev IsOfProject : List ℕ × List (List ℕ) → Type 0
  IsOfProject file = file.1 ≡ lines_of project file.0

  -- one that is found is of its name
  pub found-file : (files : List (List ℕ × List (List ℕ))) → AreOfProject project files → lookup (bytes_eq name) files ≡ Some lines → lines ≡ lines_of project name
  found-file [] are is = cc
  found-file (b ∷ files) are is = by (bytes_eq name b.0) refl is (found-file files (All-tail IsOfProject b files are))
    where
      by : (x : Bool) → bytes_eq name b.0 ≡ x → cond x (Some b.1) (lookup (bytes_eq name) files) ≡ Some lines → (lookup (bytes_eq name) files ≡ Some lines → lines ≡ lines_of project name)
          → lines ≡ lines_of project name
      by true same found later =
          sym (same_Some b.1 lines found) ∙ All-head IsOfProject b files are ∙ ap (lines_of project) (sym ((bytes_decides name b.0).0 same))
      by false other found later = later found

  -- one more
  pub with-file : lines ≡ lines_of project name → (files : List (List ℕ × List (List ℕ))) → AreOfProject project files → AreOfProject project (insert_entry bytes_eq files name lines)
  with-file of [] are = All-cons IsOfProject (name, lines) [] of (All-nil IsOfProject)
  with-file of (b ∷ files) are = by (bytes_eq name b.0) refl (with-file of files (All-tail IsOfProject b files are))
    where
      by : (x : Bool) → bytes_eq name b.0 ≡ x → AreOfProject project (insert_entry bytes_eq files name lines) → AreOfProject project (cond x ((b.0, lines) ∷ files) (b ∷ insert_entry bytes_eq files name lines))
      by true same later = All-cons IsOfProject (b.0, lines) files (of ∙ ap (lines_of project) ((bytes_decides name b.0).0 same)) (All-tail IsOfProject b files are)
      by false other later = All-cons IsOfProject b (insert_entry bytes_eq files name lines) (All-head IsOfProject b files are) later

-- before the first is counted
pub none-of_project : (project : Project) → AreOfProject project []
none-of_project project = All-nil (λ (file : List ℕ × List (List ℕ)). file.1 ≡ lines_of project file.0)
