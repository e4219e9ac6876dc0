-- The edits of a project: what it is after each, or why the edit is refused.
use Rattle.std.specs.Prelude.{ℕ, Bool, true, false, ◌&&◌, ◌||◌, List, [], ◌∷◌, ◌++◌, length, nat_le, nat_lt, not, Result, Ok, Err, if◌then◌else◌}
use Rattle.std.specs.List.{list_all, list_any}
use Rattle.std.specs.Map.{remove_entry}
use Rattle.std.specs.Set.{remove_key}
use Rattle.std.specs.Str.{bytes_eq}
use Rattle.indexmap.specs.IndexMap.{insert_entry}
use Rattle.idl_source.specs.names.Directory.{is_directory}
use Rattle.idl_source.specs.Limits.{longest_body, longest_line, most_directories, most_lines, most_macros, most_roots}
use Rattle.idl_source.specs.names.Name.{is_name}
use Rattle.idl_source.specs.texts.Texts.{after_put, after_splice, after_remove}
use Rattle.idl_source.specs.declared.refusal.Refusal.{Refusal}
use Rattle.idl_source.specs.declared.refusal.Refusal.TheVariants.{BadName, OverLimit, BadMacro, NoSuchRoot, RootThere}
use Rattle.idl_inputs.specs.Project.{Macros, Project, is_defined, is_root, with_files, with_macros, with_search, with_roots}
use Rattle.idl_macro.specs.Words.{is_macro_word}

-- an edit: lines of a file, in place of all of its lines or of DEL lines from line FROM on; no
-- file; a macro, or none; the directories of the search list; a root, or none
pub data Edit : Type 0 where
  Put : (name : List ℕ) (lines : List (List ℕ)) → Edit
  Splice : (name : List ℕ) (from del : ℕ) (lines : List (List ℕ)) → Edit
  Remove : (name : List ℕ) → Edit
  Define : (word body : List ℕ) → Edit
  Undef : (word : List ℕ) → Edit
  Search : (directories : List (List ℕ)) → Edit
  AddRoot : (name : List ℕ) → Edit
  DropRoot : (name : List ℕ) → Edit

-- a macro with this word and this body goes past a limit; one that is there takes the new body
abbrev pub is_macro_over : Macros → List ℕ → List ℕ → Bool
is_macro_over macros word body =
    nat_lt longest_body (length body)
    || (nat_le most_macros (length macros) && not (is_defined macros word))

-- the macros with this one, or the least refusal
abbrev pub macros_with : Macros → List ℕ → List ℕ → Result Macros Refusal
macros_with macros word body =
    if is_macro_over macros word body then Err OverLimit
    else (if is_macro_word word then Ok (insert_entry bytes_eq macros word body) else Err BadMacro)

-- the macros without that of a word, or the refusal; there need be none
abbrev pub macros_without : Macros → List ℕ → Result Macros Refusal
macros_without macros word =
    if is_macro_word word then Ok (remove_entry (bytes_eq word) macros) else Err BadMacro

-- a search list, or the least refusal
abbrev pub search_list : List (List ℕ) → Result (List (List ℕ)) Refusal
search_list directories =
    if list_all is_directory directories
    then (if nat_lt most_directories (length directories) then Err OverLimit
    else Ok directories) else Err BadName

-- the roots with one more, or the least refusal
abbrev pub roots_with : Project → List ℕ → Result (List (List ℕ)) Refusal
roots_with project name =
    if not (is_name name) then Err BadName
    else (if is_root project name then Err RootThere
    else (if nat_le most_roots (length project.roots) then Err OverLimit
    else Ok (project.roots ++ name ∷ [])))

-- the roots with one less, or the least refusal
abbrev pub roots_without : Project → List ℕ → Result (List (List ℕ)) Refusal
roots_without project name =
    if not (is_name name) then Err BadName
    else (if is_root project name then Ok (remove_key (bytes_eq name) project.roots)
    else Err NoSuchRoot)

-- what is made of an accepted part, or the refusal
abbrev pub result_map : {X Y : Type 0} → (X → Y) → Result X Refusal → Result Y Refusal
result_map f (Ok x) = Ok (f x)
result_map f (Err refusal) = Err refusal

-- the project after an edit, or the least refusal
abbrev pub after : Project → Edit → Result Project Refusal
after project (Put name lines) =
    result_map (with_files project) (after_put project.inputs.files name lines)
after project (Splice name from del lines) =
    result_map (with_files project) (after_splice project.inputs.files name from del lines)
after project (Remove name) =
    result_map (with_files project) (after_remove project.inputs.files name)
after project (Define word body) =
    result_map (with_macros project) (macros_with project.inputs.macros word body)
after project (Undef word) =
    result_map (with_macros project) (macros_without project.inputs.macros word)
after project (Search directories) = result_map (with_search project) (search_list directories)
after project (AddRoot name) = result_map (with_roots project) (roots_with project name)
after project (DropRoot name) = result_map (with_roots project) (roots_without project name)

-- lines that are too many, or of which one is too long, for any file
abbrev pub are_too_long : List (List ℕ) → Bool
are_too_long lines =
    nat_lt most_lines (length lines) || list_any (λ line. nat_lt longest_line (length line)) lines

-- all edits take memory but one: a root is dropped without
abbrev pub takes_memory : Edit → Bool
takes_memory (DropRoot name) = false
takes_memory other = true
