-- Folders of a workspace, and the names of the files in them.
use Rattle.std.specs.Prelude.{◌≡◌, ℕ, Bool, true, not, ◌&&◌, ◌||◌, List, [], ◌∷◌, ◌++◌, ◌<◌, codes, is_none, is_some, length, nat_eq, take, slice_index_or, Option, None, Some, option_and_then, if◌then◌else◌}
use Rattle.std.specs.List.{list_all}
use Rattle.std.specs.Option.{option_map, option_or, unwrap_or}
use Rattle.idl_source.specs.names.Name.{is_name, is_visible}
use Rattle.idl_source.specs.names.Path.{is_rooted}
use Rattle.percent_encoding.specs.Percent.{percent_decode, percent_sign}
use Rattle.idl_editor.specs.uris.Uri.{behind, escaped_but}

-- a folder's path, and what the names of its files begin with
pub record FolderNamed : Type 0 where
  pub path : List ℕ
  pub front : List ℕ

-- a byte stands in a name as it is: one that names have, and no `%`
abbrev pub stands_in_names : ℕ → Bool
stands_in_names b = is_visible b && not (nat_eq b percent_sign)

-- a path as names have it
abbrev pub escaped : List ℕ → List ℕ
escaped path = escaped_but stands_in_names path

-- a path leads out of where it counts from: a whole one, or one that begins with a step up
abbrev pub leads_out : List ℕ → Bool
leads_out path = is_rooted path || is_some (behind (codes "../") path)

-- the name of a file in a folder: what the names of its files begin with, and its path there
abbrev pub name_behind : FolderNamed → Option (List ℕ) → Option (List ℕ)
name_behind folder None = None
name_behind folder (Some path) =
    if leads_out path then None else Some (folder.front ++ escaped path)

-- what stands in a folder is behind its path and a `/`
abbrev pub name_in : FolderNamed → List ℕ → Option (List ℕ)
name_in folder path =
    name_behind folder (option_and_then (behind (47 ∷ [])) (behind folder.path path))

-- the name that the first folder gives that a file is in
abbrev pub name_among : List FolderNamed → List ℕ → Option (List ℕ)
name_among [] path = None
name_among (folder ∷ folders) path =
    option_or (name_in folder path) (name_among folders path)

-- the name of the file at a path: in a folder, or else its whole path
abbrev pub name_of : List FolderNamed → List ℕ → List ℕ
name_of folders path = unwrap_or (name_among folders path) (escaped path)

-- the same, where it is a name
abbrev pub named : List ℕ → Option (List ℕ)
named name = if is_name name then Some name else None

-- what doesn't lead out
abbrev pub staying : Option (List ℕ) → Option (List ℕ)
staying None = None
staying (Some rest) = if leads_out rest then None else Some rest

-- what stands in the name of a file in a folder behind what names there begin with
abbrev pub rest_in : FolderNamed → List ℕ → Option (List ℕ)
rest_in folder name = staying (behind folder.front name)

-- the path that a name leads to in a folder
abbrev pub path_in : FolderNamed → List ℕ → Option (List ℕ)
path_in folder name =
    option_map (λ rest. folder.path ++ 47 ∷ percent_decode rest) (rest_in folder name)

abbrev pub path_among : List FolderNamed → List ℕ → Option (List ℕ)
path_among [] name = None
path_among (folder ∷ folders) name =
    option_or (path_in folder name) (path_among folders name)

-- the path that a name leads to
abbrev pub path_for : List FolderNamed → List ℕ → Option (List ℕ)
path_for folders name =
    if is_rooted name then Some (percent_decode name) else path_among folders name

-- neither of two begins the other
abbrev pub are_apart : List ℕ → List ℕ → Bool
are_apart a b = is_none (behind a b) && is_none (behind b a)

-- the second is the first with a step up behind it, and maybe more
abbrev pub goes_up : List ℕ → List ℕ → Bool
goes_up a b = is_some (option_and_then (behind (codes "../")) (behind a b))

-- what stays in a folder and begins with the first doesn't begin with the second
abbrev pub are_told_apart : List ℕ → List ℕ → Bool
are_told_apart a b = are_apart a b || goes_up a b

-- names that begin so are told from those of the folders, and from whole paths
abbrev pub may_be_added : List FolderNamed → List ℕ → Bool
may_be_added folders front =
    not (is_rooted front) && list_all (λ folder. are_told_apart folder.front front) folders

-- the folders were added one after another
abbrev pub AreApart : List FolderNamed → Type 0
AreApart folders = (k : ℕ) (d : FolderNamed) → k < length folders
    → may_be_added (take k folders) (slice_index_or folders k d).front ≡ true
