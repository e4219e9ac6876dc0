-- The replies to commands, each of whole lines.
use Rattle.std.specs.Prelude.{ℕ, List, ◌++◌, length, codes, decimal, Option, None, Some, Result, Ok, Err, if◌then◌else◌}
use Rattle.std.specs.List.{flat_map}
use Rattle.idl_source.specs.names.Name.{is_name}
use Rattle.idl_source.specs.Refusal.{number_of}
use Rattle.idl_source.specs.declared.refusal.Refusal.{Refusal}
use Rattle.idl_source.specs.declared.refusal.Refusal.TheVariants.{BadName, NoSuchRoot}
use Rattle.idl_loader.specs.Lines.{number_line, whole_line}
use Rattle.idl_project.specs.declared.work.Work.{Work}

abbrev pub ok_reply : List ℕ
ok_reply = whole_line (codes "ok")

abbrev pub refused_reply : Refusal → List ℕ
refused_reply refusal = number_line (codes "refused ") (number_of refusal)

abbrev pub rows_reply : List (List ℕ) → List ℕ
rows_reply rows = number_line (codes "rows ") (length rows) ++ flat_map whole_line rows

-- the reply to an edit
abbrev pub edit_reply : Result Work Refusal → List ℕ
edit_reply (Ok work) = ok_reply
edit_reply (Err refusal) = refused_reply refusal

-- the reply to a question about the work: how many roots were expanded, declarations checked and
-- entries printed
abbrev pub work_reply : Work → List ℕ
work_reply work =
    whole_line
    (((codes "work " ++ decimal work.expanded) ++ (codes " " ++ decimal work.checked))
    ++ (codes " " ++ decimal work.printed))

abbrev pub found_reply : Option (List (List ℕ)) → List ℕ
found_reply None = refused_reply NoSuchRoot
found_reply (Some rows) = rows_reply rows

-- the reply to a query by what was found for the name
abbrev pub query_reply : List ℕ → Option (List (List ℕ)) → List ℕ
query_reply name rows = if is_name name then found_reply rows else refused_reply BadName
