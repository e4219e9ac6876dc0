-- The rows that answer a question, and rows that are lent.
use Rattle.std.specs.Prelude.{ℕ, List, Option}
use Rattle.idl_inputs.specs.Project.{Project}
use Rattle.idl_project.specs.UpToDate.{diagnostics_of, listing_of, dump_of, absent_of}
use Rattle.idl_session.specs.declared.heading.RootQuery.{RootQuery}
use Rattle.idl_session.specs.declared.heading.RootQuery.TheVariants.{Diagnostics, Listing, Dump, Absent}
use Rattle.idl_session.specs.declared.rows.Rows.{Rows}
use Rattle.idl_session.specs.declared.rows.Rows.TheVariants as rows

-- the rows that answer a question about a name, if it is that of a root
abbrev pub rows_for : Project → RootQuery → List ℕ → Option (List (List ℕ))
rows_for project Diagnostics name = diagnostics_of project name
rows_for project Listing name = listing_of project name
rows_for project Dump name = dump_of project name
rows_for project Absent name = absent_of project name

-- rows that are lent, each as a list of bytes, whatever it is a row of
abbrev pub rows_of : Rows → List (List ℕ)
rows_of (rows.Texts texts) = texts.now
rows_of (rows.Names names) = names.now
