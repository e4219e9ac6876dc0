-- The names of a root that have an id, and what comes of them at its end.
use Rattle.std.specs.Prelude.{ℕ, ◌-◌, List, [], ◌∷◌, length, map, option_to_list}
use Rattle.std.specs.Option.{option_map}
use Rattle.idl_event.specs.declared.told.site.Site.{Site}
use Rattle.idl_memo.specs.Query.{outcome}
use Rattle.idl_repo.specs.Entry.{entry}
use Rattle.idl_repo.specs.declared.entry.Entry.{Entry}
use Rattle.idl_finding.specs.Findings.{fault_finding, tokens_of}
use Rattle.idl_root.specs.Judged.{Judged}
use Rattle.idl_finding.specs.declared.finding.EventFinding.{EventFinding}
use Rattle.idl_root.specs.declared.compiling.printing.Sought.{Sought}
use Rattle.idl_env.specs.Facts.{UnitFacts, answers}
use Rattle.idl_env.specs.declared.additions.addition.Addition.{Addition}
use Rattle.idl_env.specs.declared.additions.addition.Addition.TheVariants.{Declares, Uses, UsesFurther, Appears, Identifies, TypePrefixes}
use Rattle.idl_unit.specs.TokenRules.{fault_at}
use Rattle.idl_unit.specs.declared.unit.UnitText.{UnitText}

-- a name that has an id: its path, and the text of the unit that declares it first, with the places
-- of its tokens
pub record Listed : Type 0 where
  pub path : List (List ℕ)
  pub text : UnitText
  pub sites : List Site

-- the paths of the names that are declared first, of those that have an id
abbrev pub first_paths : List Addition → List (List (List ℕ))
first_paths [] = []
first_paths (Declares e ∷ additions) = first_paths additions
first_paths (Uses n path body ∷ additions) = first_paths additions
first_paths (UsesFurther n path further ∷ additions) = first_paths additions
first_paths (Appears path prefix ∷ additions) = path ∷ first_paths additions
first_paths (Identifies path identity ∷ additions) = first_paths additions
first_paths (TypePrefixes path text ∷ additions) = first_paths additions

-- the path of the name that an addition declares first, of one that has an id
abbrev pub first_path : Addition → List (List (List ℕ))
first_path (Appears path prefix) = path ∷ []
first_path other = []

-- the names at these paths, which a unit with these tokens declares first
abbrev pub listed_with : UnitText → List Site → List (List (List ℕ)) → List Listed
listed_with text sites paths =
    map (λ path. record { path = path; text = text; sites = sites }) paths

-- those of a unit
abbrev pub listed_in : Judged → List Listed
listed_in j = listed_with j.text j.sites (first_paths j.verdict.writes.additions)

-- the entry of the name at a path over facts
abbrev pub entry_over : List UnitFacts → List (List ℕ) → Entry
entry_over facts path = outcome (entry path) (answers facts)

-- the row of a name, if it has one
abbrev pub entry_row : List UnitFacts → Listed → List (List ℕ)
entry_row facts l = option_to_list (entry_over facts l.path).row

-- the number of the token before the last: a declaration ahead ends in its name and `;`
abbrev pub name_index : UnitText → ℕ
name_index text = length (tokens_of text) - 2

-- what is wrong with a name at the end, at that name where it was declared ahead
abbrev pub closing_finding : List UnitFacts → Listed → List EventFinding
closing_finding facts l =
    fault_finding l.text l.sites
    (option_map (fault_at (name_index l.text)) (entry_over facts l.path).fault)

-- a name that is looked up over facts, and its row and what is wrong with it over these
abbrev pub sought_at : Sought → Listed
sought_at s = record { path = s.answered.1; text = s.unit.text.now; sites = s.unit.sites.now }

abbrev pub sought_row : Sought → List (List ℕ)
sought_row s = entry_row s.answered.0 (sought_at s)

abbrev pub sought_finding : Sought → List EventFinding
sought_finding s = closing_finding s.answered.0 (sought_at s)
