-- The claim: what a session answers is what compiling the present project from scratch gives.
use Rattle.std.specs.Prelude.{◌≡◌, ℕ, Bool, List, All, Option, None, Some, refl, length, if◌then◌else◌, ◌+◌, [], ◌∷◌}
use Rattle.std.specs.Coded.{Coded, code_by, coded×, coded_ℕ}
use Rattle.std.specs.Map.{keys_of}
use Rattle.std.specs.Option.{option_map}
use Rattle.idl_event.specs.declared.asked.key.RootAnswer.{RootAnswer}
use Rattle.idl_event.specs.Key.{key_eq}
use Rattle.idl_event.specs.declared.asked.key.RootKey.{RootKey}
use Rattle.idl_memo.specs.Kept.{HoldsOver}
use Rattle.idl_prep.specs.Root.{expanded, expansion}
use Rattle.idl_sources.specs.idl_root.Results.{root_marks}
use Rattle.idl_sources.specs.idl_root.Turns.{FitsU64}
use Rattle.idl_finding.specs.declared.finding.Finding.{Finding}
use Rattle.idl_sources.specs.idl_root.declared.kept.keeper.Keeper.{Keeper}
use Rattle.idl_inputs.specs.Bank.{bank_of}
use Rattle.idl_sources.specs.Compile.{compiled_root, compile_over}
use Rattle.idl_inputs.specs.Project.{Inputs, Project, project_code, is_root, names_code}
use Rattle.idl_project.specs.Tasks.{kept_entries, kept_texts}
use Rattle.idl_inputs.specs.WellFormed.{IsWellFormed}
use Rattle.idl_sources.specs.declared.compile.CompiledRoot.{CompiledRoot}
use Rattle.idl_project.specs.declared.kept_root.KeptRoot.{KeptRoot}
use Rattle.idl_project.specs.declared.work.Work.{Work}

-- what contracts see of a session: the project, the work of the last accepted edit, and the roots
-- that this expanded anew
pub record State : Type 0 where
  pub project : Project
  pub work : Work
  pub touched : List (List ℕ)

-- what a root compiles to from scratch; another name compiles to nothing
abbrev pub compiled_of : Project → List ℕ → Option CompiledRoot
compiled_of project name =
    if is_root project name then Some (compiled_root project.inputs name) else None

-- what is found that is answered for a name
abbrev pub findings_of : Project → List ℕ → Option (List Finding)
findings_of project name = option_map (λ root. root.rows.findings) (compiled_of project name)

-- the diagnostics that are answered for a name
abbrev pub diagnostics_of : Project → List ℕ → Option (List (List ℕ))
diagnostics_of project name = option_map (λ root. root.rows.diagnostics) (compiled_of project name)

-- the listing that is answered for a name
abbrev pub listing_of : Project → List ℕ → Option (List (List ℕ))
listing_of project name = option_map (λ root. root.rows.listing) (compiled_of project name)

-- the dump that is answered for a name
abbrev pub dump_of : Project → List ℕ → Option (List (List ℕ))
dump_of project name = option_map (λ root. root.rows.dump) (compiled_of project name)

-- whether there is an error among the diagnostics that are answered for a name
abbrev pub is_faulty_of : Project → List ℕ → Option Bool
is_faulty_of project name = option_map (λ root. root.rows.is_faulty) (compiled_of project name)

-- the absent files that are answered for a name
abbrev pub absent_of : Project → List ℕ → Option (List (List ℕ))
absent_of project name = option_map (λ root. root.absent) (compiled_of project name)

-- what is kept of a root is what its task over these answers leaves, what compiling it over them
-- gives, and what its units are; and words count what these add
pub record IsKept (bank : RootKey → Option RootAnswer) (root : List ℕ × KeptRoot) : Type 0 where
  pub text : root.1.result.value.text ≡ root.0
  pub over : HoldsOver key_eq expansion bank root.1.result.value
  pub rows : root.1.compiled.value ≡ compile_over bank root.0
  pub marks : root.1.marks.value ≡ root_marks (expanded root.0 bank).0
  pub within : FitsU64 (expanded root.0 bank).0

-- that is so of each root
abbrev pub AreKept : (RootKey → Option RootAnswer) → List (List ℕ × KeptRoot) → Type 0
AreKept bank held = All (λ root. IsKept bank root) held

-- the project of these inputs and of the roots that are held
abbrev pub project_held : Inputs → List (List ℕ × KeptRoot) → Project
project_held inputs held = record { inputs = inputs; roots = keys_of held }

-- what is held of a session: a well-formed project, with each root what is kept of it, and the
-- results of the declarations, blocks and entries of all roots
pub record IsUpToDate (inputs : Inputs) (held : List (List ℕ × KeptRoot)) (keeper : Keeper)
    : Type 0 where
  pub formed : IsWellFormed (project_held inputs held)
  pub kept : AreKept (bank_of inputs) held
  pub texts : keeper.texts ≡ kept_texts (bank_of inputs) (keys_of held)
  pub entries : keeper.entries ≡ kept_entries (bank_of inputs) (keys_of held)

-- how many keys these roots asked
abbrev pub keys_asked : List (List ℕ × KeptRoot) → ℕ
keys_asked [] = 0
keys_asked (root ∷ held) = length root.1.result.value.log + keys_asked held

-- a state is stored as the tuple of its parts
abbrev pub state_code : Coded State
state_code =
    code_by (Project × (((ℕ × ℕ) × (ℕ × ℕ)) × List (List ℕ)))
    (coded× project_code
    (coded× (coded× (coded× coded_ℕ coded_ℕ) (coded× coded_ℕ coded_ℕ)) names_code))
    (λ s. (
      s.project,
      (
        ((s.work.expanded, s.work.checked), (s.work.printed, s.work.compared)),
        s.touched,
      ),
    ))
    (λ t. record {
      project = t.0;
      work = record {
        expanded = t.1.0.0.0;
        checked = t.1.0.0.1;
        printed = t.1.0.1.0;
        compared = t.1.0.1.1;
      };
      touched = t.1.1;
    })
    (λ _. refl)
