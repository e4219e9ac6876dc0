-- The expansion of a root: its events, and what it asked.
-- The root is entered without an event: nothing is around it that could be given back at its end.
use Rattle.std.specs.Prelude.{ℕ, zero, suc, ◌-◌, List, [], ◌∷◌, Option, None, Some, flat_map}
use Rattle.idl_memo.specs.Progress.{kept_within}
use Rattle.idl_memo.specs.Query.{Query, Done, Ask, Tell, and_then, run}
use Rattle.idl_event.specs.Items.{rules, whole_allowance}
use Rattle.idl_event.specs.Key.{key_eq}
use Rattle.idl_event.specs.Expanding.{Expanding}
use Rattle.idl_fault.specs.declared.file_name.FileName.{FileName}
use Rattle.idl_fault.specs.declared.code.Code.TheVariants.{NotFound}
use Rattle.idl_event.specs.declared.told.event.Event.{Event}
use Rattle.idl_event.specs.declared.told.event.Event.TheVariants.{Entered, Left, Fault}
use Rattle.idl_event.specs.declared.told.event.Item.TheVariants.{TooDeep, Kept}
use Rattle.idl_event.specs.declared.asked.key.RootAnswer.{RootAnswer}
use Rattle.idl_event.specs.declared.asked.key.RootKey.{RootKey}
use Rattle.idl_event.specs.declared.asked.key.RootKey.TheVariants as key
use Rattle.idl_text.specs.Line.{lines_in}
use Rattle.idl_text.specs.Tree.{tree}
use Rattle.idl_prep.specs.Directive.{Enter}
use Rattle.idl_prep.specs.Include.{file_in}
use Rattle.idl_prep.specs.Limits.{depth_at_most}
use Rattle.idl_prep.specs.State.{Said, nothing_said}
use Rattle.idl_prep.specs.Walk.{walk}

-- a file of these lines
abbrev pub walk_file : Enter → FileName → List (List ℕ) → Said → Expanding Said
walk_file enter file lines s = walk enter file (tree (lines_in lines)) s

-- A file is entered, where so many may still be entered inside one another; else it is too deep.
-- When its lines are done it is left.
unfoldable pub enter : ℕ → Enter
enter zero place file lines s = Tell (TooDeep place) (Done s)
enter (suc room) place file lines s =
    Tell (Kept (Entered file))
    (and_then (walk_file (enter room) file lines s) (λ after. Tell (Kept (Left file)) (Done after)))

-- the lines of a root, in which one file less may be entered than may be open
abbrev pub root_lines : FileName → Option (List (List ℕ)) → Expanding Said
root_lines root None =
    Tell (Kept (Fault (record { file = root; line = 0 }) NotFound (Some root))) (Done nothing_said)
root_lines root (Some lines) = walk_file (enter (depth_at_most - 1)) root lines nothing_said

-- a root asks for its file first
unfoldable pub root : FileName → Expanding Said
root name = Ask (key.File name) (λ found. root_lines name (file_in found))

-- the expansion of a root, under the limits: it asks what the root asks, and gives the events
unfoldable pub expansion : List ℕ → Query RootKey (Option RootAnswer) (Unit {0}) (List Event)
expansion name =
    and_then (kept_within (Unit {0}) rules [] whole_allowance (root name)) (λ given. Done given.0)

-- the events of a root, and its log of what it asked, over a bank
abbrev pub expanded : List ℕ → (RootKey → Option RootAnswer) → List Event × List (RootKey × Option RootAnswer)
expanded name bank = run key_eq (expansion name) bank []

-- the name of a file that was asked for and isn't there
abbrev pub absent_file : RootKey × Option RootAnswer → List (List ℕ)
absent_file (key.Macro word, answer) = []
absent_file (key.File name, None) = name ∷ []
absent_file (key.File name, Some answer) = []
absent_file (key.Search, answer) = []

-- the files that were asked for and aren't there, in the order in which they were first asked
unfoldable pub absent_files : List (RootKey × Option RootAnswer) → List (List ℕ)
absent_files log = flat_map absent_file log
