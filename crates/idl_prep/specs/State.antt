-- What a root has said so far, and how far it has come.
use Rattle.std.specs.Prelude.{ℕ, List, [], Option}
use Rattle.idl_memo.specs.Progress.{after_item}
use Rattle.idl_event.specs.Items.{rules}
use Rattle.idl_event.specs.Expanding.{Expanding, Reached, arrival, arrived}
use Rattle.idl_macro.specs.Macros.{Definitions}
use Rattle.idl_event.specs.declared.told.event.Item.{Item}
use Rattle.idl_event.specs.declared.asked.key.RootAnswer.{RootAnswer}
use Rattle.idl_event.specs.declared.asked.key.RootKey.{RootKey}

-- what was said of macros, and the files that are not to be entered again
pub record Said : Type 0 where
  pub definitions : Definitions
  pub once : List (List ℕ)

-- nothing was said
abbrev pub nothing_said : Said
nothing_said = record { definitions = []; once = [] }

-- a root on its way: what it has said, and how far it has come
pub record Way : Type 0 where
  pub state : Said
  pub progress : Reached

-- one item more
abbrev pub telling : Item → Way → Way
telling item way = record way { progress = after_item rules item way.progress }

-- where a root is
abbrev pub ended : Way → Reached × Option Said
ended way = arrived way.state way.progress

-- where a root comes to by a query of what it has said
abbrev pub onward :
    {A : Type 0} → (RootKey → Option RootAnswer) → (Said → Expanding A) → Way → Reached × Option A
onward bank query way = arrival bank (query way.state) way.progress
