-- What the program does with a request.
use Rattle.std.specs.Prelude.{◌≡◌, ℕ, List, map}
use Rattle.std.specs.String.{string_bytes}
use Rattle.idl_driver.specs.Written.{Written}
use Rattle.idl_loader.specs.Holding.{Holding}
use Rattle.idl_driver.specs.Written.{IsShownText}
use Rattle.idl_loader.specs.declared.status.Status.{Status}
use Rattle.idl_loader.specs.declared.status.Status.TheVariants.{Sound}
use Rattle.idl_tool.specs.Answered.{IsExplained}
use Rattle.idl_tool.specs.Checked.{IsChecked}
use Rattle.idl_tool.specs.Compared.{IsCompared}
use Rattle.idl_tool.specs.Deps.{IsServed}
use Rattle.idl_tool.specs.Json.{IsWritten}
use Rattle.idl_tool.specs.declared.request.ToolRequest.{ToolRequest}
use Rattle.idl_tool.specs.declared.request.ToolRequest.TheVariants.{Show, Explain, Deps, Check, Json, Diff, Serve}

-- what words ask for, or nothing else, was explained
pub record IsToldOf (words : List (List ℕ)) (before after : Written) (status : Status)
    : Type 0 where
  pub output : IsExplained words before.output after.output
  pub errors : after.errors ≡ before.errors
  pub sound : status ≡ Sound

-- what is asked for was done
abbrev pub IsDone : (List ℕ → Holding) → Written → Written → Status → ToolRequest → Type 0
IsDone told before after status (Show text) = IsShownText (string_bytes text) before after status
IsDone told before after status (Explain words) =
    IsToldOf (map (λ w. w.now) words.items) before after status
IsDone told before after status (Deps deps) = IsServed told deps before after status
IsDone told before after status (Check check) = IsChecked told check before after status
IsDone told before after status (Json options) = IsWritten told options before after status
IsDone told before after status (Diff diff) = IsCompared told diff before after status
-- what an editor is told is no affair of standard error
IsDone told before after status Serve = after.errors ≡ before.errors
