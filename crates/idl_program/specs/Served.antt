-- What the program does with a request.
use Rattle.std.specs.Prelude.{◌≡◌, ℕ, List, [], Option, IfSome}
use Rattle.std.specs.String.{string_bytes}
use Rattle.idl_source.specs.devices.Device.{append}
use Rattle.idl_inputs.specs.Project.{no_project}
use Rattle.idl_session.specs.idl_project.UpToDate.{State}
use Rattle.idl_session.specs.idl_project.Work.{no_work}
use Rattle.idl_session.specs.Answers.{IsReply}
use Rattle.idl_loader.specs.Holding.{Holding}
use Rattle.idl_loader.specs.declared.status.Status.{Status}
use Rattle.idl_loader.specs.declared.status.Status.TheVariants.{Sound}
use Rattle.idl_driver.specs.Written.{IsShownText, Written}
use Rattle.idl_program.specs.Compiled.{IsCompiled}
use Rattle.idl_program.specs.declared.request.CompilerRequest.{CompilerRequest}
use Rattle.idl_program.specs.declared.request.CompilerRequest.TheVariants.{Show, Serve, Compile}

-- the commands of the input are answered, from a session without anything on
pub record AreAnswered (input : Option (List ℕ)) (before after : Written) (status : Status)
    : Type 0 where
  pub output : IfSome input (λ bytes.
      (replies : List ℕ) × (after.output ≡ append before.output replies)
      × (last : State)
      × IsReply (record { project = no_project; work = no_work; touched = [] }) bytes replies last)
  pub errors : after.errors ≡ before.errors
  pub sound : status ≡ Sound

-- what is asked for was done
abbrev pub IsDone : (List ℕ → Holding) → Option (List ℕ) → Written → Written → Status → CompilerRequest
    → Type 0
IsDone told input before after status (Show text) =
    IsShownText (string_bytes text) before after status
IsDone told input before after status Serve = AreAnswered input before after status
IsDone told input before after status (Compile options) =
    IsCompiled told options before after status
