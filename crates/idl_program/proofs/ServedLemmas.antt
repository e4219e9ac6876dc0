-- Commands that were answered.
use Rattle.std.proofs.Common.{◌≡◌, ◌≢◌, ◌∙◌, ℕ, Bool, true, false, List, Option, None, Some, IfSome, ap, arith, subst, sym, if◌then◌else◌}
use Rattle.idl_session.specs.Answers.{IsReply}
use Rattle.idl_source.specs.devices.Device.{append}
use Rattle.idl_session.specs.idl_project.UpToDate.{State}
use Rattle.idl_loader.specs.Exit.{exit_code}
use Rattle.idl_loader.specs.Holding.{Holding}
use Rattle.idl_loader.specs.declared.status.Status.{Status}
use Rattle.idl_loader.specs.declared.status.Status.TheVariants.{Failed, Faulty, Sound}
use Rattle.idl_driver.specs.Written.{Written}
use Rattle.idl_program.specs.Served.{IsDone}
use Rattle.idl_program.specs.declared.request.CompilerRequest.{CompilerRequest}
use Rattle.idl_program.specs.declared.request.CompilerRequest.TheVariants.{Show, Serve, Compile}

-- the commands are answered from another session, that is the same
pub answered : (input before after : Option (List ℕ)) (first same last : State) → first ≡ same
    → IfSome input (λ bytes. (output : List ℕ) × (after ≡ append before output) × IsReply first bytes output last)
    → IfSome input (λ bytes. (output : List ℕ) × (after ≡ append before output) × (end : State) × IsReply same bytes output end)
answered None before after first same last e are = are
answered (Some bytes) before after first same last e are =
    (are.0, are.1, last, subst (λ (s : State). IsReply s bytes are.0 last) e are.2)

sound-well : (status : Status) → status ≡ Sound → status ≢ Failed
sound-well status sound failed = omega (arith, ap exit_code (sym sound ∙ failed))

ending-well : (b : Bool) → (if b then Faulty else Sound) ≢ Failed
ending-well true failed = omega (arith, ap exit_code failed)
ending-well false failed = omega (arith, ap exit_code failed)

-- what was done didn't fail
pub not-failed : (told : List ℕ → Holding) (input : Option (List ℕ)) (before after : Written) (status : Status) (request : CompilerRequest) → IsDone told input before after status request
    → status ≢ Failed
not-failed told input before after status (Show text) is = sound-well status is.sound
not-failed told input before after status Serve is = sound-well status is.sound
not-failed told input before after status (Compile options) is = λ failed. ending-well _ (sym is.shown.ending ∙ failed)
