-- What went out until a failure.
use Rattle.std.proofs.Common.{◌≡◌, ◌∙◌, ◌++◌, ◌+◌, ◌<◌, ◌≤◌, ◌⊎◌, inl, inr, arith, [], ℕ, List, Option, Result, Ok, Err, IfErr, ap, refl, subst, sym, take}
use Rattle.std.specs.Result.{OnErr, OnOk}
use Rattle.idl_source.specs.devices.Device.{append, WritesPart}
use Rattle.idl_source.proofs.DeviceLemmas.{append-append}
use Rattle.idl_loader.proofs.ReplyLemmas.{append-none}
use Rattle.idl_driver.specs.Messages.{IsShownUntil}
use Rattle.idl_driver.specs.Written.{WritesSome}
use Rattle.idl_driver.specs.declared.failure.ProgramFailure.{ProgramFailure}
use Rattle.idl_driver.specs.declared.failure.ProgramFailure.TheVariants as failure

-- nothing went out
pub writes-none : (before : Option (List ℕ)) → WritesSome before before
writes-none before = ([], append-none before)

-- more went out
pub writes-more : (before mid after : Option (List ℕ)) → WritesSome before mid → WritesSome mid after → WritesSome before after
writes-more before mid after first next = (
  first.0 ++ next.0,
  next.1 ∙ ap (λ (o : Option (List ℕ)). append o next.0) first.1 ∙ append-append before first.0 next.0,
)

-- a part of what was to go out did
pub writes-part : (before after : Option (List ℕ)) (bytes : List ℕ) → WritesPart before bytes after → WritesSome before after
writes-part before after bytes part = (take part.0 bytes, part.2)

none-until : (failed : ProgramFailure) (before : Option (List ℕ)) → IsShownUntil failed before before
none-until failure.BadArguments before = refl
none-until (failure.Refused subject refusal) before = refl
none-until (failure.OverLimit subject limit) before = refl
none-until (failure.CannotRead name) before = refl
none-until failure.NoMemory before = refl
none-until failure.ReadFailed before = refl
none-until failure.WriteFailed before = writes-none before

-- nothing went out until a failure, if there is one
pub until-none : {T : Type 0} (r : Result T ProgramFailure) (before : Option (List ℕ)) → IfErr r (λ failed. IsShownUntil failed before before)
until-none (Ok value) before = tt
until-none (Err failed) before = none-until failed before

-- something went out until a write failed, if one did
pub until-write : {T : Type 0} (r : Result T ProgramFailure) (before after : Option (List ℕ)) → IfErr r (λ failed. failed ≡ failure.WriteFailed) → WritesSome before after
    → IfErr r (λ failed. IsShownUntil failed before after)
until-write (Ok value) before after is some = tt
until-write (Err failed) before after is some = subst (λ (f : ProgramFailure). IsShownUntil f before after) (sym is) some

-- a failure more
pub grown : (old mid new : ℕ) → old ≤ mid → new ≡ mid + 1 → old < new
grown old mid new least more = omega (arith, least, more)

-- it went well or not
pub either-way : {T E P Q : Type 0} (r : Result T E) → OnOk r P → OnErr r Q → P ⊎ Q
either-way (Ok value) p q = inl p
either-way (Err error) p q = inr q
