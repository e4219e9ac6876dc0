-- What a run leaves where a device fails.
use Rattle.std.specs.Prelude.{◌≡◌, ℕ, ◌+◌, List, ◌∷◌, ◌++◌, Option}
use Rattle.idl_source.specs.devices.Device.{prepend, append, WritesPart}
use Rattle.idl_project.specs.UpToDate.{State}
use Rattle.idl_session.specs.Answers.{Answers, Replies}
use Rattle.idl_session.specs.Commands.{Command, commands_of, complete_commands}
use Rattle.idl_loader.specs.declared.stop.Stop.{Stop}
use Rattle.idl_loader.specs.declared.stop.Stop.TheVariants.{ReadFailed, WriteFailed}

-- where a run stands: what the source still has and what has gone out, as far as the devices tell,
-- and the session's state
pub record Moment : Type 0 where
  pub left : Option (List ℕ)
  pub written : Option (List ℕ)
  pub state : State

-- After a failed read, the complete commands of what was read have been done, no fewer and no
-- others, and the replies to them have gone out whole.
-- After a failed write, the replies to the commands before the last one done have gone out whole,
-- and of the reply to that one a beginning, but not all of it.
abbrev pub IsLeft : Stop → List ℕ → Moment → Moment → Type 0
IsLeft ReadFailed input old new =
    (read : List ℕ) × (rest : List Command) × (output : List ℕ)
    × (old.left ≡ prepend read new.left)
    × (commands_of input ≡ complete_commands read ++ rest)
    × (new.written ≡ append old.written output)
    × Replies old.state (complete_commands read) output new.state
IsLeft WriteFailed input old new =
    (done : List Command) × (last : Command) × (rest : List Command)
    × (output : List ℕ) × (reply : List ℕ) × (mid : State)
    × (commands_of input ≡ done ++ last ∷ rest)
    × WritesPart (append old.written output) reply new.written
    × Replies old.state done output mid
    × Answers mid last reply new.state

-- how often reads and writes have failed
pub record Failures : Type 0 where
  pub reads : ℕ
  pub writes : ℕ

-- The device failed once, and the other one did not. Each call of a device may fail: so none is
-- made after a failure.
abbrev pub IsCounted : Stop → Failures → Failures → Type 0
IsCounted ReadFailed old new = (new.reads ≡ old.reads + 1) × (new.writes ≡ old.writes)
IsCounted WriteFailed old new = (new.writes ≡ old.writes + 1) × (new.reads ≡ old.reads)
