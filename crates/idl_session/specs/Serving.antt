-- What serving requests does to what is to come, to what has gone out, and to the session.
use Rattle.std.specs.Prelude.{◌≡◌, ℕ, List, ◌++◌, false, Option}
use Rattle.std.specs.Option.{option_map}
use Rattle.idl_source.specs.devices.Device.{prepend, append, WritesPart}
use Rattle.idl_project.specs.UpToDate.{State}
use Rattle.idl_session.specs.Answers.{Answers, Replies}
use Rattle.idl_session.specs.Commands.{Command, command_of, commands_of, complete_commands}
use Rattle.idl_session.specs.Requests.{Request, lines_taken}
use Rattle.idl_session.specs.Stopping.{Moment}
use Rattle.idl_session.specs.Streams.{Fed, Stream, stream_of, onto, IsTakenBy, TakesLines, FailsWithin}
use Rattle.idl_loader.specs.declared.stop.Stop.{Stop}
use Rattle.idl_loader.specs.declared.stop.Stop.TheVariants.{ReadFailed, WriteFailed}

-- where a run stands, with what was read and not yet taken
pub record Standing : Type 0 where
  pub left : Option (List ℕ)
  pub fed : Fed
  pub written : Option (List ℕ)
  pub state : State

abbrev pub moment_of : Standing → Moment
moment_of standing =
    record { left = standing.left; written = standing.written; state = standing.state }

-- what is to come
abbrev pub to_come : Standing → Stream
to_come standing = stream_of standing.left standing.fed

-- the commands to come
abbrev pub commands_left : Standing → Option (List Command)
commands_left standing = option_map commands_of (to_come standing).bytes

-- the lines that a request took, the reply to it, and the state after it
pub record Serves (request : Request) (old new : Standing) (reply : List ℕ) : Type 0 where
  pub lines : List (List ℕ)
  pub taken : TakesLines (to_come old) (to_come new) lines
  pub enough : IsTakenBy (lines_taken request) lines (to_come new)
  pub answers : Answers old.state (command_of request lines) reply new.state

-- a request was served, and the reply has gone out
abbrev pub SendsReply : Request → Standing → Standing → Type 0
SendsReply request old new =
    (reply : List ℕ) × (new.written ≡ append old.written reply) × Serves request old new reply

-- a request that a failure cut short: it lacks lines and nothing was done, or a beginning of the
-- reply has gone out
abbrev pub IsCut : Stop → Request → Standing → Standing → Type 0
IsCut ReadFailed request old new =
    FailsWithin (lines_taken request) (to_come old) new.left
    × (new.written ≡ old.written) × (new.state ≡ old.state)
IsCut WriteFailed request old new =
    (reply : List ℕ) × WritesPart old.written reply new.written × Serves request old new reply

-- bytes were taken that are these commands, whatever follows
pub record TakesCommands (old new : Stream) (commands : List Command) : Type 0 where
  pub bytes : List ℕ
  pub taken : old ≡ onto bytes new
  pub cut : (rest : List ℕ)
      → complete_commands (bytes ++ rest) ≡ commands ++ complete_commands rest

-- the commands that were served, the replies that have gone out, and the state after them
pub record Served (old new : Standing) : Type 0 where
  pub commands : List Command
  pub output : List ℕ
  pub taken : commands_left old ≡ prepend commands (commands_left new)
  pub whole : (to_come new).ended ≡ false → TakesCommands (to_come old) (to_come new) commands
  pub written : new.written ≡ append old.written output
  pub replies : Replies old.state commands output new.state
