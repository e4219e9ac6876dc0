-- The commands that lines make.
use Rattle.std.specs.Prelude.{ℕ, Bool, true, false, List, [], ◌∷◌, length, nat_eq, take, zero, suc, if◌then◌else◌}
use Rattle.std.specs.List.{filter}
use Rattle.idl_inputs.specs.Edits.{Edit}
use Rattle.idl_session.specs.Lines.{lines_of, whole_lines}
use Rattle.idl_session.specs.Requests.{Request, request_of, lines_taken}
use Rattle.idl_session.specs.Requests as request
use Rattle.idl_session.specs.declared.heading.RootQuery.{RootQuery}

-- none, an edit that lacks lines which it announced, an edit, a question about a root, or one about
-- the work of the last accepted edit
pub data Command : Type 0 where
  Malformed : Command
  Unfinished : Command
  Make : (edit : Edit) → Command
  Ask : (question : RootQuery) (name : List ℕ) → Command
  TellWork : Command

-- the command of a request, with the lines that follow as far as they are there
abbrev pub command_of : Request → List (List ℕ) → Command
command_of request.Malformed lines = Malformed
command_of (request.Place edit count) lines =
    if nat_eq (length lines) count then Make (edit lines) else Unfinished
command_of (request.Make edit) lines = Make edit
command_of (request.Ask question name) lines = Ask question name
command_of request.TellWork lines = TellWork

-- the commands after the first n lines
abbrev pub commands_after : ℕ → List (List ℕ) → List Command
commands_after n [] = []
commands_after (suc n) (line ∷ lines) = commands_after n lines
commands_after zero (line ∷ lines) =
    command_of (request_of line) (take (lines_taken (request_of line)) lines)
    ∷ commands_after (lines_taken (request_of line)) lines

-- the commands that a text makes
abbrev pub commands_of : List ℕ → List Command
commands_of bytes = commands_after 0 (lines_of bytes)

-- whether a command has all the lines that it announced
abbrev pub has_its_lines : Command → Bool
has_its_lines Unfinished = false
has_its_lines command = true

-- the complete commands of a text that may go on: those of its whole lines that have their lines
abbrev pub complete_commands : List ℕ → List Command
complete_commands bytes = filter has_its_lines (commands_after 0 (whole_lines bytes))
