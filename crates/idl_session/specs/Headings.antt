-- What a heading of the program asks for.
use Rattle.std.specs.Prelude.{ℕ, List, [], Option, None, Some}
use Rattle.std.specs.Borrow.{Bor}
use Rattle.idl_source.specs.texts.Line.{IsLine}
use Rattle.idl_inputs.specs.Edits.{Edit, Put, Splice, Remove, Define, Undef, Search, AddRoot, DropRoot}
use Rattle.idl_session.specs.Requests.{Request, Malformed, Place, Make, Ask, TellWork, words}
use Rattle.idl_session.specs.declared.heading.EditCommand.{EditCommand}
use Rattle.idl_session.specs.declared.heading.EditCommand.TheVariants as change
use Rattle.idl_session.specs.declared.heading.Heading.{Heading}
use Rattle.idl_session.specs.declared.heading.Heading.TheVariants as heading
use Rattle.idl_session.specs.declared.heading.Placement.{Placement}
use Rattle.idl_session.specs.declared.heading.Placement.TheVariants as placement

-- the edit that places these lines
abbrev pub edit_with : Placement → List (List ℕ) → Edit
edit_with (placement.Put name) lines = Put name.now lines
edit_with (placement.Splice name span) lines = Splice name.now span.from span.del lines

-- the words after the first blank
abbrev pub words_after : Option (Bor (List ℕ)) → List (List ℕ)
words_after None = []
words_after (Some rest) = words rest.now

abbrev pub edit_by : EditCommand → Edit
edit_by (change.Remove name) = Remove name.now
edit_by (change.Define word body) = Define word.now body.now
edit_by (change.Undef word) = Undef word.now
edit_by (change.Search rest) = Search (words_after rest)
edit_by (change.AddRoot name) = AddRoot name.now
edit_by (change.DropRoot name) = DropRoot name.now

abbrev pub request_by : Heading → Request
request_by heading.Malformed = Malformed
request_by (heading.Place placement count) = Place (edit_with placement) count
request_by (heading.Make what) = Make (edit_by what)
request_by (heading.Ask question name) = Ask question name.now
request_by heading.Work = TellWork

-- the body of a macro has no newline
abbrev pub HasLine : EditCommand → Type 0
HasLine (change.Define word body) = IsLine body.now
HasLine other = Unit {0}

abbrev pub HasLines : Heading → Type 0
HasLines (heading.Make what) = HasLine what
HasLines other = Unit {0}
