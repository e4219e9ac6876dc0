use Rattle.std.proofs.Common.{◌≡◌, length}
use Rattle.std.specs.List.{list_all}
use Rattle.idl_session.specs.Requests.{is_command_word, words}
use Rattle.idl_session.proofs.heading.are_words.Given as goal

abbrev pub invariant-words : goal.invariant-words
invariant-words l = list_all is_command_word (words l.left) ≡ list_all is_command_word (words l.fn.line)

abbrev pub decreases-words : goal.decreases-words
decreases-words l = length l.left
