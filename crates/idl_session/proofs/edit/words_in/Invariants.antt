use Rattle.std.proofs.Common.{◌≡◌, ◌++◌, map, length}
use Rattle.idl_session.specs.Headings.{words_after}
use Rattle.idl_session.specs.Requests.{words}
use Rattle.idl_session.proofs.edit.words_in.Given as goal

abbrev pub invariant-words : goal.invariant-words
invariant-words l = record {
  taken : map (λ word. word.now) l.words.items ++ words l.left ≡ words_after l.fn.rest;
}

abbrev pub decreases-words : goal.decreases-words
decreases-words l = length l.left
