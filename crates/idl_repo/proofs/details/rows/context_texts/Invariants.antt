use Rattle.std.proofs.Common.{◌≡◌, map, take}
use Rattle.idl_repo.specs.Row.{context_word}
use Rattle.idl_repo.proofs.details.rows.context_texts.Given as goal

-- those before
abbrev pub invariant-loop-context : goal.invariant-loop-context
invariant-loop-context l = l.texts.items ≡ map context_word (take l.context-index l.contexts)
