use Rattle.std.proofs.Common.{◌≡◌, ◌++◌, codes, flat_map, take}
use Rattle.idl_repo.specs.Row.{context_word}
use Rattle.idl_repo.proofs.row.push_contexts.Given as goal

-- those before, but the first
abbrev pub invariant-loop-context : goal.invariant-loop-context
invariant-loop-context l =
    l.text.items
    ≡ l.initial.text.items
    ++ flat_map (λ more. codes "," ++ context_word more) (take l.context-index l.rest)
