use Rattle.std.proofs.Common.{◌≡◌, ◌++◌, flat_map, take}
use Rattle.idl_repo.specs.TypeCode.{enumerator_word}
use Rattle.idl_repo.proofs.type_code.push_enumerators.Given as goal

-- those before
abbrev pub invariant-loop-name : goal.invariant-loop-name
invariant-loop-name l =
    l.text.items ≡ l.fn.text.items ++ flat_map enumerator_word (take l.name-index l.names)
