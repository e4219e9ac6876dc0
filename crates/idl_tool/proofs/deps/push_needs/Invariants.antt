use Rattle.std.proofs.Common.{◌≡◌, ◌++◌, flat_map, take}
use Rattle.idl_tool.specs.Deps.{need_of}
use Rattle.idl_tool.specs.make_rules.Make.{need_text}
use Rattle.idl_tool.proofs.deps.push_needs.Given as goal

-- those before
abbrev pub invariant-names : goal.invariant-names
invariant-names l = l.out.items
    ≡ l.fn.out.items ++ flat_map (λ name. need_text (need_of l.deps.has_generated l.sources.files name)) (take l.name-index l.asked)
