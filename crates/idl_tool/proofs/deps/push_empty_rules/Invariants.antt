use Rattle.std.proofs.Common.{◌≡◌, ◌++◌, filter, map, take}
use Rattle.idl_tool.specs.Deps.{empty_rule, is_other}
use Rattle.idl_tool.specs.make_rules.Make.{rules_text}
use Rattle.idl_tool.proofs.deps.push_empty_rules.Given as goal

-- those of the files before
abbrev pub invariant-names : goal.invariant-names
invariant-names l = l.out.items
    ≡ l.fn.out.items ++ rules_text (map empty_rule (filter (is_other l.sources.files l.root) (take l.name-index l.asked)))
