use Rattle.std.proofs.Common.{◌≡◌, All, flat_map, take}
use Rattle.idl_tool.specs.Deps.{rules_in}
use Rattle.idl_tool.specs.make_rules.Make.{IsMakeRule, rules_text}
use Rattle.idl_tool.proofs.deps.rules_of.Given as goal

-- those of the roots before
abbrev pub invariant-roots : goal.invariant-roots
invariant-roots l = record {
  rules : l.out.items ≡ rules_text (flat_map (rules_in l.deps l.sources) (take l.root-index l.roots));
  readable : All IsMakeRule (flat_map (rules_in l.deps l.sources) (take l.root-index l.roots));
}
