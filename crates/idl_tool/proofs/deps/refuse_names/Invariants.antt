use Rattle.std.proofs.Common.{All, take}
use Rattle.std.specs.Prelude.{IsTrue}
use Rattle.idl_tool.specs.make_rules.Make.{is_make_name}
use Rattle.idl_tool.proofs.deps.refuse_names.Given as goal

-- those before are readable
abbrev pub invariant-names : goal.invariant-names
invariant-names l = All (λ name. IsTrue (is_make_name name)) (take l.name-index l.names)
