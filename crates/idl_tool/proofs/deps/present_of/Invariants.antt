use Rattle.std.proofs.Common.{◌≡◌, filter, take}
use Rattle.idl_tool.specs.Deps.{is_there}
use Rattle.idl_tool.proofs.deps.present_of.Given as goal

-- those before that are there
abbrev pub invariant-names : goal.invariant-names
invariant-names l = l.present.items ≡ filter (is_there l.sources.files) (take l.name-index l.asked)
