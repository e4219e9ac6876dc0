use Rattle.std.proofs.Common.{◌≡◌, false, take}
use Rattle.idl_tool.specs.Compared.{are_failing}
use Rattle.idl_tool.proofs.diff.are_failing.Given as goal

-- none so far
abbrev pub invariant-told : goal.invariant-told
invariant-told l = are_failing l.fails (take l.change-index l.told) ≡ false
