use Rattle.std.proofs.Common.{◌≡◌, ℕ, List, take}
use Rattle.std.specs.List.{AllZip, concat}
use Rattle.idl_tool.specs.Json.{IsLineOf}
use Rattle.idl_tool.proofs.json.lines_of.Given as goal

-- those of the roots before
abbrev pub invariant-roots : goal.invariant-roots
invariant-roots l = (lines : List (List ℕ)) × AllZip (IsLineOf l.sources) (take l.index l.roots) lines × (l.text.items ≡ concat lines)
