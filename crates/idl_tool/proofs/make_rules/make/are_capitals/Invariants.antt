use Rattle.std.proofs.Common.{◌≡◌, drop}
use Rattle.std.specs.List.{list_all}
use Rattle.idl_tool.specs.make_rules.Make.{is_capital}
use Rattle.idl_tool.proofs.make_rules.make.are_capitals.Given as goal

-- those from here on decide
abbrev pub invariant-bytes : goal.invariant-bytes
invariant-bytes l = list_all is_capital (drop l.byte-index l.word) ≡ list_all is_capital l.word
