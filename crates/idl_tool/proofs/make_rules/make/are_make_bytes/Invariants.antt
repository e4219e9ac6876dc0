use Rattle.std.proofs.Common.{◌≡◌, drop}
use Rattle.std.specs.List.{list_all}
use Rattle.idl_tool.specs.make_rules.Make.{is_make_byte}
use Rattle.idl_tool.proofs.make_rules.make.are_make_bytes.Given as goal

-- those from here on decide
abbrev pub invariant-bytes : goal.invariant-bytes
invariant-bytes l = list_all is_make_byte (drop l.byte-index l.name) ≡ list_all is_make_byte l.name
