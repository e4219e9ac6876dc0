use Rattle.std.proofs.Common.{◌≡◌, drop}
use Rattle.std.specs.List.{find}
use Rattle.idl_server.specs.Named.{has_path}
use Rattle.idl_server.proofs.named.entry_of.Given as goal

-- none of those before
abbrev pub invariant-each : goal.invariant-each
invariant-each l = let p = has_path l.path in find p (drop l.index l.entries) ≡ find p l.entries
