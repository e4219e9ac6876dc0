use Rattle.std.proofs.Common.{◌≡◌}
use Rattle.std.specs.Map.{lookup}
use Rattle.std.specs.Str.{bytes_eq}
use Rattle.idl_inputs.proofs.bank.SessionBank.macro_body.Given as goal

-- what a look-up among all gives is what it gives among those that are left
abbrev pub invariant-loop-known : goal.invariant-loop-known
invariant-loop-known l =
    lookup (bytes_eq l.fn.word) l.known-iterator
    ≡ lookup (bytes_eq l.fn.word) l.fn.self.macros
