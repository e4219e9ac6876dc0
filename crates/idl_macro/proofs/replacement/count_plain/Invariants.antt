use Rattle.std.proofs.Common.{◌-◌, length}
use Rattle.idl_macro.proofs.PlainLemmas.{ArePassed}
use Rattle.idl_macro.proofs.replacement.count_plain.Given as goal

abbrev pub invariant-tokens : goal.invariant-tokens
invariant-tokens g l =
    ArePassed (g.B.Bank.at l.macros.bank.now) l.macros.definitions.now l.fn.tokens l.count l.fn.progress l.progress

abbrev pub decreases-tokens : goal.decreases-tokens
decreases-tokens g l = length l.fn.tokens - l.count
