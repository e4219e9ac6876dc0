use Rattle.std.proofs.Common.{◌-◌, length, take}
use Rattle.idl_macro.proofs.WordLemmas.{AreAsked}
use Rattle.idl_macro.proofs.replacement.are_plain.Given as goal

abbrev pub invariant-words : goal.invariant-words
invariant-words g l =
    AreAsked (g.B.Bank.at l.macros.bank.now) l.macros.definitions.now l.lines (take l.count l.words) l.fn.progress l.progress

abbrev pub decreases-words : goal.decreases-words
decreases-words g l = length l.words - l.count
