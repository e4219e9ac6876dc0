use Rattle.std.proofs.Common.{◌≡◌, length}
use Rattle.idl_memo.specs.Query.{Done}
use Rattle.idl_event.specs.Expanding.{arrival}
use Rattle.idl_macro.specs.Condition.{defined_read}
use Rattle.idl_macro.specs.Replace.{followed_by}
use Rattle.idl_macro.proofs.conditional.read_defined.Given as goal

-- what is read already, and then the rest, leads to where the whole leads
abbrev pub invariant-tokens : goal.invariant-tokens
invariant-tokens g l =
    let bank = g.B.Bank.at l.macros.bank.now in
    let definitions = l.macros.definitions.now in
    arrival bank (defined_read definitions l.operands) l.fn.progress
    ≡ arrival bank (followed_by (Done l.read.items) (defined_read definitions l.left)) l.progress

abbrev pub decreases-tokens : goal.decreases-tokens
decreases-tokens g l = length l.left
