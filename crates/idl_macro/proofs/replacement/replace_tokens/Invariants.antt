use Rattle.std.proofs.Common.{◌≡◌, length}
use Rattle.idl_event.specs.Expanding.{reached}
use Rattle.idl_macro.specs.Replace.{text}
use Rattle.idl_macro.proofs.replacement.replace_tokens.Given as goal

abbrev pub invariant-tokens : goal.invariant-tokens
invariant-tokens g l =
    let bank = g.B.Bank.at l.macros.bank.now in
    let definitions = l.macros.definitions.now in
    reached bank (text l.file definitions l.tokens) l.fn.progress
    ≡ reached bank (text l.file definitions l.left) l.progress

abbrev pub decreases-tokens : goal.decreases-tokens
decreases-tokens g l = length l.left
