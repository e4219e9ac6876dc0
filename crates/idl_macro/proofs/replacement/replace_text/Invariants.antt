use Rattle.std.proofs.Common.{◌≡◌, length}
use Rattle.idl_event.specs.Expanding.{reached}
use Rattle.idl_macro.specs.Replace.{text}
use Rattle.idl_macro.proofs.replacement.replace_text.Given as goal

abbrev pub invariant-chunks : goal.invariant-chunks
invariant-chunks g l =
    let bank = g.B.Bank.at l.macros.bank.now in
    let definitions = l.macros.definitions.now in
    reached bank (text l.file definitions l.left) l.progress
    ≡ reached bank (text l.file definitions l.lines) l.fn.progress

abbrev pub decreases-chunks : goal.decreases-chunks
decreases-chunks g l = length l.left
