use Rattle.std.proofs.Common.{◌≡◌, ◌+◌, length, reverse}
use Rattle.idl_memo.specs.Query.{outcome}
use Rattle.idl_event.specs.Expanding.{reached}
use Rattle.idl_event.specs.Limits.{turns_at_most}
use Rattle.idl_macro.specs.Output.{given, given_more, item_of}
use Rattle.idl_macro.specs.Replace.{replaced_at}
use Rattle.idl_macro.proofs.AllowanceLemmas.{IsWithinTurns, work_left}
use Rattle.idl_macro.proofs.ReplaceLemmas.{pending}
use Rattle.idl_macro.proofs.replacement.replace.Given as goal

abbrev pub invariant-steps : goal.invariant-steps
invariant-steps g l =
    let bank = g.B.Bank.at l.macros.bank.now in
    let definitions = l.macros.definitions.now in
    let item = item_of l.fn.output l.source.place.now in
    let query = replaced_at item l.source.place.now definitions l.fn.source.tokens.now in
    let rest = pending bank item l.source.place.now definitions (turns_at_most + 1) (reverse l.stack) l.left in
    record {
      -- what the replacements that are open still stand for leads to where the whole leads
      progress : reached bank query l.fn.progress ≡ reached bank rest l.progress;
      given : given_more (given l.fn.output) (outcome query bank) ≡ given_more (given l.output) (outcome rest bank);
      item : item_of l.output ≡ item_of l.fn.output;
      -- each open replacement took a turn
      depth : IsWithinTurns l.progress.left (length l.stack);
    }

abbrev pub decreases-steps : goal.decreases-steps
decreases-steps g l = work_left l.progress.left (length l.stack)
