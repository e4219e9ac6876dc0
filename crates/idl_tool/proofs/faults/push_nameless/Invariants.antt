use Rattle.std.proofs.Common.{take}
use Rattle.idl_tool.specs.Messages.{AreLines, IsBehind, IsNamelessMessage}
use Rattle.idl_tool.proofs.faults.push_nameless.Given as goal

-- those of the words before
abbrev pub invariant-words : goal.invariant-words
invariant-words l = IsBehind (AreLines IsNamelessMessage (take l.word-index l.words)) l.fn.out.items l.out.items
