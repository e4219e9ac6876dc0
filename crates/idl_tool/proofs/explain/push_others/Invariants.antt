use Rattle.std.proofs.Common.{map, take}
use Rattle.idl_tool.specs.Answered.{AreShown}
use Rattle.idl_tool.proofs.explain.push_others.Given as goal

-- those before are shown
abbrev pub invariant-words : goal.invariant-words
invariant-words l = AreShown (map (λ w. w.now) (take l.word-index l.words)) l.fn.out.items l.out.items
