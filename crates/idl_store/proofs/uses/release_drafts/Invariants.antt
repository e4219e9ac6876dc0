use Rattle.std.proofs.Common.{take}
use Rattle.idl_store.specs.Numbers.{AreFewer, AreUsed, IsIndexOf, drafts_of}
use Rattle.idl_store.specs.Stored.{results_of_drafts}
use Rattle.idl_store.proofs.uses.release_drafts.Given as goal

-- the uses of the drafts so far are given up
abbrev pub invariant-loop-draft : goal.invariant-loop-draft
invariant-loop-draft g l = record {
  fewer : AreFewer l.fn.used l.used (results_of_drafts (take l.draft-index (drafts_of l.fn.drafts.items)));
  used : AreUsed l.used;
  indexed : IsIndexOf l.used l.index;
}
