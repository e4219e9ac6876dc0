-- What is compiled from the result of a root's task.
use Rattle.std.proofs.Common.{◌≡◌, ℕ, List, Option}
use Rattle.idl_event.specs.Key.{key_eq}
use Rattle.idl_event.specs.declared.told.event.Event.{Event}
use Rattle.idl_event.specs.declared.asked.key.RootAnswer.{RootAnswer}
use Rattle.idl_event.specs.declared.asked.key.RootAnswer.TheVariants as answer
use Rattle.idl_event.specs.declared.asked.key.RootKey.{RootKey}
use Rattle.idl_memo.specs.Kept.{Kept, HoldsOver}
use Rattle.idl_prep.specs.Root.{absent_files, expansion}
use Rattle.idl_root.specs.Compile.{compile}
use Rattle.idl_sources.specs.Compile.{compile_over, end_of}

-- what is compiled from a result that holds
pub compile-kept : (bank : RootKey → Option RootAnswer) (kept : Kept RootKey (Option RootAnswer) (List ℕ) (List Event)) → HoldsOver key_eq expansion bank kept
    → record { rows = compile (end_of bank kept.text) kept.out; absent = absent_files kept.log } ≡ compile_over bank kept.text
unfolding compile_over
compile-kept bank kept over = λ i. record { rows = compile (end_of bank kept.text) (over i).0; absent = absent_files (over i).1 }
