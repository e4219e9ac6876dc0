use Rattle.std.proofs.Common.{◌≡◌, ◌++◌, length, map}
use Rattle.std.specs.Vec.Iter.{into_iter_items, into_iter_len}
use Rattle.idl_inputs.specs.Batch.{edit_of}
use Rattle.idl_inputs.specs.Project.{Project}
use Rattle.idl_inputs.specs.Refiled.{AreDone, AreRefiled, files_after}
use Rattle.idl_inputs.proofs.edited_files.EditedFiles.after_all.Given as goal

-- so many were done
abbrev pub invariant-loop-edit : goal.invariant-loop-edit
invariant-loop-edit l = record {
  all : l.yielded ++ into_iter_items l.edit-iterator ≡ into_iter_items l.initial.edit-iterator;
  counted : into_iter_len l.edit-iterator ≡ length (into_iter_items l.edit-iterator);
  number : l.done ≡ length l.yielded;
  refiled : AreRefiled l.fn.base l.edited;
  reached : (project : Project) → project.inputs ≡ l.fn.base → AreDone project (map edit_of l.yielded) (files_after l.fn.base.files l.edited);
}
