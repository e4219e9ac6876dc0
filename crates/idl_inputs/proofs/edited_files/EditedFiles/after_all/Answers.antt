use Rattle.std.proofs.Common.{◌≡◌, ◌∙◌, ◌++◌, ◌∷◌, [], List, append-nil, append_assoc, arith, rules, length, map, refl, sym, ap, subst}
use Rattle.std.proofs.lemmas.List.{length-append, length-map, map-append}
use Rattle.std.specs.Vec.Iter.{into_iter_items}
use Rattle.idl_inputs.specs.Batch.{after_all, edit_of}
use Rattle.idl_inputs.specs.Project.{with_files}
use Rattle.idl_inputs.specs.Refiled.{AreDone, files_after}
use Rattle.idl_inputs.specs.declared.file_edit.FileEdit.{FileEdit}
use Rattle.idl_inputs.proofs.BatchLemmas.{done-more, stopped-at}
use Rattle.idl_inputs.proofs.RefiledLemmas.{accepted-by, done-none, empty-left, refiled-none, refused-by}
use Rattle.idl_inputs.proofs.edited_files.EditedFiles.after_all.Goals as goal

pub loop-edit-init : goal.loop-edit-init
loop-edit-init c = record {
  all = refl;
  counted = search rules;
  number = refl;
  refiled = refiled-none c.args.base.now c.new-edited.result c.new-edited.ensures.files c.new-edited.ensures.answers;
  reached = λ project same. done-none project c.args.base.now c.new-edited.result same c.new-edited.ensures.files;
}

pub loop-edit-preserved : goal.loop-edit-preserved
loop-edit-preserved c =
    let at = c.loop-edit in
    let inv = at.invariant in
    let edit : FileEdit = c.in-Some.edit in
    let steps : into_iter_items at.edit-iterator ≡ edit ∷ into_iter_items c.next.new.self = c.in-Some.ensures.steps.0 in
    let gone = c.in-Some.ensures.steps.1 in
    let short = ap (λ (es : List FileEdit). length es) steps in
    let counted = inv.counted in
    let number = inv.number in
    let more = length-append at.yielded (edit ∷ []) in
    let first = files_after c.args.base.now.files at.edited in
    let last = files_after c.args.base.now.files c.edit.new.self in
    record {
      all = append_assoc at.yielded (edit ∷ []) _ ∙ rw (← steps) inv.all;
      counted = omega (arith, counted, gone, short);
      number = omega (arith, number, more);
      refiled = c.in_default.ensures.refiled;
      reached = λ project same.
          ap (after_all project) (map-append edit_of at.yielded (edit ∷ []))
          ∙ done-more (map edit_of at.yielded) (edit_of edit) 0 project (with_files project first) (with_files project last) (inv.reached project same)
          (accepted-by (with_files project first) first last edit refl c.in_default.ensures.ok);
    }

pub returns-clause-done : goal.returns-clause-done
returns-clause-done c = λ project same.
    let at = c.loop-edit in
    let none = c.in-None.ensures.steps in
    let empty : into_iter_items at.edit-iterator ≡ [] = empty-left (into_iter_items at.edit-iterator) (sym at.invariant.counted ∙ none.0) in
    let all = sym (append-nil at.yielded) ∙ rw empty at at.invariant.all ∙ c.into_iter-edit-iterator.ensures.into_iter_gives.0 in
    subst (λ (es : List FileEdit). AreDone project (map edit_of es) (files_after c.args.base.now.files at.edited)) all (at.invariant.reached project same)

pub returns-in-Err-clause-stopped : goal.returns-in-Err-clause-stopped
returns-in-Err-clause-stopped c = λ project same.
    let at = c.loop-edit in
    let inv = at.invariant in
    let edit : FileEdit = c.in-Some.edit in
    let first = files_after c.args.base.now.files at.edited in
    let steps : into_iter_items at.edit-iterator ≡ edit ∷ into_iter_items c.next.new.self = c.in-Some.ensures.steps.0 in
    let all : at.yielded ++ edit ∷ into_iter_items c.next.new.self ≡ c.args.edits.items =
    ap (λ (es : List FileEdit). at.yielded ++ es) (sym steps) ∙ inv.all ∙ c.into_iter-edit-iterator.ensures.into_iter_gives.0 in
    let parts : map edit_of at.yielded ++ edit_of edit ∷ map edit_of (into_iter_items c.next.new.self) ≡ map edit_of c.args.edits.items =
    sym (map-append edit_of at.yielded (edit ∷ into_iter_items c.next.new.self)) ∙ ap (map edit_of) all in
    stopped-at project (with_files project first) (map edit_of at.yielded) (edit_of edit) (map edit_of (into_iter_items c.next.new.self)) (map edit_of c.args.edits.items) at.done c.in-Err.refusal
    parts (inv.number ∙ sym (length-map at.yielded edit_of)) (inv.reached project same)
    (λ other. refused-by (with_files project first) first edit c.in-Err.refusal refl (c.in-Err.ensures.err other))
