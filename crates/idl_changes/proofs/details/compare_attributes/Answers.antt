use Rattle.std.proofs.Common.{◌∙◌, ◌++◌, List, ap, ap₂, append_assoc, codes}
use Rattle.std.proofs.lemmas.Result.{on_ok_weaker}
use Rattle.idl_changes.specs.Differences.{flag_differences, readonly_line, reference_differences, set_differences, type_differences}
use Rattle.idl_changes.specs.declared.change.Difference.{Difference}
use Rattle.idl_changes.specs.declared.rows.Line.{Line}
use Rattle.idl_repo.specs.declared.details.reference.Reference.{Reference}
use Rattle.idl_changes.proofs.details.compare_attributes.Goals as goal

pub returns : goal.returns
returns c =
    let old = c.args.sides.now.0 in
    let new = c.args.sides.now.1 in
    let a = c.args.old.now in
    let b = c.args.new.now in
    let out = c.args.out.now.items in
    let types = type_differences old new (codes "type") a.data_type b.data_type in
    let flags = flag_differences (readonly_line a.is_readonly) (codes "readonly") a.is_readonly b.is_readonly in
    let reads = reference_differences old new (codes "exception of get") a.raised b.raised in
    let writes = set_differences old new a b in
    let two = c.in_ok-compare_flags.ensures
    ∙ ap₂ (λ (o : List Difference) (l : Line). o ++ flag_differences l (codes "readonly") a.is_readonly b.is_readonly) c.in_ok-compare_types.ensures c.readonly_line.ensures
    in
    let three = c.in_ok-compare_references.ensures
    ∙ ap₂ (λ (rs ss : List Reference). c.compare_flags.new.out.items ++ reference_differences old new (codes "exception of get") rs ss) c.as_slice.ensures c.as_slice-2.ensures
    ∙ ap (λ (o : List Difference). o ++ reads) two
    in
    on_ok_weaker c.compare_writing.result
    (λ last. last ∙ ap (λ (o : List Difference). o ++ writes) three
    ∙ append_assoc ((out ++ types) ++ flags) reads writes
    ∙ append_assoc (out ++ types) flags (reads ++ writes)
    ∙ append_assoc out types (flags ++ (reads ++ writes)))
    c.compare_writing.ensures
