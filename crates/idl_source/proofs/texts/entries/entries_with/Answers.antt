use Rattle.std.proofs.Common.{◌≡◌, List, ℕ, subst, ap, ◌∙◌}
use Rattle.std.specs.Global.{Global}
use Rattle.std.specs.declared.rc.Rc.{Rc}
use Rattle.idl_source.specs.declared.texts.entries.NamedFile.{NamedFile}
use Rattle.idl_source.specs.texts.Entries.{entries_of, IsAt, IsGapFor}
use Rattle.idl_source.proofs.EntryLemmas.{entries_of-clones, entries_of-set, entries_of-insert}
use Rattle.idl_source.proofs.texts.entries.entries_with.Goals as goal

pub returns-in-Ok : goal.returns-in-Ok
returns-in-Ok c =
    let same : entries_of c.in_ok-with.with.items ≡ entries_of c.args.entries.now.items = entries_of-clones _ _ c.in_ok-with.ensures.cases.0 in
    let at = subst (λ (n : List ℕ). IsAt c.args.entries.now.items n c.in-Ok.place) (c.as_bytes.ensures.bytes ∙ ap (λ (e : NamedFile). e.name) c.deref-2.ensures)
    (subst (λ (es : List (Rc NamedFile Global)). IsAt es c.as_bytes.result.now c.in-Ok.place) c.deref.ensures.value c.in-Ok.ensures.found) in
    entries_of-set c.args.entries.now.items c.in_ok-with.with.items c.args.entry c.in-Ok.place same c.requires at

pub returns-in_ok-insert-in-Err : goal.returns-in_ok-insert-in-Err
returns-in_ok-insert-in-Err c =
    let same : entries_of c.in_ok-with.with.items ≡ entries_of c.args.entries.now.items = entries_of-clones _ _ c.in_ok-with.ensures.cases.0 in
    let gap = subst (λ (n : List ℕ). IsGapFor c.args.entries.now.items n c.in-Err.place) (c.as_bytes.ensures.bytes ∙ ap (λ (e : NamedFile). e.name) c.deref-2.ensures)
    (subst (λ (es : List (Rc NamedFile Global)). IsGapFor es c.as_bytes.result.now c.in-Err.place) c.deref.ensures.value c.in-Err.ensures.absent) in
    rw c.in_ok-insert-in-Err.ensures.items (entries_of-insert c.args.entries.now.items c.in_ok-with.with.items c.args.entry c.in-Err.place same gap)
