use Rattle.std.proofs.Common.{◌∙◌, ap, sym, subst, List, Some}
use Rattle.std.specs.Global.{Global}
use Rattle.std.specs.FinMap as finite
use Rattle.std.specs.declared.rc.Rc.{Rc}
use Rattle.idl_source.specs.texts.Texts.{Texts}
use Rattle.idl_source.specs.declared.texts.entries.NamedFile.{NamedFile}
use Rattle.idl_source.specs.texts.Entries.{IsAt, IsGapFor}
use Rattle.idl_source.proofs.TextLemmas.{get-texts-at, get-texts-gap}
use Rattle.idl_source.proofs.texts.files.Files.get.Goals as goal

pub returns-in-Ok : goal.returns-in-Ok
returns-in-Ok c =
    let at = subst (λ (es : List (Rc NamedFile Global)). IsAt es c.args.name.now c.in-Ok.place) c.deref.ensures.value c.in-Ok.ensures.found in
    ap (λ (e : NamedFile). Some e.file) c.deref-in-Ok.ensures
    ∙ ap (λ (e : Rc NamedFile Global). Some e.value.file) c.index.ensures
    ∙ sym (get-texts-at c.self.inside.entries.items c.args.name.now c.in-Ok.place c.index.result.now c.self.invariant at)
    ∙ ap (λ (m : Texts). finite.get m c.args.name.now) c.self.view_is

pub returns-in-Err : goal.returns-in-Err
returns-in-Err c =
    let gap = subst (λ (es : List (Rc NamedFile Global)). IsGapFor es c.args.name.now c.in-Err.field-0) c.deref.ensures.value c.in-Err.ensures.absent in
    sym (get-texts-gap c.self.inside.entries.items c.args.name.now c.in-Err.field-0 c.self.invariant gap)
    ∙ ap (λ (m : Texts). finite.get m c.args.name.now) c.self.view_is
