use Rattle.std.proofs.Common.{◌≡◌, ◌∙◌, ℕ, List, is_none, true, ap, sym, subst}
use Rattle.std.specs.Global.{Global}
use Rattle.std.specs.FinMap as finite
use Rattle.std.specs.declared.rc.Rc.{Rc}
use Rattle.idl_source.specs.declared.texts.entries.NamedFile.{NamedFile}
use Rattle.idl_source.specs.names.Name.{is_name}
use Rattle.idl_source.specs.texts.Texts.{Texts}
use Rattle.idl_source.specs.texts.Entries.{IsAt, IsGapFor, entries_of}
use Rattle.idl_source.proofs.TextLemmas.{AreSorted, is_none-texts-at, get-texts-gap, remove-accepted, remove-entries, remove-refused, texts}
use Rattle.idl_source.proofs.texts.files.Files.remove.Goals as goal

-- the place is that of the name
at : (c : goal.In_ok-entries-in-Ok) → IsAt c.self.inside.entries.items c.args.name.now c.in-Ok.place
at c = subst (λ (n : List ℕ). IsAt c.self.inside.entries.items n c.in-Ok.place) (c.as_bytes.ensures.bytes ∙ c.in_ok-name.ensures.ok.1)
    (subst (λ (es : List (Rc NamedFile Global)). IsAt es c.as_bytes.result.now c.in-Ok.place) c.deref.ensures.value c.in-Ok.ensures.found)

-- the entries are those of before, without the one there
after : (c : goal.In_ok-entries-in-Ok) →
    AreSorted (entries_of c.in_ok-entries-in-Ok.entries.items)
    × ◌≡◌ {A = Texts} (finite.remove (texts (entries_of c.self.inside.entries.items)) c.args.name.now) (texts (entries_of c.in_ok-entries-in-Ok.entries.items))
after c = remove-entries c.self.inside.entries.items (entries_of c.in_ok-entries-in-Ok.entries.items) c.args.name.now c.in-Ok.place c.self.invariant (at c) c.in_ok-entries-in-Ok.ensures

pub invariant_of-result : goal.invariant_of-result
invariant_of-result c = (after c).0

pub returns-in_ok-entries-in-Ok-clause-ok : goal.returns-in_ok-entries-in-Ok-clause-ok
returns-in_ok-entries-in-Ok-clause-ok c =
    let allowed : is_name c.args.name.now ≡ true = c.in_ok-name.ensures.ok.0 in
    remove-accepted c.args.self.now (texts (entries_of c.in_ok-entries-in-Ok.entries.items)) c.args.name.now allowed
    (ap (λ (m : Texts). is_none (finite.get m c.args.name.now)) (sym c.self.view_is) ∙ is_none-texts-at c.self.inside.entries.items c.args.name.now c.in-Ok.place c.self.invariant (at c))
    (ap (λ (m : Texts). finite.remove m c.args.name.now) (sym c.self.view_is) ∙ (after c).1)

pub returns-in-Err-clause-err : goal.returns-in-Err-clause-err
returns-in-Err-clause-err c _ =
    let allowed : is_name c.args.name.now ≡ true = c.in_ok-name.ensures.ok.0 in
    let gap = subst (λ (n : List ℕ). IsGapFor c.self.inside.entries.items n c.in-Err.field-0) (c.as_bytes.ensures.bytes ∙ c.in_ok-name.ensures.ok.1)
    (subst (λ (es : List (Rc NamedFile Global)). IsGapFor es c.as_bytes.result.now c.in-Err.field-0) c.deref.ensures.value c.in-Err.ensures.absent) in
    remove-refused c.args.self.now c.args.name.now allowed
    (ap (λ (m : Texts). finite.get m c.args.name.now) (sym c.self.view_is) ∙ get-texts-gap c.self.inside.entries.items c.args.name.now c.in-Err.field-0 c.self.invariant gap)
