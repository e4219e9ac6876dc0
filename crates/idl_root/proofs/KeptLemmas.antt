-- What is kept of units, one after another: results at the end of the last draft, and counts.
use Rattle.std.proofs.Common.{◌≡◌, ◌⊎◌, ℕ, ◌+◌, List, [], ◌∷◌, ◌++◌, map, refl, ap, sym, subst, ◌∙◌, append_assoc, inl, inr}
use Rattle.std.proofs.lemmas.List.{map-append}
use Rattle.idl_env.specs.Facts.{UnitFacts, answers}
use Rattle.idl_memo.specs.Kept.{NoneAlikeAt, SomeAlikeAt}
use Rattle.idl_store.specs.Obtained.{IsObtained}
use Rattle.idl_store.specs.Stored.{Stored, grown, results_in}
use Rattle.idl_memo.specs.declared.meter.Meter.{Meter}
use Rattle.idl_memo.specs.declared.task.TaskKind.TheVariants.{Print}
use Rattle.idl_root.proofs.StoredLemmas.{grown-grown, grown-results}
use Rattle.idl_root.specs.Places.{EntryPlace, entries_over}
use Rattle.idl_root.specs.Printed.{Listed}
use Rattle.idl_root.specs.Results.{ChecksOnly, EntryResult, HasDraft, IsEntryPass, PrintsOnly, entry_result, mark_at, marks_of, part_mark}
use Rattle.idl_root.specs.declared.kept.marks.Mark.{Mark}
use Rattle.idl_root_blocks.specs.Units.{parts_of_unit, text_of}
use Rattle.idl_unit.specs.declared.unit.Unit.{Unit as RootUnit}

-- ---- units

-- the marks of one, and of those behind it
pub marks-more : (marks next : List Mark) (u : RootUnit) (units : List RootUnit) → next ≡ marks ++ mark_at u → next ++ marks_of units ≡ marks ++ marks_of (u ∷ units)
marks-more marks next u units is =
    ap (λ l. l ++ marks_of units) is ∙ append_assoc marks (mark_at u) (marks_of units) ∙ ap (λ (ms : List Mark). marks ++ ms) (sym (map-append part_mark (parts_of_unit u) (text_of units)))

-- no other count rises with one more than with those behind it
pub checks-more : (old between new : Meter) → ChecksOnly old between → ChecksOnly between new → ChecksOnly old new
checks-more old between new a b = b ∙ ap (λ (m : Meter). record m { checked = new.checked; compared = new.compared }) a

-- ---- names

-- the results of one name, and of those behind it
pub printed-kept : (kept next : Stored EntryResult) (facts : List UnitFacts) (l : Listed) (listed : List Listed) → next ≡ grown kept (entry_result (l.path, answers facts) ∷ [])
    → grown next (map entry_result (entries_over facts listed)) ≡ grown kept (map entry_result (entries_over facts (l ∷ listed)))
printed-kept kept next facts l listed grows =
    ap (λ k. grown k (map entry_result (entries_over facts listed))) grows
    ∙ grown-grown kept (entry_result (l.path, answers facts) ∷ []) (map entry_result (entries_over facts listed))

pub prints-one : (here : EntryPlace) (results : List EntryResult) (old new : Meter) → IsObtained here (entry_result here) Print results old new → PrintsOnly old new
prints-one here results old new (inl (some, h)) = subst (λ (n : Meter). n ≡ record old { printed = n.printed; compared = n.compared }) (sym h) refl
prints-one here results old new (inr (none, h)) = subst (λ (n : Meter). n ≡ record old { printed = n.printed; compared = n.compared }) (sym h) refl

pub prints-more : (old between new : Meter) → PrintsOnly old between → PrintsOnly between new → PrintsOnly old new
prints-more old between new a b = b ∙ ap (λ (m : Meter). record m { printed = new.printed; compared = new.compared }) a

module _ (one : (here : EntryPlace) (old new : List EntryResult) (before after : ℕ) → new ≡ old ++ entry_result here ∷ []
    → (SomeAlikeAt here old × (after ≡ before)) ⊎ (NoneAlikeAt here old × (after ≡ before + 1)) → IsEntryPass (here ∷ []) old new before after)
    (both : (first second : List EntryPlace) (old between new : List EntryResult) (before at after : ℕ) → IsEntryPass first old between before at
    → IsEntryPass second between new at after → IsEntryPass (first ++ second) old new before after)
    (kept next : Stored EntryResult) (has : HasDraft kept) (old new : Meter)
  where
    -- one name is a pass over its entry, and with those behind it over theirs
    pub printed-pass : (facts : List UnitFacts) (l : Listed) (listed : List Listed) → next ≡ grown kept (entry_result (l.path, answers facts) ∷ [])
        → IsObtained (l.path, answers facts) (entry_result (l.path, answers facts)) Print (results_in kept) old new
        → (end : List EntryResult) (total : ℕ) → IsEntryPass (entries_over facts listed) (results_in next) end new.printed total
        → IsEntryPass (entries_over facts (l ∷ listed)) (results_in kept) end old.printed total
    printed-pass facts l listed grows h end total rest =
        let here : EntryPlace = (l.path, answers facts) in
        let results : results_in next ≡ results_in kept ++ entry_result here ∷ [] =
        ap (λ (s : Stored EntryResult). results_in s) grows ∙ grown-results kept (entry_result here ∷ []) has in
        let own : IsEntryPass (here ∷ []) (results_in kept) (results_in next) old.printed new.printed =
        one here (results_in kept) (results_in next) old.printed new.printed results (elim h [
          | inl some ↦ inl (some.0, ap (λ (m : Meter). m.printed) some.1)
          | inr fresh ↦ inr (fresh.0, ap (λ (m : Meter). m.printed) fresh.1)
        ]) in
        both (here ∷ []) (entries_over facts listed) (results_in kept) (results_in next) end old.printed new.printed total own rest
