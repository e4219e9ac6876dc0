-- Units gone through beside what is kept of them.
use Rattle.std.proofs.Common.{◌≡◌, ◌≢◌, ℕ, zero, suc, ◌+◌, Bool, List, [], ◌∷◌, ◌++◌, None, Some, flat_map, map, refl, ap, sym, ◌∙◌, append-nil, append_assoc, drop}
use Rattle.std.proofs.lemmas.List.{map-append}
use Rattle.std.specs.Option.{option_map}
use Rattle.std.specs.Prelude.{slice_get}
use Rattle.idl_event.specs.declared.told.site.Site.{Site}
use Rattle.idl_root.specs.AsBefore.{IsBehindMark, IsBehindSame, closing_beside, judged_beside, text_at, texts_from, texts_of}
use Rattle.idl_finding.specs.Findings.{fault_finding}
use Rattle.idl_root.specs.Judged.{Judged}
use Rattle.idl_root.specs.Held.{listed_at}
use Rattle.idl_root.specs.Printed.{name_index}
use Rattle.idl_kept.specs.Texts.{DeclarationResult}
use Rattle.idl_root.specs.Results.{EntryResult, mark_at, marks_of, part_mark}
use Rattle.idl_finding.specs.declared.finding.EventFinding.{EventFinding}
use Rattle.idl_root.specs.declared.compiling.printing.Listed.{Listed as HeldListed}
use Rattle.idl_root.specs.declared.kept.course.Course.{Course}
use Rattle.idl_root.specs.declared.kept.marks.Mark.TheVariants as mark
use Rattle.idl_root.proofs.StoredLemmas.{item-drop}
use Rattle.idl_root_blocks.specs.Units.{parts_of_unit, text_of}
use Rattle.idl_store.specs.Stored.{item_at, list_at}
use Rattle.idl_unit.specs.TokenRules.{fault_at}
use Rattle.idl_unit.specs.declared.unit.Unit.{Unit as RootUnit}
use Rattle.idl_unit.specs.declared.unit.Unit.TheVariants.{Spelled, Entered, Left, End}
use Rattle.idl_unit.specs.declared.unit.UnitText.{UnitText}

-- behind a unit that was as this one is: one with tokens, and a file boundary
pub behind-spelled : (lists : List (List DeclarationResult)) (course next : Course) (text : UnitText) (sites : List Site) (k : DeclarationResult) → item_at lists course.list course.place ≡ Some k
    → k.text ≡ text → IsBehindMark course mark.Judged next → IsBehindSame lists course (Spelled text sites) next
behind-spelled lists course next text sites k found same b =
    let texts : List DeclarationResult → List UnitText = λ ks. map (λ (r : DeclarationResult). r.text) ks in
    record {
      list = b.list;
      marks = b.marks;
      texts =
          ap texts (item-drop lists course.list course.place k found)
          ∙ (λ i. same i ∷ texts (drop (sym b.place i) (list_at lists (sym b.list i))));
    }

pub behind-entered : (lists : List (List DeclarationResult)) (course next : Course) (file : List ℕ) (inside : Bool) → IsBehindMark course (mark.Entered inside) next → IsBehindSame lists course (Entered file inside) next
behind-entered lists course next file inside b = record {
  list = b.list;
  marks = b.marks;
  texts = λ i. map (λ (r : DeclarationResult). r.text) (drop (sym b.place i) (list_at lists (sym b.list i)));
}

pub behind-left : (lists : List (List DeclarationResult)) (course next : Course) (file : List ℕ) (inside : Bool) → IsBehindMark course (mark.Left inside) next → IsBehindSame lists course (Left file inside) next
behind-left lists course next file inside b = record {
  list = b.list;
  marks = b.marks;
  texts = λ i. map (λ (r : DeclarationResult). r.text) (drop (sym b.place i) (list_at lists (sym b.list i)));
}

-- and behind those
module _ (lists : List (List DeclarationResult)) (course next : Course) (u : RootUnit) (behind : IsBehindSame lists course u next) (units : List RootUnit) where
  pub marks-behind : next.marks.now ≡ marks_of units → course.marks.now ≡ marks_of (u ∷ units)
  marks-behind are = behind.marks ∙ ap (λ l. mark_at u ++ l) are ∙ sym (map-append part_mark (parts_of_unit u) (text_of units))

  pub texts-behind : (rest : List UnitText) → texts_from lists next ≡ texts_of units ++ rest → texts_from lists course ≡ texts_of (u ∷ units) ++ rest
  texts-behind rest are = behind.texts ∙ ap (λ l. text_at u ++ l) are ∙ sym (append_assoc (text_at u) (texts_of units) rest)

-- where nothing stands nothing is left
pub nothing-behind : {X : Type 0} (xs : List X) (i : ℕ) → slice_get xs i ≡ None → drop i xs ≡ []
nothing-behind [] zero is = refl
nothing-behind [] (suc i) is = refl
nothing-behind (x ∷ xs) zero is = cc
nothing-behind (x ∷ xs) (suc i) is = nothing-behind xs i is

-- what is left of units and results, and what comes of them behind what came so far
module _ {X : Type 0} (f : Judged → List X) (units : List RootUnit) (results : List DeclarationResult) (i p : ℕ) (unit : RootUnit)
    (here : drop i units ≡ unit ∷ drop (i + 1) units) (old new all : List X) (so : old ++ flat_map f (judged_beside (drop i units) (drop p results)) ≡ all)
  where
    -- a unit with the result that is kept of it
    pub spelled-more : (text : UnitText) (sites : List Site) (k : DeclarationResult) → unit ≡ Spelled text sites → drop p results ≡ k ∷ drop (p + 1) results
        → new ≡ old ++ f (record { text = text; sites = sites; verdict = k.out })
        → new ++ flat_map f (judged_beside (drop (i + 1) units) (drop (p + 1) results)) ≡ all
    spelled-more text sites k is there more =
        let own = f (record { text = text; sites = sites; verdict = k.out }) in
        let left : drop i units ≡ Spelled text sites ∷ drop (i + 1) units = here ∙ ap (λ u. u ∷ drop (i + 1) units) is in
        ap (λ l. l ++ flat_map f (judged_beside (drop (i + 1) units) (drop (p + 1) results))) more
        ∙ append_assoc old own (flat_map f (judged_beside (drop (i + 1) units) (drop (p + 1) results)))
        ∙ sym (ap (λ us. old ++ flat_map f (judged_beside us (drop p results))) left ∙ ap (λ ks. old ++ flat_map f (judged_beside (Spelled text sites ∷ drop (i + 1) units) ks)) there)
        ∙ so

    -- one of which nothing is kept: then nothing is kept of those behind it
    pub spelled-none : (text : UnitText) (sites : List Site) → unit ≡ Spelled text sites → slice_get results p ≡ None → old ≡ all
    spelled-none text sites is none =
        let left : drop i units ≡ Spelled text sites ∷ drop (i + 1) units = here ∙ ap (λ u. u ∷ drop (i + 1) units) is in
        sym (append-nil old)
        ∙ sym
        (ap (λ us. old ++ flat_map f (judged_beside us (drop p results))) left
        ∙ ap (λ ks. old ++ flat_map f (judged_beside (Spelled text sites ∷ drop (i + 1) units) ks)) (nothing-behind results p none))
        ∙ so

    -- one without tokens
    pub other-more : ((us : List RootUnit) (ks : List DeclarationResult) → judged_beside (unit ∷ us) ks ≡ judged_beside us ks)
        → old ++ flat_map f (judged_beside (drop (i + 1) units) (drop p results)) ≡ all
    other-more none =
        ap (λ judged. old ++ flat_map f judged) (sym (ap (λ us. judged_beside us (drop p results)) here ∙ none (drop (i + 1) units) (drop p results))) ∙ so

-- what is left of names and entries, and what is wrong with them behind what was so far
module _ (listed : List HeldListed) (entries : List EntryResult) (i p : ℕ) (name : HeldListed) (here : drop i listed ≡ name ∷ drop (i + 1) listed) (old new all : List EventFinding)
    (so : old ++ closing_beside (map listed_at (drop i listed)) (drop p entries) ≡ all)
  where
    pub name-more : (k : EntryResult) → drop p entries ≡ k ∷ drop (p + 1) entries
        → new ≡ old ++ fault_finding name.unit.text.now name.unit.sites.now (option_map (fault_at (name_index name.unit.text.now)) k.out.fault)
        → new ++ closing_beside (map listed_at (drop (i + 1) listed)) (drop (p + 1) entries) ≡ all
    name-more k there more =
        let own = fault_finding name.unit.text.now name.unit.sites.now (option_map (fault_at (name_index name.unit.text.now)) k.out.fault) in
        ap (λ found. found ++ closing_beside (map listed_at (drop (i + 1) listed)) (drop (p + 1) entries)) more
        ∙ append_assoc old own (closing_beside (map listed_at (drop (i + 1) listed)) (drop (p + 1) entries))
        ∙ sym
        (ap (λ ls. old ++ closing_beside (map listed_at ls) (drop p entries)) here
        ∙ ap (λ ks. old ++ closing_beside (listed_at name ∷ map listed_at (drop (i + 1) listed)) ks) there)
        ∙ so

    pub name-none : slice_get entries p ≡ None → old ≡ all
    name-none none =
        sym (append-nil old)
        ∙ sym
        (ap (λ ls. old ++ closing_beside (map listed_at ls) (drop p entries)) here
        ∙ ap (λ ks. old ++ closing_beside (listed_at name ∷ map listed_at (drop (i + 1) listed)) ks) (nothing-behind entries p none))
        ∙ so

-- nothing comes of a unit without tokens
pub none-beside : (unit : RootUnit) → ((text : UnitText) (sites : List Site) → unit ≢ Spelled text sites) → (units : List RootUnit) (results : List DeclarationResult)
    → judged_beside (unit ∷ units) results ≡ judged_beside units results
none-beside (Spelled text sites) other units results = absurd (other text sites refl)
none-beside (Entered file inside) other units results = refl
none-beside (Left file inside) other units results = refl
none-beside End other units results = refl
