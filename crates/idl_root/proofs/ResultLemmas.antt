-- What is kept of units: their marks and their results, each over what those before it added.
use Rattle.std.proofs.Common.{◌≡◌, ℕ, zero, suc, ◌+◌, Bool, List, [], ◌∷◌, ◌++◌, map, refl, ap, sym, subst, ◌∙◌, add-one, append-nil, append_assoc, drop}
use Rattle.std.proofs.lemmas.List.Elements.{All-cons, All-nil}
use Rattle.idl_env.specs.Facts.{UnitFacts, answers, boundary}
use Rattle.idl_env.specs.declared.additions.addition.Step.TheVariants.{Enters, Leaves}
use Rattle.idl_event.specs.declared.told.event.Event.{Event}
use Rattle.idl_root.specs.Compile.{outcome_of}
use Rattle.idl_root.specs.Followed.{ArePrinted, IsBehind, IsFirst, IsNext, IsPassed, WereThere, added_by, facts_of, results_from}
use Rattle.idl_root.specs.Judged.{facts_after}
use Rattle.idl_root_blocks.specs.idl_check.walk.Verdict.{verdict_over}
use Rattle.idl_root.specs.Places.{declarations_of, entries_of, entries_over}
use Rattle.idl_root.specs.Printed.{Listed}
use Rattle.idl_kept.specs.Texts.{DeclarationResult}
use Rattle.idl_root.specs.Results.{EntryResult, IsKeptOf, KeptLists, RootMarks, entry_result, marks_of}
use Rattle.idl_root_blocks.specs.Places.{declaration_result, declarations_over}
use Rattle.idl_root_blocks.specs.Units.{text_of}
use Rattle.idl_root.specs.declared.kept.course.Course.{Course}
use Rattle.idl_root.specs.declared.kept.marks.Mark.{Mark}
use Rattle.idl_root.specs.declared.kept.marks.Mark.TheVariants as mark
use Rattle.idl_unit.specs.Units.{units_of}
use Rattle.idl_unit.specs.declared.unit.Unit.{Unit as RootUnit}
use Rattle.idl_unit.specs.declared.unit.Unit.TheVariants.{Spelled, Entered, Left, End}

added-same : (marks others : List Mark) (results rest : List DeclarationResult) → marks ≡ others → results ≡ rest → added_by marks results ≡ added_by others rest
added-same marks others results rest m r = λ i. added_by (m i) (r i)

-- what units added is told by their marks and results
pub facts-added : (units : List RootUnit) (before : List UnitFacts)
    → facts_after before units ≡ before ++ added_by (marks_of units) (map declaration_result (declarations_over before (text_of units)))
unfolding facts_after declarations_over
facts-added [] before = sym (append-nil before)
facts-added (Spelled text sites ∷ units) before =
    let w = (verdict_over before text).writes in
    let next = before ++ w ∷ [] in
    facts-added units next ∙ append_assoc before (w ∷ []) (added_by (marks_of units) (map declaration_result (declarations_over next (text_of units))))
facts-added (Entered file inside ∷ units) before =
    let next = before ++ boundary Enters ∷ [] in
    facts-added units next ∙ append_assoc before (boundary Enters ∷ []) (added_by (marks_of units) (map declaration_result (declarations_over next (text_of units))))
facts-added (Left file inside ∷ units) before =
    let next = before ++ boundary Leaves ∷ [] in
    facts-added units next ∙ append_assoc before (boundary Leaves ∷ []) (added_by (marks_of units) (map declaration_result (declarations_over next (text_of units))))
facts-added (End ∷ units) before = ap (λ (fs : List UnitFacts). facts_after fs units) (append-nil before) ∙ facts-added units before

-- ---- the first of them

-- lists that are one have one first item, and one rest
same-head : {A : Type 0} (x y : A) (xs ys : List A) → x ∷ xs ≡ y ∷ ys → x ≡ y
same-head x y xs ys h = cc

same-tail : {A : Type 0} (x y : A) (xs ys : List A) → x ∷ xs ≡ y ∷ ys → xs ≡ ys
same-tail x y xs ys h = cc

-- what is kept of one with tokens is its result, and those behind it stood behind what it added
judged-there : (units : List RootUnit) (before : List UnitFacts) (marks : List Mark) (k : DeclarationResult) (results : List DeclarationResult)
    → mark.Judged ∷ marks ≡ marks_of units → k ∷ results ≡ map declaration_result (declarations_over before (text_of units))
    → (k ≡ declaration_result (k.text, answers before)) × WereThere (before ++ k.out.writes ∷ []) marks results
unfolding declarations_over
judged-there [] before marks k results m r = cc
judged-there (Spelled text sites ∷ units) before marks k results m r =
    let here : DeclarationResult = declaration_result (text, answers before) in
    let next = before ++ (verdict_over before text).writes ∷ [] in
    let same : k ≡ here = same-head k here results (map declaration_result (declarations_over next (text_of units))) r in
    let rest = same-tail k here results (map declaration_result (declarations_over next (text_of units))) r in
    let behind = same-tail mark.Judged mark.Judged marks (marks_of units) m in
    let own : WereThere (before ++ here.out.writes ∷ []) marks results = record { units = units; marks_are = behind; results_are = rest } in (
      same ∙ ap (λ t. declaration_result (t, answers before)) (sym (ap (λ (x : DeclarationResult). x.text) same)),
      subst (λ (x : DeclarationResult). WereThere (before ++ x.out.writes ∷ []) marks results) (sym same) own,
    )
judged-there (Entered file inside ∷ units) before marks k results m r = cc
judged-there (Left file inside ∷ units) before marks k results m r = cc
judged-there (End ∷ units) before marks k results m r = judged-there units before marks k results m r

entered-there : (units : List RootUnit) (before : List UnitFacts) (own : Bool) (marks : List Mark) (results : List DeclarationResult)
    → mark.Entered own ∷ marks ≡ marks_of units → results ≡ map declaration_result (declarations_over before (text_of units))
    → WereThere (before ++ boundary Enters ∷ []) marks results
unfolding declarations_over
entered-there [] before own marks results m r = cc
entered-there (Spelled text sites ∷ units) before own marks results m r = cc
entered-there (Entered file inside ∷ units) before own marks results m r =
    record { units = units; marks_are = same-tail (mark.Entered own) (mark.Entered inside) marks (marks_of units) m; results_are = r }
entered-there (Left file inside ∷ units) before own marks results m r = cc
entered-there (End ∷ units) before own marks results m r = entered-there units before own marks results m r

left-there : (units : List RootUnit) (before : List UnitFacts) (own : Bool) (marks : List Mark) (results : List DeclarationResult)
    → mark.Left own ∷ marks ≡ marks_of units → results ≡ map declaration_result (declarations_over before (text_of units))
    → WereThere (before ++ boundary Leaves ∷ []) marks results
unfolding declarations_over
left-there [] before own marks results m r = cc
left-there (Spelled text sites ∷ units) before own marks results m r = cc
left-there (Entered file inside ∷ units) before own marks results m r = cc
left-there (Left file inside ∷ units) before own marks results m r =
    record { units = units; marks_are = same-tail (mark.Left own) (mark.Left inside) marks (marks_of units) m; results_are = r }
left-there (End ∷ units) before own marks results m r = left-there units before own marks results m r

-- the first has tokens
passed-judged : (marks behind : List Mark) (results rest : List DeclarationResult) (k : DeclarationResult) → marks ≡ mark.Judged ∷ behind → results ≡ k ∷ rest
    → IsPassed k.out.writes marks results behind rest
passed-judged marks behind results rest k m r = record {
  added = λ i. added_by (m i) (r i);
  there = λ before w. (judged-there w.units before behind k rest (sym m ∙ w.marks_are) (sym r ∙ w.results_are)).1;
}

passed-entered : (own : Bool) (marks behind : List Mark) (results : List DeclarationResult) → marks ≡ mark.Entered own ∷ behind → IsPassed (boundary Enters) marks results behind results
passed-entered own marks behind results m = record {
  added = ap (λ l. added_by l results) m;
  there = λ before w. entered-there w.units before own behind results (sym m ∙ w.marks_are) w.results_are;
}

passed-left : (own : Bool) (marks behind : List Mark) (results : List DeclarationResult) → marks ≡ mark.Left own ∷ behind → IsPassed (boundary Leaves) marks results behind results
passed-left own marks behind results m = record {
  added = ap (λ l. added_by l results) m;
  there = λ before w. left-there w.units before own behind results (sym m ∙ w.marks_are) w.results_are;
}

drop-suc : {A : Type 0} (xs : List A) (i : ℕ) (x : A) (ys : List A) → drop i xs ≡ x ∷ ys → drop (suc i) xs ≡ ys
drop-suc [] zero x ys h = cc
drop-suc [] (suc i) x ys h = cc
drop-suc (y ∷ xs) zero x ys h = cc
drop-suc (y ∷ xs) (suc i) x ys h = drop-suc xs i x ys h

-- behind the first of the rest
pub drop-more : {A : Type 0} (xs : List A) (i : ℕ) (x : A) (ys : List A) → drop i xs ≡ x ∷ ys → drop (i + 1) xs ≡ ys
drop-more xs i x ys h = rw add-one (drop-suc xs i x ys h)

module _ (lists : List (List DeclarationResult)) (f : UnitFacts) (course next : Course) (behind : List Mark) (list : next.list ≡ course.list) (rest : next.marks.now ≡ behind) where
  -- behind the first, which has tokens
  pub behind-judged : (drop_more : (k : DeclarationResult) (ks : List DeclarationResult) → results_from lists course ≡ k ∷ ks → results_from lists next ≡ ks)
      → course.marks.now ≡ mark.Judged ∷ behind → IsNext lists f course → IsBehind lists f course next
  behind-judged more m is = by (results_from lists course) refl
    where
      by : (results : List DeclarationResult) → results_from lists course ≡ results → IsBehind lists f course next
      by [] none =
          let nothing : added_by (mark.Judged ∷ behind) [] ≡ f ∷ is.0 =
          sym (added-same course.marks.now (mark.Judged ∷ behind) (results_from lists course) [] m none) ∙ is.1 in
          cc
      by (k ∷ ks) some =
          let own : k.out.writes ≡ f = same-head k.out.writes f (added_by behind ks) is.0 (sym (added-same course.marks.now (mark.Judged ∷ behind) (results_from lists course) (k ∷ ks) m some) ∙ is.1) in
          record {
            list = list;
            passed = subst (λ (l : List Mark). IsPassed f course.marks.now (results_from lists course) l (results_from lists next)) (sym rest)
                (subst (λ (l : List DeclarationResult). IsPassed f course.marks.now (results_from lists course) behind l) (sym (more k ks some))
                (subst (λ g. IsPassed g course.marks.now (results_from lists course) behind ks) own (passed-judged course.marks.now behind (results_from lists course) ks k m some)));
          }

  -- behind the first, which is a file boundary
  module _ (same : results_from lists next ≡ results_from lists course) where
    by-boundary : (g : UnitFacts) → IsPassed g course.marks.now (results_from lists course) behind (results_from lists course)
        → facts_of lists course ≡ g ∷ added_by behind (results_from lists course) → IsNext lists f course → IsBehind lists f course next
    by-boundary g passed adds is =
        let own : g ≡ f = same-head g f (added_by behind (results_from lists course)) is.0 (sym adds ∙ is.1) in
        record {
          list = list;
          passed = subst (λ (l : List Mark). IsPassed f course.marks.now (results_from lists course) l (results_from lists next)) (sym rest)
              (subst (λ (l : List DeclarationResult). IsPassed f course.marks.now (results_from lists course) behind l) (sym same)
              (subst (λ g. IsPassed g course.marks.now (results_from lists course) behind (results_from lists course)) own passed));
        }

    pub behind-entered : (own : Bool) → course.marks.now ≡ mark.Entered own ∷ behind → IsNext lists f course → IsBehind lists f course next
    behind-entered own m is =
        let passed = passed-entered own course.marks.now behind (results_from lists course) m in
        by-boundary (boundary Enters) passed passed.added is

    pub behind-left : (own : Bool) → course.marks.now ≡ mark.Left own ∷ behind → IsNext lists f course → IsBehind lists f course next
    behind-left own m is =
        let passed = passed-left own course.marks.now behind (results_from lists course) m in
        by-boundary (boundary Leaves) passed passed.added is

-- the first of them added what is kept of it
pub first-next : (lists : List (List DeclarationResult)) (k : DeclarationResult) (course : Course) → IsFirst lists k course → IsNext lists k.out.writes course
first-next lists k course f = (added_by f.marks f.results, λ i. added_by (f.marks_are i) (f.results_are i))

-- what is kept of it is its result
pub first-result : (lists : List (List DeclarationResult)) (k : DeclarationResult) (course : Course) (before : List UnitFacts)
    → IsFirst lists k course → WereThere before course.marks.now (results_from lists course) → k ≡ declaration_result (k.text, answers before)
first-result lists k course before f w =
    (judged-there w.units before f.marks k f.results (sym f.marks_are ∙ w.marks_are) (sym f.results_are ∙ w.results_are)).0

-- a file boundary at the head of marks
pub boundary-next : (m : Mark) (marks behind : List Mark) (results : List DeclarationResult) (f : UnitFacts) → marks ≡ m ∷ behind → added_by (m ∷ []) [] ≡ f ∷ []
    → (rest : List UnitFacts) × (added_by marks results ≡ f ∷ rest)
boundary-next mark.Judged marks behind results f is own = cc
boundary-next (mark.Entered inside) marks behind results f is own =
    let same : boundary Enters ≡ f = cc in
    (added_by behind results, ap (λ l. added_by l results) is ∙ ap (λ g. g ∷ added_by behind results) same)
boundary-next (mark.Left inside) marks behind results f is own =
    let same : boundary Leaves ≡ f = cc in
    (added_by behind results, ap (λ l. added_by l results) is ∙ ap (λ g. g ∷ added_by behind results) same)

-- ---- all of them

-- what is kept of a root is that of units that stood at its beginning
pub kept-there : (events : List Event) (marks : RootMarks) (kept : KeptLists) → IsKeptOf events marks kept → WereThere [] marks.marks kept.declarations
unfolding declarations_of
kept-there events marks kept is = record { units = units_of events; marks_are = ap (λ (m : RootMarks). m.marks) is.marks_are; results_are = is.declarations_are }

-- entries over facts are printed over them
entries-printed : (facts : List UnitFacts) (listed : List Listed) → ArePrinted facts (map entry_result (entries_over facts listed))
entries-printed facts [] = All-nil (λ (k : EntryResult). k ≡ entry_result (k.text, answers facts))
entries-printed facts (l ∷ listed) =
    All-cons (λ (k : EntryResult). k ≡ entry_result (k.text, answers facts)) (entry_result (l.path, answers facts)) (map entry_result (entries_over facts listed)) refl (entries-printed facts listed)

pub kept-printed : (events : List Event) (marks : RootMarks) (kept : KeptLists) → IsKeptOf events marks kept → ArePrinted (added_by marks.marks kept.declarations) kept.entries
unfolding declarations_of entries_of
kept-printed events marks kept is =
    let o = outcome_of events in
    let own : marks.marks ≡ marks_of (units_of events) = ap (λ (m : RootMarks). m.marks) is.marks_are in
    let facts : o.facts ≡ added_by marks.marks kept.declarations =
    facts-added (units_of events) []
    ∙ sym (added-same marks.marks (marks_of (units_of events)) kept.declarations (map declaration_result (declarations_of events)) own is.declarations_are) in
    subst (λ fs. ArePrinted fs kept.entries) facts (subst (ArePrinted o.facts) (sym is.entries_are) (entries-printed o.facts o.listed))
