-- A root from its beginning to its end, where results are kept.
use Rattle.std.proofs.Common.{◌≡◌, ◌∙◌, ℕ, List, [], ap, drop, flat_map, map, subst, sym}
use Rattle.std.specs.List.{enumerate_from}
use Rattle.idl_env.specs.Facts.{UnitFacts}
use Rattle.idl_event.specs.declared.told.event.Event.{Event}
use Rattle.idl_store.specs.Stored.{Stored, begun, grown, list_at, results_in, with_draft}
use Rattle.idl_memo.specs.declared.meter.Meter.{Meter}
use Rattle.idl_root.specs.Compile.{Outcome, outcome_of}
use Rattle.idl_finding.specs.Findings.{event_finding}
use Rattle.idl_root.specs.AsBefore.{AreCourse}
use Rattle.idl_root.specs.Followed.{ArePrinted, IsKeeping, WereThere, added_by, facts_of, results_from}
use Rattle.idl_root.specs.Held.{to_come}
use Rattle.idl_root.specs.Places.{declarations_of, entries_of, entries_over, root_text}
use Rattle.idl_kept.specs.Texts.{DeclarationResult}
use Rattle.idl_root.specs.Results.{ChecksOnly, EntryResult, ExpandsNone, IsDeclarationPass, IsEntryPass, IsKeptOf, KeptLists, PrintsOnly, RootMarks, entry_result}
use Rattle.idl_finding.specs.declared.finding.EventFinding.{EventFinding}
use Rattle.idl_root.specs.declared.kept.course.Course.{Course}
use Rattle.idl_root.specs.declared.kept.keeping.Keeping.{Keeping}
use Rattle.idl_root.proofs.JudgingLemmas.{to_come-start}
use Rattle.idl_root.proofs.ResultLemmas.{kept-printed, kept-there}
use Rattle.idl_root.proofs.StoredLemmas.{begun-results, grown-begun}
use Rattle.idl_root_blocks.specs.Places.{declarations_over}
use Rattle.idl_root_blocks.specs.Units.{text_of}
use Rattle.idl_unit.specs.Units.{units_of}
use Rattle.idl_unit.specs.declared.unit.Unit.{Unit as RootUnit}

-- ---- at first

module _ (lists : List (List DeclarationResult)) (course : Course) (at : ℕ) (marks : RootMarks) (list : course.list ≡ at) (place : course.place ≡ 0) (own : course.marks.now ≡ marks.marks) where
  start-results : results_from lists course ≡ list_at lists at
  start-results = λ i. drop (place i) (list_at lists (list i))

  module _ (events : List Event) (kept : KeptLists) (there : kept.declarations ≡ list_at lists at) (is : IsKeptOf events marks kept) where
    start-kept : kept.declarations ≡ results_from lists course
    start-kept = there ∙ sym start-results

    -- the units were there
    pub start-there : WereThere [] course.marks.now (results_from lists course)
    start-there =
        subst (λ ms. WereThere [] ms (results_from lists course)) (sym own) (subst (λ rs. WereThere [] marks.marks rs) start-kept (kept-there events marks kept is))

    -- and are those of the course
    pub start-course : AreCourse lists course (units_of events)
    unfolding declarations_of
    start-course = record { marks = own ∙ ap (λ (m : RootMarks). m.marks) is.marks_are; results = sym start-kept ∙ is.declarations_are }

    -- and so were the entries over all that they added
    pub start-printed : ArePrinted (facts_of lists course) kept.entries
    start-printed =
        let facts : facts_of lists course ≡ added_by marks.marks kept.declarations = λ i. added_by (own i) (sym start-kept i) in
        subst (λ fs. ArePrinted fs kept.entries) (sym facts) (kept-printed events marks kept is)

-- the judging begins, behind a draft more
pub start-keeping : (old new : Stored DeclarationResult) (at : ℕ) (keeping : Keeping) (facts : List UnitFacts) → new ≡ begun old at → facts ≡ [] → IsKeeping old.lists keeping []
    → IsKeeping new.lists keeping facts
start-keeping old new at keeping facts begins none k =
    subst (λ (s : Stored DeclarationResult). IsKeeping s.lists keeping facts) (sym begins) (subst (λ fs. IsKeeping old.lists keeping fs) (sym none) k)

-- ---- at the end

-- the declarations
pub declarations-passed : (events : List Event) (old between new : Stored DeclarationResult) (at : ℕ) (facts : List UnitFacts) (units : List RootUnit) (a b c d : ℕ) → between ≡ begun old at
    → facts ≡ [] → units ≡ units_of events → a ≡ c → b ≡ d
    → IsDeclarationPass (declarations_over facts (text_of units)) (results_in between) (results_in new) a b
    → IsDeclarationPass (declarations_of events) (results_in old) (results_in new) c d
unfolding declarations_of
declarations-passed events old between new at facts units a b c d begins none are before after pass =
    let results : results_in between ≡ results_in old = ap (λ (s : Stored DeclarationResult). results_in s) begins ∙ begun-results old at in
    subst (λ n. IsDeclarationPass (declarations_over [] (root_text events)) (results_in old) (results_in new) c n) after
    (subst (λ n. IsDeclarationPass (declarations_over [] (root_text events)) (results_in old) (results_in new) n b) before
    (subst (λ rs. IsDeclarationPass (declarations_over [] (root_text events)) rs (results_in new) a b) results
    (subst (λ us. IsDeclarationPass (declarations_over [] (text_of us)) (results_in between) (results_in new) a b) are
    (subst (λ fs. IsDeclarationPass (declarations_over fs (text_of units)) (results_in between) (results_in new) a b) none pass))))

-- the places of the entries
pub entries-are : (events : List Event) (o : Outcome) → o ≡ outcome_of events → entries_over o.facts o.listed ≡ entries_of events
unfolding entries_of
entries-are events o is = ap (λ (p : Outcome). entries_over p.facts p.listed) is

pub entries-drafted : (events : List Event) (o : Outcome) (old between new : Stored EntryResult) (at : ℕ) → o ≡ outcome_of events → between ≡ begun old at
    → new ≡ grown between (map entry_result (entries_over o.facts o.listed)) → new ≡ with_draft old at (map entry_result (entries_of events))
entries-drafted events o old between new at is begins grows =
    grows
    ∙ ap (λ (s : Stored EntryResult). grown s (map entry_result (entries_over o.facts o.listed))) begins
    ∙ grown-begun old at (map entry_result (entries_over o.facts o.listed))
    ∙ ap (λ places. with_draft old at (map entry_result places)) (entries-are events o is)

pub entries-passed : (events : List Event) (o : Outcome) (old between new : Stored EntryResult) (at : ℕ) (a b c d : ℕ) → o ≡ outcome_of events → between ≡ begun old at → a ≡ c → b ≡ d
    → IsEntryPass (entries_over o.facts o.listed) (results_in between) (results_in new) a b → IsEntryPass (entries_of events) (results_in old) (results_in new) c d
entries-passed events o old between new at a b c d is begins before after pass =
    let results : results_in between ≡ results_in old = ap (λ (s : Stored EntryResult). results_in s) begins ∙ begun-results old at in
    subst (λ n. IsEntryPass (entries_of events) (results_in old) (results_in new) c n) after
    (subst (λ n. IsEntryPass (entries_of events) (results_in old) (results_in new) n b) before
    (subst (λ rs. IsEntryPass (entries_of events) rs (results_in new) a b) results
    (subst (λ places. IsEntryPass places (results_in between) (results_in new) a b) (entries-are events o is) pass)))

-- the counts
pub expands-none : (old start judged printed : Meter) → start ≡ old → ChecksOnly start judged → PrintsOnly judged printed → ExpandsNone old printed
expands-none old start judged printed same checks prints =
    ap (λ (m : Meter). m.expanded) prints ∙ ap (λ (m : Meter). m.expanded) checks ∙ ap (λ (m : Meter). m.expanded) same

-- what was printed was so over all that was added before
pub printed-there : (lists others : List (List DeclarationResult)) (earlier course : Course) (at : ℕ) (entries before : List (List EntryResult)) → lists ≡ others → earlier ≡ course → course.list ≡ at
    → entries ≡ before → ArePrinted (facts_of others course) (list_at before at) → ArePrinted (facts_of lists earlier) (list_at entries earlier.list)
printed-there lists others earlier course at entries before l e a b h =
    subst (λ ls. ArePrinted (facts_of ls earlier) (list_at entries earlier.list)) (sym l)
    (subst (λ (k : Course). ArePrinted (facts_of others k) (list_at entries k.list)) (sym e)
    (subst (λ es. ArePrinted (facts_of others course) (list_at es course.list)) (sym b)
    (subst (λ n. ArePrinted (facts_of others course) (list_at before n)) (sym a) h)))

-- all that comes of a root
pub judged-all : (events : List Event) (units : List RootUnit) (found : List EventFinding) (first judging : Outcome) → units ≡ units_of events
    → found ≡ flat_map event_finding (enumerate_from 0 events) → first ≡ record { facts = []; found = found; rows = []; listed = [] } → judging ≡ to_come first units → judging ≡ outcome_of events
judged-all events units found first judging are finds start all =
    all ∙ ap (to_come first) are
    ∙ to_come-start events first (start ∙ ap (λ (fs : List EventFinding). record { facts = []; found = fs; rows = []; listed = [] }) finds)
