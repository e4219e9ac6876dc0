-- Units that are as they were come to what they came to: of each its text alone tells.
use Rattle.std.proofs.Common.{◌≡◌, ℕ, ◌+◌, Bool, List, [], ◌∷◌, ◌++◌, flat_map, length, map, refl, ap, sym, ◌∙◌, append-nil, arith, option_to_list}
use Rattle.std.proofs.lemmas.List.{length-append, map-append}
use Rattle.std.specs.List.{enumerate_from, sum_by}
use Rattle.idl_env.specs.Facts.{UnitFacts, answers, boundary}
use Rattle.idl_env.specs.declared.additions.addition.Step.TheVariants.{Enters as EntersFile, Leaves as LeavesFile}
use Rattle.idl_event.specs.declared.told.event.Event.{Event}
use Rattle.idl_event.specs.declared.told.site.Site.{Site}
use Rattle.idl_fault.specs.declared.place.Place.{Place}
use Rattle.idl_root.specs.AsBefore.{AreAsBefore, AreCourse, IsCompiledOf, closing_beside, judged_beside, texts_from, texts_of}
use Rattle.idl_root.specs.Compared.{entry_keys, root_keys}
use Rattle.idl_root.specs.Compile.{all_findings, compile, findings_told, has_error, is_open, outcome_of, row_in, rows_beside}
use Rattle.idl_finding.specs.Findings.{event_finding, finding_row}
use Rattle.idl_root.specs.Findings.{unit_finding}
use Rattle.idl_root.specs.Judged.{facts_after, judged_after, judged_over}
use Rattle.idl_root_blocks.specs.idl_check.walk.Verdict.{verdict_over}
use Rattle.idl_root.specs.Places.{EntryPlace, declarations_of, entries_of, entries_over, root_pieces, root_text}
use Rattle.idl_root_blocks.specs.Blocks.{cut}
use Rattle.idl_root_blocks.specs.Met.{outermost_keys}
use Rattle.idl_root_blocks.specs.Places.{DeclarationPlace, declaration_result, declarations_over, facts_over}
use Rattle.idl_root_blocks.specs.Units.{text_of}
use Rattle.idl_root_blocks.specs.declared.text.BlockPart.{BlockPart}
use Rattle.idl_root_blocks.specs.declared.text.BlockPart.TheVariants.{Text, Enters, Leaves}
use Rattle.idl_root.specs.Printed.{Listed, closing_finding, entry_over, entry_row, first_paths, listed_in, listed_with}
use Rattle.idl_kept.specs.Texts.{DeclarationResult}
use Rattle.idl_root.specs.Results.{EntryResult, entry_result, marks_of}
use Rattle.idl_root.specs.declared.compiling.compiled.Compiled.{Compiled}
use Rattle.idl_finding.specs.declared.finding.EventFinding.{EventFinding}
use Rattle.idl_finding.specs.declared.finding.Finding.{Finding}
use Rattle.idl_root.specs.declared.kept.course.Course.{Course}
use Rattle.idl_root.specs.declared.kept.marks.Mark.{Mark}
use Rattle.idl_root.specs.declared.kept.marks.Mark.TheVariants as mark
use Rattle.idl_root.specs.Turns.{FitsU64}
use Rattle.idl_root.proofs.FactsTold.{within-words}
use Rattle.idl_root.proofs.TextLaws.{facts-text}
use Rattle.idl_unit.specs.Units.{units_of}
use Rattle.idl_unit.specs.declared.unit.Unit.{Unit as RootUnit}
use Rattle.idl_unit.specs.declared.unit.Unit.TheVariants.{Spelled, Entered, Left, End}
use Rattle.idl_unit.specs.declared.unit.UnitText.{UnitText}

-- ---- texts

-- the text of units, by their marks and the texts of those with tokens
abbrev text_by : List Mark → List UnitText → List BlockPart
text_by [] texts = []
text_by (mark.Judged ∷ marks) [] = []
text_by (mark.Judged ∷ marks) (t ∷ texts) = Text t ∷ text_by marks texts
text_by (mark.Entered inside ∷ marks) texts = Enters inside ∷ text_by marks texts
text_by (mark.Left inside ∷ marks) texts = Leaves inside ∷ text_by marks texts

text-told : (units : List RootUnit) → text_of units ≡ text_by (marks_of units) (texts_of units)
text-told [] = refl
text-told (Spelled text sites ∷ units) = ap (λ parts. Text text ∷ parts) (text-told units)
text-told (Entered file inside ∷ units) = ap (λ parts. Enters inside ∷ parts) (text-told units)
text-told (Left file inside ∷ units) = ap (λ parts. Leaves inside ∷ parts) (text-told units)
text-told (End ∷ units) = text-told units

-- units that are as they were have the text that they had
pub text-same : (before units : List RootUnit) → AreAsBefore before units → text_of units ≡ text_of before
text-same before units same = text-told units ∙ (λ i. text_by (same.marks i) (same.texts i)) ∙ sym (text-told before)

-- ---- declarations

-- the texts that are kept of units are theirs
texts-kept : (units : List RootUnit) (facts : List UnitFacts) → map (λ (k : DeclarationResult). k.text) (map declaration_result (declarations_over facts (text_of units))) ≡ texts_of units
unfolding declarations_over
texts-kept [] facts = refl
texts-kept (Spelled text sites ∷ units) facts = ap (λ texts. text ∷ texts) (texts-kept units (facts ++ (verdict_over facts text).writes ∷ []))
texts-kept (Entered file inside ∷ units) facts = texts-kept units (facts ++ boundary EntersFile ∷ [])
texts-kept (Left file inside ∷ units) facts = texts-kept units (facts ++ boundary LeavesFile ∷ [])
texts-kept (End ∷ units) facts = texts-kept units facts

-- how many results are kept of units with these marks
abbrev results_count : List Mark → ℕ
results_count [] = 0
results_count (mark.Judged ∷ marks) = 1 + results_count marks
results_count (mark.Entered inside ∷ marks) = results_count marks
results_count (mark.Left inside ∷ marks) = results_count marks

texts-counted : (units : List RootUnit) → length (texts_of units) ≡ results_count (marks_of units)
texts-counted [] = refl
texts-counted (Spelled text sites ∷ units) = let rest = texts-counted units in omega (arith, rest)
texts-counted (Entered file inside ∷ units) = texts-counted units
texts-counted (Left file inside ∷ units) = texts-counted units
texts-counted (End ∷ units) = texts-counted units

-- behind as many texts nothing is left
nothing-left : {A : Type 0} (xs ys rest : List A) → xs ≡ ys ++ rest → length xs ≡ length ys → rest ≡ []
nothing-left xs ys [] is count = refl
nothing-left xs ys (r ∷ rest) is count = absurd (omega (arith, ap length is, length-append ys (r ∷ rest), count))

-- the units of a course of the same marks and texts are as they were
pub as-before : (lists : List (List DeclarationResult)) (course : Course) (before units : List RootUnit) (rest : List UnitText) → AreCourse lists course before
    → course.marks.now ≡ marks_of units → texts_from lists course ≡ texts_of units ++ rest → AreAsBefore before units
as-before lists course before units rest are marks texts =
    let same : marks_of units ≡ marks_of before = sym marks ∙ are.marks in
    let all : texts_of before ≡ texts_of units ++ rest =
    sym (texts-kept before []) ∙ ap (λ (ks : List DeclarationResult). map (λ (k : DeclarationResult). k.text) ks) (sym are.results) ∙ texts in
    let count : length (texts_of before) ≡ length (texts_of units) = texts-counted before ∙ ap results_count (sym same) ∙ sym (texts-counted units) in
    let none : rest ≡ [] = nothing-left (texts_of before) (texts_of units) rest all count in
    record { marks = same; texts = sym (append-nil (texts_of units)) ∙ ap (λ l. texts_of units ++ l) (sym none) ∙ sym all }

-- their declarations stand where they stood
pub declarations-same : (before units : List RootUnit) → AreAsBefore before units → declarations_over [] (text_of units) ≡ declarations_over [] (text_of before)
declarations-same before units same = ap (declarations_over []) (text-same before units same)

-- and they add what they added
pub facts-same : (before units : List RootUnit) → AreAsBefore before units → facts_after [] units ≡ facts_after [] before
facts-same before units same = facts-text units [] ∙ ap (facts_over []) (text-same before units same) ∙ sym (facts-text before [])

pub within-same : (was events : List Event) → AreAsBefore (units_of was) (units_of events) → FitsU64 was → FitsU64 events
within-same was events same within = within-words events (facts_after [] (units_of was)) (sym (facts-same (units_of was) (units_of events) same)) within.turns within.nameless

-- ---- what is found in them

-- the verdicts of units are those that are kept
pub judged-kept : (units : List RootUnit) (facts : List UnitFacts) → judged_after facts units ≡ judged_beside units (map declaration_result (declarations_over facts (text_of units)))
unfolding judged_after declarations_over
judged-kept [] facts = refl
judged-kept (Spelled text sites ∷ units) facts = ap (λ judged. judged_over facts text sites ∷ judged) (judged-kept units (facts ++ (verdict_over facts text).writes ∷ []))
judged-kept (Entered file inside ∷ units) facts = judged-kept units (facts ++ boundary EntersFile ∷ [])
judged-kept (Left file inside ∷ units) facts = judged-kept units (facts ++ boundary LeavesFile ∷ [])
judged-kept (End ∷ units) facts = ap (λ (fs : List UnitFacts). judged_after fs units) (append-nil facts) ∙ judged-kept units facts

-- and what is wrong with names at the end is told by the entries that are kept
closing-kept : (facts : List UnitFacts) (listed : List Listed) → flat_map (closing_finding facts) listed ≡ closing_beside listed (map entry_result (entries_over facts listed))
closing-kept facts [] = refl
closing-kept facts (l ∷ listed) = ap (λ found. closing_finding facts l ++ found) (closing-kept facts listed)

-- ---- rows

-- the rows of the dump are told by what is kept
rows-kept : (units : List RootUnit) (facts : List UnitFacts)
    → flat_map row_in (judged_after facts units) ≡ flat_map (λ (k : DeclarationResult). option_to_list k.out.row) (map declaration_result (declarations_over facts (text_of units)))
unfolding judged_after declarations_over
rows-kept [] facts = refl
rows-kept (Spelled text sites ∷ units) facts =
    ap (λ rows. option_to_list (verdict_over facts text).row ++ rows) (rows-kept units (facts ++ (verdict_over facts text).writes ∷ []))
rows-kept (Entered file inside ∷ units) facts = rows-kept units (facts ++ boundary EntersFile ∷ [])
rows-kept (Left file inside ∷ units) facts = rows-kept units (facts ++ boundary LeavesFile ∷ [])
rows-kept (End ∷ units) facts = ap (λ (fs : List UnitFacts). flat_map row_in (judged_after fs units)) (append-nil facts) ∙ rows-kept units facts

-- the paths of names
abbrev paths_in : List Listed → List (List (List ℕ))
paths_in listed = map (λ (l : Listed). l.path) listed

paths-listed : (text : UnitText) (sites : List Site) (paths : List (List (List ℕ))) → paths_in (listed_with text sites paths) ≡ paths
paths-listed text sites [] = refl
paths-listed text sites (path ∷ paths) = ap (λ ps. path ∷ ps) (paths-listed text sites paths)

-- those that units declare first are told by what is kept
paths-kept : (units : List RootUnit) (facts : List UnitFacts)
    → paths_in (flat_map listed_in (judged_after facts units))
    ≡ flat_map (λ (k : DeclarationResult). first_paths k.out.writes.additions) (map declaration_result (declarations_over facts (text_of units)))
unfolding judged_after declarations_over
paths-kept [] facts = refl
paths-kept (Spelled text sites ∷ units) facts =
    let next = facts ++ (verdict_over facts text).writes ∷ [] in
    let own = first_paths (verdict_over facts text).writes.additions in
    map-append (λ (l : Listed). l.path) (listed_with text sites own) (flat_map listed_in (judged_after next units))
    ∙ (λ i. paths-listed text sites own i ++ paths-kept units next i)
paths-kept (Entered file inside ∷ units) facts = paths-kept units (facts ++ boundary EntersFile ∷ [])
paths-kept (Left file inside ∷ units) facts = paths-kept units (facts ++ boundary LeavesFile ∷ [])
paths-kept (End ∷ units) facts = ap (λ (fs : List UnitFacts). paths_in (flat_map listed_in (judged_after fs units))) (append-nil facts) ∙ paths-kept units facts

-- entries, and their rows, are told by the paths
abbrev entry_at : List UnitFacts → List (List ℕ) → EntryPlace
entry_at facts path = (path, answers facts)

entries-told : (facts : List UnitFacts) (listed : List Listed) → entries_over facts listed ≡ map (entry_at facts) (paths_in listed)
entries-told facts [] = refl
entries-told facts (l ∷ listed) = ap (λ places. entry_at facts l.path ∷ places) (entries-told facts listed)

listing-told : (facts : List UnitFacts) (listed : List Listed) → flat_map (entry_row facts) listed ≡ flat_map (λ path. option_to_list (entry_over facts path).row) (paths_in listed)
listing-told facts [] = refl
listing-told facts (l ∷ listed) = ap (λ rows. entry_row facts l ++ rows) (listing-told facts listed)

-- ---- roots

module _ (was events : List Event) (same : AreAsBefore (units_of was) (units_of events)) where
  pub declarations-again : declarations_of events ≡ declarations_of was
  unfolding declarations_of
  declarations-again = declarations-same (units_of was) (units_of events) same

  facts-again : (outcome_of events).facts ≡ (outcome_of was).facts
  facts-again = facts-same (units_of was) (units_of events) same

  paths-again : paths_in (outcome_of events).listed ≡ paths_in (outcome_of was).listed
  paths-again =
      paths-kept (units_of events) []
      ∙ ap (λ (places : List DeclarationPlace). flat_map (λ (k : DeclarationResult). first_paths k.out.writes.additions) (map declaration_result places))
      (declarations-same (units_of was) (units_of events) same)
      ∙ sym (paths-kept (units_of was) [])

  pub entries-again : entries_of events ≡ entries_of was
  unfolding entries_of
  entries-again =
      entries-told (outcome_of events).facts (outcome_of events).listed
      ∙ (λ i. map (entry_at (facts-again i)) (paths-again i))
      ∙ sym (entries-told (outcome_of was).facts (outcome_of was).listed)

  -- their blocks are those that they were, and they ask as many keys
  pub pieces-again : root_pieces events ≡ root_pieces was
  pieces-again = ap cut (text-same (units_of was) (units_of events) same)

  pub keys-again : root_keys events ≡ root_keys was
  unfolding root_keys
  keys-again = λ i. outermost_keys [] (pieces-again i) + sum_by entry_keys (entries-again i)

  rows-again : (outcome_of events).rows ≡ (outcome_of was).rows
  rows-again =
      rows-kept (units_of events) []
      ∙ ap (λ (places : List DeclarationPlace). flat_map (λ (k : DeclarationResult). option_to_list k.out.row) (map declaration_result places))
      (declarations-same (units_of was) (units_of events) same)
      ∙ sym (rows-kept (units_of was) [])

  listing-again : flat_map (entry_row (outcome_of events).facts) (outcome_of events).listed ≡ flat_map (entry_row (outcome_of was).facts) (outcome_of was).listed
  listing-again =
      listing-told (outcome_of events).facts (outcome_of events).listed
      ∙ (λ i. flat_map (λ path. option_to_list (entry_over (facts-again i) path).row) (paths-again i))
      ∙ sym (listing-told (outcome_of was).facts (outcome_of was).listed)

  module _ (units : List RootUnit) (are : units ≡ units_of events) where
    -- what is found in the events and in the units
    pub found-again : (results : List DeclarationResult) → results ≡ map declaration_result (declarations_of was)
        → flat_map event_finding (enumerate_from 0 events) ++ flat_map unit_finding (judged_beside units results) ≡ (outcome_of events).found
    unfolding declarations_of
    found-again results is =
        let kept : results ≡ map declaration_result (declarations_over [] (root_text events)) =
        is ∙ ap (λ (places : List DeclarationPlace). map declaration_result places) (sym (declarations-same (units_of was) (units_of events) same)) in
        ap (λ judged. flat_map event_finding (enumerate_from 0 events) ++ flat_map unit_finding judged)
        ((λ i. judged_beside (are i) (kept i)) ∙ sym (judged-kept (units_of events) []))

    -- and at the end
    pub closing-again : (results : List DeclarationResult) (entries : List EntryResult) → results ≡ map declaration_result (declarations_of was) → entries ≡ map entry_result (entries_of was)
        → closing_beside (flat_map listed_in (judged_beside units results)) entries ≡ flat_map (closing_finding (outcome_of events).facts) (outcome_of events).listed
    unfolding declarations_of entries_of
    closing-again results entries is own =
        let kept : results ≡ map declaration_result (declarations_over [] (root_text events)) =
        is ∙ ap (λ (places : List DeclarationPlace). map declaration_result places) (sym (declarations-same (units_of was) (units_of events) same)) in
        let listed : flat_map listed_in (judged_beside units results) ≡ (outcome_of events).listed =
        ap (λ judged. flat_map listed_in judged) ((λ i. judged_beside (are i) (kept i)) ∙ sym (judged-kept (units_of events) [])) in
        let there : entries ≡ map entry_result (entries_of events) = own ∙ ap (λ (places : List EntryPlace). map entry_result places) (sym entries-again) in
        (λ i. closing_beside (listed i) (there i)) ∙ sym (closing-kept (outcome_of events).facts (outcome_of events).listed)

  -- what the root compiles to, from what it compiled to
  pub told-again : (end : Place) (compiled : Compiled) (findings : List Finding) (found closing : List EventFinding) (opened : Bool) → IsCompiledOf was compiled
      → found ≡ (outcome_of events).found → closing ≡ flat_map (closing_finding (outcome_of events).facts) (outcome_of events).listed → opened ≡ compiled.is_open
      → findings ≡ findings_told end events found opened closing → has_error findings ≡ compiled.is_faulty
      → record {
        findings = findings;
        diagnostics = map finding_row findings;
        listing = compiled.listing;
        dump = compiled.dump;
        is_faulty = has_error findings;
        is_open = compiled.is_open;
      }
      ≡ compile end events
  unfolding compile
  told-again end compiled findings found closing opened is f c o are faulty =
      let before = outcome_of was in
      let now = outcome_of events in
      let errors = has_error (all_findings is.end was before) in
      let opens : compiled.is_open ≡ is_open now.facts = ap (λ (x : Compiled). x.is_open) is.rows ∙ ap is_open (sym facts-again) in
      let all : findings ≡ all_findings end events now = are ∙ (λ i. findings_told end events (f i) ((o ∙ opens) i) (c i)) in
      let wrong : compiled.is_faulty ≡ errors = ap (λ (x : Compiled). x.is_faulty) is.rows in
      let still : errors ≡ has_error (all_findings end events now) = sym wrong ∙ sym faulty ∙ ap has_error all in
      let listing : compiled.listing ≡ rows_beside (has_error (all_findings end events now)) (flat_map (entry_row now.facts) now.listed) =
      ap (λ (x : Compiled). x.listing) is.rows ∙ (λ i. rows_beside (still i) (sym listing-again i)) in
      let dump : compiled.dump ≡ rows_beside (has_error (all_findings end events now)) now.rows =
      ap (λ (x : Compiled). x.dump) is.rows ∙ (λ i. rows_beside (still i) (sym rows-again i)) in
      λ i. record {
        findings = all i;
        diagnostics = map finding_row (all i);
        listing = listing i;
        dump = dump i;
        is_faulty = has_error (all i);
        is_open = opens i;
      }
