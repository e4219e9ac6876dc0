-- Units that are as they were, and what is kept of them.
use Rattle.std.specs.Prelude.{◌≡◌, ℕ, ◌+◌, List, [], ◌∷◌, ◌++◌, flat_map, map}
use Rattle.idl_event.specs.declared.told.event.Event.{Event}
use Rattle.idl_fault.specs.declared.place.Place.{Place}
use Rattle.idl_kept.specs.Texts.{AreListsOf, DeclarationResult}
use Rattle.idl_memo.specs.Meter.{compared_after}
use Rattle.idl_memo.specs.declared.meter.Meter.{Meter}
use Rattle.idl_root.specs.Compared.{AreOf, compared_root, root_keys}
use Rattle.idl_root.specs.Compile.{compile}
use Rattle.idl_finding.specs.Findings.{fault_finding}
use Rattle.idl_root.specs.Followed.{results_from}
use Rattle.idl_root.specs.Judged.{Judged}
use Rattle.idl_root.specs.Places.{EntryPlace, begins_of, blocks_of, declarations_of, entries_of, root_pieces}
use Rattle.idl_root.specs.Printed.{Listed, name_index}
use Rattle.idl_root.specs.Results.{EntryResult, IsDeclarationPass, IsEntryPass, KeptLists, entry_result, mark_at, marks_of}
use Rattle.idl_root_blocks.specs.Met.{Known}
use Rattle.idl_root_blocks.specs.Places.{block_result, declaration_result, declarations_over}
use Rattle.idl_root_blocks.specs.Units.{text_of}
use Rattle.idl_root.specs.Turns.{FitsU64}
use Rattle.idl_root.specs.declared.compiling.compiled.Compiled.{Compiled}
use Rattle.idl_finding.specs.declared.finding.EventFinding.{EventFinding}
use Rattle.idl_root.specs.declared.kept.course.Course.{Course}
use Rattle.idl_root.specs.declared.kept.keeper.Keeper.{Keeper}
use Rattle.idl_root.specs.declared.kept.marks.Mark.{Mark}
use Rattle.idl_root.specs.declared.kept.marks.Mark.TheVariants as mark
use Rattle.idl_store.specs.Stored.{list_at, results_in, with_draft}
use Rattle.idl_unit.specs.TokenRules.{fault_at}
use Rattle.idl_unit.specs.declared.unit.Unit.{Unit as RootUnit}
use Rattle.idl_unit.specs.declared.unit.Unit.TheVariants.{Spelled, Entered, Left, End}
use Rattle.idl_unit.specs.declared.unit.UnitText.{UnitText}
use Rattle.std.specs.Option.{option_map}

-- the text of a unit, if it has tokens
abbrev pub text_at : RootUnit → List UnitText
text_at (Spelled text sites) = text ∷ []
text_at (Entered file inside) = []
text_at (Left file inside) = []
text_at End = []

abbrev pub texts_of : List RootUnit → List UnitText
texts_of units = flat_map text_at units

-- units are as those before were: of the same texts, with the same file boundaries, and in the same
-- order; where their tokens stand may differ
pub record AreAsBefore (before units : List RootUnit) : Type 0 where
  pub marks : marks_of units ≡ marks_of before
  pub texts : texts_of units ≡ texts_of before

-- ---- the walk beside what is kept

-- the texts of the units that are still to come, as they are kept
abbrev pub texts_from : List (List DeclarationResult) → Course → List UnitText
texts_from lists course = map (λ k. k.text) (results_from lists course)

-- the place of the next result behind a unit with this mark, where its own would stand at that
abbrev pub place_behind : Mark → ℕ → ℕ
place_behind mark.Judged place = place + 1
place_behind (mark.Entered inside) place = place
place_behind (mark.Left inside) place = place

-- the course behind the first unit of another, which was that
pub record IsBehindMark (course : Course) (m : Mark) (next : Course) : Type 0 where
  pub list : next.list ≡ course.list
  pub place : next.place ≡ place_behind m course.place
  pub marks : course.marks.now ≡ m ∷ next.marks.now

-- the course behind the first unit of another, which was as this one is
pub record IsBehindSame (lists : List (List DeclarationResult)) (course : Course) (unit : RootUnit)
    (next : Course) : Type 0 where
  pub list : next.list ≡ course.list
  pub marks : course.marks.now ≡ mark_at unit ++ next.marks.now
  pub texts : texts_from lists course ≡ text_at unit ++ texts_from lists next

-- the units of a course are these, from the first one of a root on
pub record AreCourse (lists : List (List DeclarationResult)) (course : Course)
    (units : List RootUnit) : Type 0 where
  pub marks : course.marks.now ≡ marks_of units
  pub results : results_from lists course ≡ map declaration_result (declarations_over [] (text_of units))

-- ---- what is found in them

-- these units, each with the verdict that is kept of it
abbrev pub judged_beside : List RootUnit → List DeclarationResult → List Judged
judged_beside [] results = []
judged_beside (Spelled text sites ∷ units) [] = []
judged_beside (Spelled text sites ∷ units) (k ∷ results) =
    record { text = text; sites = sites; verdict = k.out } ∷ judged_beside units results
judged_beside (Entered file inside ∷ units) results = judged_beside units results
judged_beside (Left file inside ∷ units) results = judged_beside units results
judged_beside (End ∷ units) results = judged_beside units results

-- what is wrong with names at the end, by the entries that are kept of them
abbrev pub closing_beside : List Listed → List EntryResult → List EventFinding
closing_beside [] entries = []
closing_beside (l ∷ listed) [] = []
closing_beside (l ∷ listed) (k ∷ entries) =
    fault_finding l.text l.sites (option_map (fault_at (name_index l.text)) k.out.fault)
    ++ closing_beside listed entries

-- ---- roots

-- a root compiled to that at these events, and words count what its units add
pub record IsCompiledOf (events : List Event) (compiled : Compiled) : Type 0 where
  pub end : Place
  pub rows : compiled ≡ compile end events
  pub within : FitsU64 events

-- what is kept of the root at a place among all
abbrev pub kept_lists : Keeper → ℕ → KeptLists
kept_lists keeper at = record {
  declarations = list_at keeper.texts.declarations.lists at;
  blocks = list_at keeper.texts.blocks.lists at;
  begins = list_at keeper.texts.begins.lists at;
  entries = list_at keeper.entries.lists at;
}

-- no list has become another
pub record AreListsLeft (old new : Keeper) : Type 0 where
  pub texts : AreListsOf old.texts new.texts
  pub entries : new.entries.lists ≡ old.entries.lists

-- nothing is made of a root: its tasks are those that it had
pub record IsAsBefore (was events : List Event) (old new : Keeper) (before after : Meter)
    : Type 0 where
  pub declarations_are : declarations_of events ≡ declarations_of was
  pub pieces_are : root_pieces events ≡ root_pieces was
  pub entries_are : entries_of events ≡ entries_of was
  pub texts : new.texts ≡ old.texts
  pub entries : new.entries ≡ old.entries
  pub checked : after.checked ≡ before.checked
  pub printed : after.printed ≡ before.printed
  pub compared : after.compared ≡ compared_after before.compared (root_keys events)

-- a root of these events is made, at a place among all: its lists are in drafts, its fresh tasks are
-- counted, and the keys of known ones are compared
pub record IsMade (events : List Event) (at : ℕ) (old new : Keeper) (before after : Meter)
    : Type 0 where
  pub declarations : new.texts.declarations
      ≡ with_draft old.texts.declarations at (map declaration_result (declarations_of events))
  pub blocks : new.texts.blocks
      ≡ with_draft old.texts.blocks at (map block_result (blocks_of events))
  pub begins : new.texts.begins ≡ with_draft old.texts.begins at (begins_of events)
  pub entries : new.entries ≡ with_draft old.entries at (map entry_result (entries_of events))
  pub checked : IsDeclarationPass (declarations_of events) (results_in old.texts.declarations)
      (results_in new.texts.declarations) before.checked after.checked
  pub printed : IsEntryPass (entries_of events) (results_in old.entries) (results_in new.entries)
      before.printed after.printed
  pub compared : (known : Known) (entries : List EntryPlace)
      → AreOf known old.texts → results_in old.entries ≡ map entry_result entries
      → after.compared ≡ compared_after before.compared (compared_root known entries events)
