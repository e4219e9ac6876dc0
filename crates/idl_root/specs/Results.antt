-- The results of the tasks of roots, as they are kept.
use Rattle.std.specs.Prelude.{◌≡◌, ◌≢◌, ℕ, List, [], Option, map}
use Rattle.std.specs.Option.{option_eq}
use Rattle.idl_entity.specs.Path.{path_eq}
use Rattle.idl_env.specs.SameAnswer.{answer_eq}
use Rattle.idl_env.specs.declared.answering.answer.Answer.{Answer}
use Rattle.idl_env.specs.declared.keys.key.Key.{Key}
use Rattle.idl_env.specs.keys.Key.{key_eq}
use Rattle.idl_event.specs.declared.told.event.Event.{Event}
use Rattle.idl_memo.specs.Fresh.{fresh_among}
use Rattle.idl_memo.specs.Kept.{Kept, result_over}
use Rattle.idl_memo.specs.Passes.{IsPass}
use Rattle.idl_memo.specs.Meter.{compared_after}
use Rattle.idl_memo.specs.declared.meter.Meter.{Meter}
use Rattle.idl_store.specs.Stored.{Stored}
use Rattle.idl_repo.specs.Entry.{entry}
use Rattle.idl_repo.specs.declared.entry.Entry.{Entry}
use Rattle.idl_kept.specs.Texts.{BlockResult, DeclarationResult}
use Rattle.idl_root.specs.Compared.{root_keys}
use Rattle.idl_root.specs.Places.{EntryPlace, begins_of, blocks_of, declarations_of, entries_of}
use Rattle.idl_root_blocks.specs.Met.{unit_text_eq}
use Rattle.idl_root_blocks.specs.Places.{DeclarationPlace, block_result, declaration_result}
use Rattle.idl_root_blocks.specs.Units.{parts_of_unit, text_of}
use Rattle.idl_root_blocks.specs.declared.text.BlockPart.{BlockPart}
use Rattle.idl_root_blocks.specs.declared.text.BlockPart.TheVariants.{Text, Enters, Leaves}
use Rattle.idl_root_blocks.specs.verdicts.Standing.{unit_asks}
use Rattle.idl_root.specs.declared.kept.marks.Mark.{Mark}
use Rattle.idl_root.specs.declared.kept.marks.Mark.TheVariants as mark
use Rattle.idl_unit.specs.Units.{units_of}
use Rattle.idl_unit.specs.declared.unit.Unit.{Unit as RootUnit}

-- what is kept of an entry
abbrev pub EntryResult : Type 0
EntryResult = Kept Key (Option Answer) (List (List ℕ)) Entry

-- the one result of an entry where it stands
abbrev pub entry_result : EntryPlace → EntryResult
entry_result place = result_over key_eq entry place

-- how many of these declarations are fresh against the known ones, and of these entries
abbrev pub fresh_declarations : List DeclarationPlace → List DeclarationPlace → ℕ
fresh_declarations known places =
    fresh_among unit_text_eq (option_eq answer_eq) unit_asks known places

abbrev pub fresh_entries : List EntryPlace → List EntryPlace → ℕ
fresh_entries known places = fresh_among path_eq (option_eq answer_eq) entry known places

-- the results of these declarations come behind others, and those are counted that are fresh
abbrev pub IsDeclarationPass : List DeclarationPlace → List DeclarationResult
    → List DeclarationResult → ℕ → ℕ → Type 0
IsDeclarationPass places old new before after =
    IsPass key_eq unit_text_eq (option_eq answer_eq) unit_asks places old new before after

-- the results of these entries come behind others, and those are counted that are fresh
abbrev pub IsEntryPass : List EntryPlace → List EntryResult → List EntryResult → ℕ → ℕ → Type 0
IsEntryPass places old new before after =
    IsPass key_eq path_eq (option_eq answer_eq) entry places old new before after

-- what a part of a text was, and what those of a text were
abbrev pub part_mark : BlockPart → Mark
part_mark (Text text) = mark.Judged
part_mark (Enters inside) = mark.Entered inside
part_mark (Leaves inside) = mark.Left inside

abbrev pub marks_in : List BlockPart → List Mark
marks_in text = map part_mark text

-- what a unit was, and what units were; the end of a root is not marked
abbrev pub mark_at : RootUnit → List Mark
mark_at unit = marks_in (parts_of_unit unit)

abbrev pub marks_of : List RootUnit → List Mark
marks_of units = marks_in (text_of units)

-- what the units of a root are, and how many keys its tasks asked, as far as memory counts
pub record RootMarks : Type 0 where
  pub marks : List Mark
  pub keys : ℕ

-- those of a root that expands to these events
abbrev pub root_marks : List Event → RootMarks
root_marks events = record {
  marks = marks_of (units_of events);
  keys = compared_after 0 (root_keys events);
}

-- what is kept of a root: the results of its units with tokens, and of its blocks with where the
-- results of their units begin, and those of its names
pub record KeptLists : Type 0 where
  pub declarations : List DeclarationResult
  pub blocks : List BlockResult
  pub begins : List ℕ
  pub entries : List EntryResult

-- nothing
abbrev pub nothing_kept : KeptLists
nothing_kept = record { declarations = []; blocks = []; begins = []; entries = [] }

-- what a root's units were and how many keys it asked, and what is kept of it, are those of this
-- expansion
pub record IsKeptOf (events : List Event) (marks : RootMarks) (lists : KeptLists) : Type 0 where
  pub marks_are : marks ≡ root_marks events
  pub declarations_are : lists.declarations ≡ map declaration_result (declarations_of events)
  pub blocks_are : lists.blocks ≡ map block_result (blocks_of events)
  pub begins_are : lists.begins ≡ begins_of events
  pub entries_are : lists.entries ≡ map entry_result (entries_of events)

-- there is a draft
abbrev pub HasDraft : {X : Type 0} → Stored X → Type 0
HasDraft stored = stored.drafts ≢ []

-- no count differs but those of checked declarations and of compared keys, or of printed entries and
-- of compared keys
abbrev pub ChecksOnly : Meter → Meter → Type 0
ChecksOnly old new = new ≡ record old { checked = new.checked; compared = new.compared }

abbrev pub PrintsOnly : Meter → Meter → Type 0
PrintsOnly old new = new ≡ record old { printed = new.printed; compared = new.compared }

-- nothing was expanded
abbrev pub ExpandsNone : Meter → Meter → Type 0
ExpandsNone old new = new.expanded ≡ old.expanded
