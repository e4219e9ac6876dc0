-- The tasks of roots: where they stand, with their declarations, blocks and entries, and what is kept
-- of these.
use Rattle.std.specs.Prelude.{ℕ, Bool, false, List, [], Option, flat_map, map}
use Rattle.std.specs.Cmp.Lexicographic.{pointwise}
use Rattle.std.specs.Option.{option_eq}
use Rattle.std.specs.Str.{bytes_eq}
use Rattle.idl_event.specs.declared.asked.key.RootAnswer.{RootAnswer}
use Rattle.idl_event.specs.declared.asked.key.RootAnswer.TheVariants.{Macro, File, Search}
use Rattle.idl_event.specs.declared.asked.key.RootKey.{RootKey}
use Rattle.idl_sources.specs.idl_root.idl_kept.Texts.{BlockResult, DeclarationResult, Texts}
use Rattle.idl_memo.specs.Fresh.{Place, is_alike}
use Rattle.idl_store.specs.Stored.{Stored}
use Rattle.idl_prep.specs.Root.{expanded, expansion}
use Rattle.idl_sources.specs.idl_root.Places.{EntryPlace, begins_of, blocks_of, declarations_of, entries_of}
use Rattle.idl_sources.specs.idl_root.Results.{EntryResult, KeptLists, entry_result}
use Rattle.idl_sources.specs.idl_root.idl_root_blocks.Places.{BlockPlace, DeclarationPlace, block_result, declaration_result}

-- ---- roots

-- a root where it stands: the text of its task is its name
abbrev pub RootPlace : Type 0
RootPlace = Place RootKey (Option RootAnswer) (List ℕ)

-- whether two answers are one
abbrev pub answer_eq : RootAnswer → RootAnswer → Bool
answer_eq (Macro lines) (Macro other) = pointwise bytes_eq lines other
answer_eq (File lines) (File other) = pointwise bytes_eq lines other
answer_eq (Search list) (Search other) = pointwise bytes_eq list other
answer_eq answer other = false

-- whether a root's task is alike at a place
abbrev pub alike_root : RootPlace → RootPlace → Bool
alike_root here task = is_alike bytes_eq (option_eq answer_eq) expansion here task

-- ---- what stands in them

-- where the declarations of a root stand over these answers, its blocks, and its entries
abbrev pub declarations_at : (RootKey → Option RootAnswer) → List ℕ → List DeclarationPlace
declarations_at bank root = declarations_of (expanded root bank).0

abbrev pub blocks_at : (RootKey → Option RootAnswer) → List ℕ → List BlockPlace
blocks_at bank root = blocks_of (expanded root bank).0

abbrev pub entries_at : (RootKey → Option RootAnswer) → List ℕ → List EntryPlace
entries_at bank root = entries_of (expanded root bank).0

-- where those of all these roots stand, root by root
abbrev pub declarations_among : (RootKey → Option RootAnswer) → List (List ℕ)
    → List DeclarationPlace
declarations_among bank roots = flat_map (λ root. declarations_at bank root) roots

abbrev pub blocks_among : (RootKey → Option RootAnswer) → List (List ℕ) → List BlockPlace
blocks_among bank roots = flat_map (λ root. blocks_at bank root) roots

abbrev pub entries_among : (RootKey → Option RootAnswer) → List (List ℕ) → List EntryPlace
entries_among bank roots = flat_map (λ root. entries_at bank root) roots

-- ---- what is kept of that

-- of a root's declarations, of its blocks, and beside these where the results of the units of each
-- begin, and of its entries
abbrev pub declaration_list : (RootKey → Option RootAnswer) → List ℕ → List DeclarationResult
declaration_list bank root = map declaration_result (declarations_at bank root)

abbrev pub block_list : (RootKey → Option RootAnswer) → List ℕ → List BlockResult
block_list bank root = map block_result (blocks_at bank root)

abbrev pub begin_list : (RootKey → Option RootAnswer) → List ℕ → List ℕ
begin_list bank root = begins_of (expanded root bank).0

abbrev pub entry_list : (RootKey → Option RootAnswer) → List ℕ → List EntryResult
entry_list bank root = map entry_result (entries_at bank root)

-- of all of these
abbrev pub root_lists : (RootKey → Option RootAnswer) → List ℕ → KeptLists
root_lists bank root = record {
  declarations = declaration_list bank root;
  blocks = block_list bank root;
  begins = begin_list bank root;
  entries = entry_list bank root;
}

-- a list for each of these roots, where no edit is under way
abbrev pub lists_for : {R : Type 0} → (List ℕ → List R) → List (List ℕ) → Stored R
lists_for list roots = record { lists = map list roots; drafts = [] }

-- what is kept of units and blocks where no edit is under way, and of names
abbrev pub kept_texts : (RootKey → Option RootAnswer) → List (List ℕ) → Texts
kept_texts bank roots = record {
  declarations = lists_for (declaration_list bank) roots;
  blocks = lists_for (block_list bank) roots;
  begins = lists_for (begin_list bank) roots;
}

abbrev pub kept_entries : (RootKey → Option RootAnswer) → List (List ℕ) → Stored EntryResult
kept_entries bank roots = lists_for (entry_list bank) roots
