use Rattle.std.proofs.Common.{◌≡◌, ◌+◌, ◌≤◌, ◌++◌, length}
use Rattle.std.specs.List.{IsDistinct}
use Rattle.std.specs.Map.{keys_of}
use Rattle.std.specs.Str.{bytes_eq}
use Rattle.idl_memo.specs.Meter.{compared_after, most_compared}
use Rattle.idl_sources.specs.idl_root.AsBefore.{AreListsLeft}
use Rattle.idl_sources.specs.idl_root.Results.{entry_result, fresh_declarations, fresh_entries}
use Rattle.idl_sources.specs.idl_root.idl_root_blocks.Places.{block_result, declaration_result}
use Rattle.idl_inputs.specs.Bank.{bank_of}
use Rattle.idl_project.specs.Compared.{compared_in, met_among, met_between, tasks_of, with_tasks}
use Rattle.idl_project.specs.Tasks.{begin_list, blocks_at, declarations_at, entries_at}
use Rattle.idl_project.specs.UpToDate.{AreKept}
use Rattle.idl_project.specs.Work.{touched_between}
use Rattle.idl_project.proofs.KeptLemmas.{stale_roots}
use Rattle.idl_project.proofs.StoreLemmas.{IsPlacing, IsUnderWay, uncounted}
use Rattle.idl_project.proofs.root_table.RootTable.all_renewed.Given as goal

-- what was counted and what is still to be counted are all
abbrev pub invariant-loop-root : goal.invariant-loop-root
invariant-loop-root g l =
    let before = bank_of l.fn.change.base.now in
    let after = g.B.Bank.at l.fn.change.bank.now in
    let names = keys_of l.fn.self in
    record {
      roots : keys_of l.table ++ keys_of l.root-iterator ≡ keys_of l.fn.self;
      distinct : IsDistinct bytes_eq (keys_of l.table ++ keys_of l.root-iterator);
      kept : AreKept after l.table;
      kept_left : AreKept before l.root-iterator;
      expanded : l.meter.expanded + stale_roots before after (keys_of l.root-iterator) ≡ stale_roots before after (keys_of l.fn.self);
      compared : compared_after l.meter.compared (compared_in (met_among (with_tasks (tasks_of before names) (tasks_of after (keys_of l.table))) after (keys_of l.root-iterator)))
          ≡ compared_after 0 (compared_in (met_between before names after names));
      touched : l.touched ++ touched_between before names after (keys_of l.root-iterator) ≡ touched_between before names after names;
      fits : l.meter.compared ≤ most_compared;
      room : l.meter.expanded + length l.root-iterator ≤ length l.fn.self;
      lists : AreListsLeft l.fn.keeper l.keeper;
      declarations : IsUnderWay declaration_result (declarations_at before) (declarations_at after) fresh_declarations (keys_of l.table) (keys_of l.root-iterator) l.keeper.texts.declarations l.meter.checked;
      blocks : IsUnderWay block_result (blocks_at before) (blocks_at after) uncounted (keys_of l.table) (keys_of l.root-iterator) l.keeper.texts.blocks 0;
      begins : IsPlacing (begin_list before) (begin_list after) (keys_of l.table) (keys_of l.root-iterator) l.keeper.texts.begins;
      entries : IsUnderWay entry_result (entries_at before) (entries_at after) fresh_entries (keys_of l.table) (keys_of l.root-iterator) l.keeper.entries l.meter.printed;
    }
