use Rattle.std.proofs.Common.{◌+◌, drop, rules}
use Rattle.idl_store.specs.Stored.{list_at}
use Rattle.idl_root.proofs.StoredLemmas.{item-drop}
use Rattle.idl_root.proofs.kept.course.Course.first.Goals as goal

pub returns-clause-first : goal.returns-clause-first
returns-clause-first c =
    let lists = c.args.kept.now.lists in
    let list = c.args.self.list in
    let place = c.args.self.place in
    let k = c.in_ok-first.first.now in
    let begins = c.begins_with.ensures (search rules) in
    record {
      marks = begins.0;
      results = drop (place + 1) (list_at lists list);
      marks_are = begins.1;
      results_are = item-drop lists list place k (search rules);
    }
