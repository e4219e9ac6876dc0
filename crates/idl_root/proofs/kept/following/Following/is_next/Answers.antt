use Rattle.std.proofs.Common.{◌+◌, drop, rules}
use Rattle.idl_root.proofs.ResultLemmas.{first-next}
use Rattle.idl_root.proofs.StoredLemmas.{item-drop}
use Rattle.idl_store.specs.Stored.{list_at}
use Rattle.idl_root.proofs.kept.following.Following.is_next.Goals as goal

pub returns : goal.returns
returns c = λ yes k found.
    let lists = c.args.kept.now.lists in
    let course = c.args.self.now.course in
    let begins = c.begins_with.ensures (search rules) in
    first-next lists k course (record {
      marks = begins.0;
      results = drop (course.place + 1) (list_at lists course.list);
      marks_are = begins.1;
      results_are = item-drop lists course.list course.place k (search rules);
    })
