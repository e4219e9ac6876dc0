-- What is found is the result there, and where nothing is, none is alike, and the gap is that of the result there.
use Rattle.std.proofs.Common.{◌∙◌, ◌∷◌, [], ap, sym}
use Rattle.idl_memo.specs.Kept.{result_over}
use Rattle.idl_store.specs.Buckets.{bucket_at}
use Rattle.idl_store.specs.Stored.{grown, results_in}
use Rattle.idl_store.proofs.Exactness.{exact_task}
use Rattle.idl_store.proofs.Hinting.{bucket-result}
use Rattle.idl_store.proofs.Looking.{found-among, found-here, found-weaker, missed-all, none-among, place-sought}
use Rattle.idl_store.proofs.look_up.take_alike.Goals as goal

pub returns-clause-found : goal.returns-clause-found
returns-clause-found g c =
    let exact = exact_task g.T.Text.Ord.cmp g.T.Text.PartialEq.eq g.B.Answer.Ord.cmp g.B.Answer.PartialEq.eq g.B.Key.PartialEq.eq g.met.T.Text.Ord.total g.met.T.Text.Ord.matches_eq g.met.T.Text.Datum.same g.met.B.Answer.Ord.total g.met.B.Answer.Ord.matches_eq g.met.B.Answer.Datum.same g.met.B.Key.Eq.laws.refl g.met.B.Key.Datum.same in
    let query = g.T.Task.query in
    let text = g.T.Task.text_of c.args.task.now in
    let bank = g.B.Bank.at c.args.bank.now in
    let stored = c.args.shelf.now.stored in
    found-weaker c.take.result c.take.ensures.found (λ one is.
    let here = found-here exact query text bank one is.2 is.1 in
    (here, found-among exact query text bank one is.2 (results_in stored) is.0, is.3 ∙ ap (λ k. grown stored (k ∷ [])) here))

pub returns-clause-missed : goal.returns-clause-missed
returns-clause-missed g c =
    let exact = exact_task g.T.Text.Ord.cmp g.T.Text.PartialEq.eq g.B.Answer.Ord.cmp g.B.Answer.PartialEq.eq g.B.Key.PartialEq.eq g.met.T.Text.Ord.total g.met.T.Text.Ord.matches_eq g.met.T.Text.Datum.same g.met.B.Answer.Ord.total g.met.B.Answer.Ord.matches_eq g.met.B.Answer.Datum.same g.met.B.Key.Eq.laws.refl g.met.B.Key.Datum.same in
    let query = g.T.Task.query in
    let text = g.T.Task.text_of c.args.task.now in
    let bank = g.B.Bank.at c.args.bank.now in
    let input = g.T.Text.Hash.hash_input in
    let hint = g.T.Task.hint_of in
    let at = c.bucket_of-bucket.ensures ∙ (λ i. bucket_at input (c.text.ensures i) (c.hint.ensures i)) in
    let here = result_over g.B.Key.PartialEq.eq query (text, bank) in
    let sought = place-sought exact query text bank in
    missed-all c.take.result (c.take.ensures.none here sought) (c.take.ensures.gap here sought) c.take.ensures.bucket
    (λ gap none is there. (
      none-among exact query text bank input hint c.bucket_of-bucket.result at (results_in c.args.shelf.now.stored) none,
      is,
      there ∙ at ∙ sym (bucket-result g.B.Key.PartialEq.eq exact.key_itself exact.key_is query input hint text bank),
    ))
