use Rattle.std.proofs.Common.{◌∷◌, ◌∙◌, [], ap, subst, sym}
use Rattle.std.specs.declared.rc.Rc.{Rc}
use Rattle.std.specs.Global.{Global}
use Rattle.idl_env.specs.Facts.{answers}
use Rattle.idl_memo.specs.Kept.{IsAlike}
use Rattle.idl_store.specs.Stored.{grown, result_at}
use Rattle.idl_repo.specs.Entry.{entry}
use Rattle.idl_root.specs.Results.{EntryResult}
use Rattle.idl_root.proofs.AgainLemmas.{beside-rest, own-alike}
use Rattle.idl_root.proofs.StoredLemmas.{grown-none, some-alike}
use Rattle.idl_root.proofs.TakenLemmas.{found-weaker, none-taken, some-taken}
use Rattle.idl_root.proofs.kept.reprinting.Reprinting.take_again.Goals as goal

pub returns-in-Some-clause-none : goal.returns-in-Some-clause-none
returns-in-Some-clause-none c =
    none-taken (λ (r : Rc EntryResult Global). r.value) (grown c.args.kept.now) c.take_again.new.self c.args.kept.now (grown-none c.args.kept.now) c.take_again.result
    (result_at c.args.kept.now c.in-Some.list c.in-Some.place) c.take_again.ensures.found c.take_again.ensures.ok

pub returns-in-Some-clause-again : goal.returns-in-Some-clause-again
returns-in-Some-clause-again c =
    let old = c.args.kept.now in
    let new = c.take_again.new.self in
    let one = c.in-Some.ensures.printed in
    found-weaker c.take_again.result _ _
    (λ r is facts b.
    let path = c.args.path.now in
    let here = one.again facts b in
    let alike : IsAlike path (answers facts) one.result =
    subst (λ (k : EntryResult). IsAlike path (answers facts) k) (sym here) (own-alike entry path facts) in
    record {
      result_is = is.0 ∙ here;
      new_is = is.1 ∙ ap (λ (k : EntryResult). grown old (k ∷ [])) here;
      alike = some-alike old c.in-Some.list c.in-Some.place one.result (path, answers facts) one.found alike;
    })
    (some-taken (λ (r : Rc EntryResult Global). r.value) (grown old) new c.take_again.result
    (result_at old c.in-Some.list c.in-Some.place) one.result one.found c.take_again.ensures.found c.take_again.ensures.ok)

pub returns-in-Some-clause-rest : goal.returns-in-Some-clause-rest
returns-in-Some-clause-rest c = λ lists facts b. beside-rest lists c.args.self.now c.place_of.new.self facts c.place_of.ensures.list c.place_of.ensures.changed b

pub returns-in-None-clause-rest : goal.returns-in-None-clause-rest
returns-in-None-clause-rest c = λ lists facts b. beside-rest lists c.args.self.now c.place_of.new.self facts c.place_of.ensures.list c.place_of.ensures.changed b
