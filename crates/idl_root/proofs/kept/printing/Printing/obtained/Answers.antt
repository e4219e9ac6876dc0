use Rattle.std.proofs.Common.{ℕ, List, ap, subst}
use Rattle.idl_env.specs.Facts.{answers}
use Rattle.idl_store.specs.Stored.{Stored}
use Rattle.idl_root.specs.Followed.{IsEntryLast}
use Rattle.idl_root.specs.Results.{EntryResult}
use Rattle.idl_root.proofs.kept.printing.Printing.obtained.Goals as goal

pub returns-clause-obtained : goal.returns-clause-obtained
returns-clause-obtained c =
    subst (λ (p : List (List ℕ)). IsEntryLast (p, answers c.args.env.now) c.args.kept.now c.obtain.new.self c.args.self.now.meter c.obtain.new.meter c.in_ok-obtain.field-0.value)
    c.in_ok-clone.ensures.cases (record { result_is = c.in_ok-obtain.ensures.result; new_is = c.in_ok-obtain.ensures.ok; obtained = c.in_ok-obtain.ensures.meter })

pub returns-clause-lists : goal.returns-clause-lists
returns-clause-lists c = ap (λ (s : Stored EntryResult). s.lists) c.in_ok-obtain.ensures.ok
