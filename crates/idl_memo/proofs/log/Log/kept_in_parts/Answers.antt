-- The parts have the entries of the log.
use Rattle.std.proofs.Common.{◌≡◌, List, Option, length, subst, sym, ap, ◌∙◌, inr, Result, Ok, Err}
use Rattle.std.specs.Prelude.{IfOk, OnErr, OnOk}
use Rattle.idl_memo.proofs.log.Log.kept_in_parts.Goals as goal

on_ok : {X E P : Type 0} (r : Result X E) → P → OnOk r P
on_ok (Ok x) h = h
on_ok (Err e) h = tt

on_err : {X E P : Type 0} (r : Result X E) → P → OnErr r P
on_err (Ok x) h = tt
on_err (Err e) h = h

pub parted-requires : goal.parted-requires
parted-requires g c = c.len-len.ensures ∙ ap length (sym c.in_ok-parts.ensures.parts)

pub returns : goal.returns
returns g c =
    record {
      kept = subst (λ (log : List (g.row.B-Key.Denot × Option g.row.B-Answer.Denot)). IfOk c.parted.result (λ kept. kept ≡ log)) c.in_ok-parts.ensures.parts c.parted.ensures;
      emptied = on_ok c.parted.result c.clear.ensures;
      err = on_err c.parted.result (inr c.clear.ensures);
    }
