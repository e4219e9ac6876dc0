-- The keys are looked at one after another.
use Rattle.std.proofs.Common.{◌≡◌, ◌≤◌, false, arith, length, subst, sym, ◌∙◌}
use Rattle.std.proofs.lemmas.List.{take_all}
use Rattle.idl_memo.specs.Query.{is_logged}
use Rattle.idl_memo.proofs.Holding.{any-at, any-none_more}
use Rattle.idl_memo.proofs.kept_log.Digested.contains.Goals as goal

pub loop-place-preserved : goal.loop-place-preserved
loop-place-preserved g c =
    any-none_more (λ e. g.B.Key.PartialEq.eq c.args.key.now e.0) c.args.self.now c.loop-place.place (omega (arith, c.loop-place-test.true, c.len-place-end.ensures)) c.loop-place.invariant (sym c.is_at.ensures ∙ c.if-is_at.false)

pub returns-then-is_at : goal.returns-then-is_at
returns-then-is_at g c =
    sym (any-at (λ e. g.B.Key.PartialEq.eq c.args.key.now e.0) c.args.self.now c.loop-place.place (omega (arith, c.loop-place-test.true, c.len-place-end.ensures)) (sym c.is_at.ensures ∙ c.if-is_at.true))

pub returns : goal.returns
returns g c =
    let past : length c.args.self.now ≤ c.loop-place.place = omega (arith, c.loop-place-test.false, c.len-place-end.ensures) in
    sym (subst (λ log. is_logged g.B.Key.PartialEq.eq log c.args.key.now ≡ false) (take_all c.loop-place.place c.args.self.now past) c.loop-place.invariant)
