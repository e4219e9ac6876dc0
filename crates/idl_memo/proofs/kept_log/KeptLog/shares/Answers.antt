-- Part by part: what is left tells.
use Rattle.std.proofs.Common.{Option, subst, sym, arith}
use Rattle.std.specs.Prelude.{All}
use Rattle.std.proofs.lemmas.Grind.{common_steps}
use Rattle.std.proofs.lemmas.List.Elements.{All-append}
use Rattle.idl_memo.specs.Parts.{lent_entries}
use Rattle.idl_memo.proofs.kept_log.KeptLog.shares.Goals as goal

pub parts-init : goal.parts-init
parts-init g c = grind (arith, common_steps)

pub returns-then-shares_in : goal.returns-then-shares_in
returns-then-shares_in g c = grind (arith, common_steps)

pub parts-preserved : goal.parts-preserved
parts-preserved g c =
    let P : g.row.B-Key.Denot × Option g.row.B-Answer.Denot → Type 0 = λ e. g.D.Digests.has c.args.digests.now (g.B.Key.Digest.digest_of e.0) → ⊥ in
    λ all. c.parts.invariant (subst (All P) (sym c.in-Some.ensures.first) (All-append P (lent_entries c.in-Some.part) c.next.new.self.entries (c.shares_in.ensures c.if-shares_in.false) all))

pub returns : goal.returns
returns g c = grind (arith, common_steps)
