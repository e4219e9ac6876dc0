use Rattle.std.specs.Prelude.{◌+◌}
use Rattle.std.proofs.Common.{◌∙◌, sym}
use Rattle.std.proofs.lemmas.Bool.{false≢true}
use Rattle.std.proofs.lemmas.Result.{on_ok_weaker}
use Rattle.idl_check.proofs.Visits.VisitLemmas.{cut-global, cut-head, cut-whole}
use Rattle.idl_check.specs.walk.Held.{held}
use Rattle.idl_env.specs.Facts.{answers}
use Rattle.idl_check.proofs.walk.walker.Walker.cut_name.Goals as goal

pub returns-then-name-clause-run : goal.returns-then-name-clause-run
returns-then-name-clause-run c = λ turns more.
    let w = held c.args.self.now in
    (λ i. (record w { at = c.last_at.ensures i + 1 }, c.args.log.now))
    ∙ sym (cut-global (answers c.args.self.now.env.now) turns c.args.way c.args.name.now w c.args.log.now c.if-name.true)

pub returns-then-is_empty-clause-run : goal.returns-then-is_empty-clause-run
returns-then-is_empty-clause-run c =
    on_ok_weaker c.use_any.result
    (λ run turns more. run turns more
    ∙ sym (cut-whole (answers c.args.self.now.env.now) turns c.args.way c.args.name.now (held c.args.self.now) c.args.log.now c.if-name.false (c.is_empty.ensures.0 c.if-is_empty.true)))
    c.use_any.ensures.run

pub returns-clause-run : goal.returns-clause-run
returns-clause-run c =
    on_ok_weaker c.use_head.result
    (λ run turns more. run turns more
    ∙ sym (cut-head (answers c.args.self.now.env.now) turns c.args.way c.args.name.now (held c.args.self.now) c.args.log.now c.if-name.false
    (λ none. absurd (false≢true (sym c.if-is_empty.false ∙ c.is_empty.ensures.1 none)))))
    c.use_head.ensures.run
