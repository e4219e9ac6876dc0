use Rattle.std.proofs.Common.{◌+◌, is_some, ap, drop, sym, ◌∙◌}
use Rattle.std.specs.Prelude.{fold}
use Rattle.std.specs.Map.{lookup}
use Rattle.std.specs.Str.{bytes_eq}
use Rattle.idl_map.specs.Table.{insert_entry}
use Rattle.idl_check.specs.tables.Using.{with_operation}
use Rattle.idl_env.proofs.AnswerLaws.PlaceLemmas.{from_here}
use Rattle.idl_check.proofs.BaseLemmas.{unasked-more}
use Rattle.idl_check.proofs.tables.bases.add_asked.Goals as goal
use Rattle.idl_check.proofs.tables.bases.add_asked.Goals.{then-contains+in_ok-clone+in_ok-insert, else-contains}

pub loop-path-preserved : goal.loop-path-preserved
loop-path-preserved c = λ n asked.
    let paths = c.args.paths.now in
    let at = c.loop-path.path-index in
    let x = c.path-item.result in
    let old = c.loop-path.operations in
    let rest = drop (at + 1) paths in
    let here = ap (λ l. lookup (bytes_eq n) (fold with_operation old l)) (from_here paths at x c.loop-path-test.true c.path-item.is) in
    elim c.if-contains.branch [
      | then-contains+in_ok-clone+in_ok-insert w ↦
          ap (λ o. lookup (bytes_eq n) (fold with_operation o rest))
          (w.operations-is ∙ w.in_ok-insert.ensures.entries ∙ (λ i. insert_entry bytes_eq old (c.in_ok-name.ensures i) (w.in_ok-clone.ensures.cases i)))
          ∙ sym here
          ∙ c.loop-path.invariant n asked
      | else-contains w ↦
          let unasked = ap (λ m. is_some (lookup (bytes_eq m) c.args.asked.now)) (sym c.in_ok-name.ensures) ∙ sym c.contains.ensures ∙ w.if-contains.false in
          ap (λ o. lookup (bytes_eq n) (fold with_operation o rest)) w.operations-is
          ∙ unasked-more n c.args.asked.now old x rest asked unasked
          ∙ sym here
          ∙ c.loop-path.invariant n asked
    ]
