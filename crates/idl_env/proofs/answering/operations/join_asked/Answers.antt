use Rattle.std.proofs.Common.{◌∷◌, ◌+◌, ◌||◌, [], ap, drop, sym, ◌∙◌}
use Rattle.std.specs.List.{list_any}
use Rattle.std.specs.Map.{keys_of}
use Rattle.idl_entity.specs.Path.{path_eq}
use Rattle.idl_env.proofs.AnswerLaws.PlaceLemmas.{from_here}
use Rattle.idl_env.proofs.AnswerLaws.QueueLemmas.{asked_differs, contains-list_any, list_any-joined, or_one}
use Rattle.idl_env.proofs.answering.operations.join_asked.Goals as goal
use Rattle.idl_env.proofs.answering.operations.join_asked.Goals.{then-contains+in_ok-join_one, else-contains}

pub loop-path-preserved : goal.loop-path-preserved
loop-path-preserved c = λ p asked.
    let paths = c.args.paths.now in
    let at = c.loop-path.path-index in
    let x = c.path-item.result in
    let old = keys_of c.loop-path.there in
    let rest = list_any (path_eq p) (drop (at + 1) paths) in
    let here = ap (λ l. list_any (path_eq p) old || list_any (path_eq p) l) (from_here paths at x c.loop-path-test.true c.path-item.is) in
    elim c.if-contains.branch [
      | then-contains+in_ok-join_one w ↦
          ap (λ q. list_any (path_eq p) (keys_of q) || rest) w.there-is
          ∙ ap (λ l. list_any (path_eq p) l || rest) w.in_ok-join_one.ensures
          ∙ ap (λ b. b || rest) (list_any-joined p old (x ∷ []))
          ∙ or_one (list_any (path_eq p) old) (path_eq p x) rest
          ∙ sym here
          ∙ c.loop-path.invariant p asked
      | else-contains w ↦
          let unasked = sym (contains-list_any c.args.asked.now x) ∙ sym c.contains.ensures ∙ w.if-contains.false in
          ap (λ q. list_any (path_eq p) (keys_of q) || rest) w.there-is
          ∙ ap (λ b. list_any (path_eq p) old || (b || rest)) (sym (asked_differs (keys_of c.args.asked.now) p x asked unasked))
          ∙ sym here
          ∙ c.loop-path.invariant p asked
    ]
