use Rattle.std.proofs.Common.{◌≡◌, sym, ap, ◌∙◌, List, ℕ, drop, subst, arith}
use Rattle.std.specs.Prelude.{IfOk}
use Rattle.idl_env.specs.Facts.{gathered, inherited}
use Rattle.idl_env.proofs.AnswerLaws.PlaceLemmas.{behind_first, from_here}
use Rattle.idl_env.proofs.AnswerLaws.StateLemmas.{kept}
use Rattle.idl_env.proofs.answering.operations.inherited.Goals as goal

pub returns-in_ok-found-in-len1-up : goal.returns-in_ok-found-in-len1-up
returns-in_ok-found-in-len1-up c =
    let entries = c.args.answers.now in
    let bases = c.args.bases.now in
    let found = c.in_ok-found-in-len1-up.found in
    let here = from_here bases 0 c.base-item-2.result (omega arith) c.base-item-2.is in
    let same =
    ap (gathered (kept entries) found) (behind_first bases)
    ∙ ap (λ l. gathered (kept entries) l (drop 1 bases)) c.in_ok-found-in-len1-up.ensures
    ∙ sym (ap (inherited (kept entries)) here) in
    subst (λ (l : List (List (List ℕ))). IfOk c.gathered.result (λ paths. paths ≡ l)) same c.gathered.ensures
