use Rattle.std.proofs.Common.{◌≡◌, ◌∙◌, ◌++◌, List, ap, ℕ}
use Rattle.std.proofs.lemmas.Result.{IfOk-weaker}
use Rattle.std.specs.Prelude.{Option}
use Rattle.idl_repo.specs.Pieces.{told_id}
use Rattle.idl_repo.specs.details.Tree.{id_over}
use Rattle.idl_env.specs.Facts.{answers}
use Rattle.idl_env.specs.declared.answering.answer.Answer.{Answer}
use Rattle.idl_env.specs.declared.keys.key.Key.{Key}
use Rattle.idl_repo.proofs.details.types.id_at.Goals as goal

pub returns : goal.returns
returns c =
    let told = ap (λ (r : List ℕ × List (Key × Option Answer)). r.0) c.in_ok-id.ensures in
    let written = c.in_ok-write.ensures ∙ ap (λ text. text ++ told_id c.in_ok-id.id) c.new-text.ensures.items in
    IfOk-weaker c.from_slice.result (λ (copy : List ℕ). copy ≡ c.as_slice.result.now) (λ (copy : List ℕ). copy ≡ id_over (answers c.args.env.now) c.args.path.now)
    (λ copy is. is ∙ c.as_slice.ensures.value ∙ written ∙ told) c.from_slice.ensures
