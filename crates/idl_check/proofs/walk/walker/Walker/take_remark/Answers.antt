use Rattle.std.proofs.Common.{ℕ, List, ◌+◌, ◌∷◌, ◌++◌, [], map, ◌∙◌}
use Rattle.std.specs.Prelude.{fold, option_to_list}
use Rattle.idl_check.specs.walk.Held.{held}
use Rattle.idl_tree.specs.NameParts.{last_at}
use Rattle.idl_check.specs.walk.Walk.{Walk, noted}
use Rattle.idl_check.specs.declared.walk.walker.Walker.{Walker}
use Rattle.idl_env.specs.Facts.{with_addition}
use Rattle.idl_env.specs.declared.additions.addition.Addition.{Addition}
use Rattle.idl_unit.specs.TokenRules.{fault_at}
use Rattle.idl_check.proofs.walk.walker.Walker.take_remark.Goals as goal

pub returns-clause-visit : goal.returns-clause-visit
returns-clause-visit c =
    let old = c.args.self.now in
    let name = c.args.name.now in
    let path = c.args.path.now in
    let code = c.args.remark.code in
    let adds = option_to_list c.args.remark.adds in
    let before = c.note.new.self in
    let last = last_at old.at name in
    let after : Walker → ℕ → List Addition → List (List (List ℕ)) → Walk = λ w at own found. record (held w) { at = at + 1; own = own; found = found } in
    (λ i. after before c.last_at-last.result (c.in_ok-add_any.ensures i).additions (c.in_ok-push.ensures.items i))
    ∙ (λ i. after before (c.last_at-last.ensures i) (fold with_addition before.own.additions adds) (before.found ++ c.in_ok-clone.ensures.cases i ∷ []))
    ∙ (λ i. after (c.note.ensures i) last (fold with_addition (c.note.ensures i).own.additions adds) ((c.note.ensures i).found ++ path ∷ []))
    ∙ (λ i. record (after old last (fold with_addition old.own.additions adds) (old.found ++ path ∷ [])) {
      fault = noted old.fault (map (fault_at (c.last_at-last.ensures i)) (option_to_list code));
    })
