use Rattle.std.proofs.Common.{◌≡◌, ◌∙◌, ◌++◌, ◌&&◌, [], ℕ, Bool, List, OnOk, ap, ap₂, codes, false, if◌then◌else◌, subst, sym}
use Rattle.std.specs.Bool.{beq}
use Rattle.idl_changes.specs.Differences.{changed, direction_differences}
use Rattle.idl_changes.specs.declared.change.Difference.{Difference}
use Rattle.idl_changes.specs.declared.rows.Line.TheVariants as line
use Rattle.idl_repo.specs.Row.{direction_word}
use Rattle.idl_changes.proofs.lists.compare_directions.Goals as goal

pub returns : goal.returns
returns c =
    let p = c.args.old.now in
    let q = c.args.new.now in
    let part = codes "direction of parameter " ++ p.member.name in
    let other : (beq p.goes_in q.goes_in && beq p.comes_out q.comes_out) ≡ false = sym c.is_same_direction.ensures ∙ c.if-is_same_direction.false in
    let told : changed line.Direction c.deref.result.now c.direction_word-was.result.now c.direction_word-is.result.now ≡ direction_differences p q =
    ap (λ (t : List ℕ). changed line.Direction t c.direction_word-was.result.now c.direction_word-is.result.now) (c.deref.ensures.value ∙ c.in_ok-part.ensures ∙ ap (λ (name : List ℕ). codes "direction of parameter " ++ name) c.as_bytes-name.ensures)
    ∙ ap₂ (λ (was is : List ℕ). changed line.Direction part was is) c.direction_word-was.ensures c.direction_word-is.ensures
    ∙ sym (ap (λ (b : Bool). if b then [] else changed line.Direction part (direction_word p.goes_in p.comes_out) (direction_word q.goes_in q.comes_out)) other)
    in
    subst (λ (ds : List Difference). OnOk c.push_changed.result (c.push_changed.new.out.items ≡ c.args.out.now.items ++ ds)) told c.push_changed.ensures
