use Rattle.std.proofs.Common.{◌≡◌, ◌∙◌, ◌<◌, ◌≤◌, ◌++◌, ◌∷◌, [], ℕ, List, Option, ap, arith, length, sym}
use Rattle.idl_changes.specs.Partners.{joined, partner}
use Rattle.idl_changes.proofs.TableLemmas.{all-places, each-next, get-within, length-from}
use Rattle.idl_repo.specs.declared.details.row_tree.RowTree.{RowTree}
use Rattle.idl_changes.proofs.sides.all_partners.Goals as goal

pub loop-place-preserved : goal.loop-place-preserved
loop-place-preserved c =
    let old = c.args.old.now in
    let new = c.args.new.now in
    let i = c.loop-place.place in
    let count : length c.args.known.now ≡ length old = ap length c.requires ∙ length-from (λ (k : ℕ) (e : RowTree). joined old new k) 0 old in
    let within : i < length old = omega (arith, count, c.loop-place-test.true) in
    let at = get-within old i within in
    c.in_ok-push.ensures.items
    ∙ ap (λ (o : Option ℕ). c.loop-place.all.items ++ o ∷ []) c.in_ok-partner_at.ensures
    ∙ ap (λ (os : List (Option ℕ)). os ++ partner old new i ∷ []) c.loop-place.invariant
    ∙ sym (each-next (λ (k : ℕ) (e : RowTree). partner old new k) old i at.0 at.1)

pub returns : goal.returns
returns c =
    let old = c.args.old.now in
    let new = c.args.new.now in
    let i = c.loop-place.place in
    let count : length c.args.known.now ≡ length old = ap length c.requires ∙ length-from (λ (k : ℕ) (e : RowTree). joined old new k) 0 old in
    let past : length old ≤ i = omega (arith, count, c.loop-place-test.false) in
    c.loop-place.invariant ∙ all-places (λ (k : ℕ) (e : RowTree). partner old new k) old i past
