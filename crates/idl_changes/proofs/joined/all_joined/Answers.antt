use Rattle.std.proofs.Common.{◌≡◌, ◌∙◌, ◌<◌, ◌≤◌, ◌++◌, ◌∷◌, [], ℕ, List, None, Option, Some, ap, arith, get_or, length, sym}
use Rattle.std.specs.List.{slice_get}
use Rattle.std.specs.Option.{option_map}
use Rattle.std.proofs.lemmas.Option.{same_Some, slice_get-get_or}
use Rattle.idl_changes.specs.Listing.{by_id}
use Rattle.idl_changes.specs.Partners.{joined}
use Rattle.idl_changes.specs.Tables.{each}
use Rattle.idl_changes.proofs.PathLemmas.{joined-by}
use Rattle.idl_changes.proofs.TableLemmas.{all-places, each-next, get-within, length-from, slice_get-each}
use Rattle.idl_repo.specs.declared.details.row_tree.RowTree.{RowTree}
use Rattle.idl_changes.proofs.joined.all_joined.Goals as goal

pub loop-place-preserved : goal.loop-place-preserved
loop-place-preserved c =
    let old = c.args.old.now in
    let new = c.args.new.now in
    let items = c.deref-found-items.result.now in
    let i = c.loop-place.place in
    let all : items ≡ each (by_id old new) old = c.deref-found-items.ensures.value ∙ c.requires.forth in
    let count : length items ≡ length old = ap length all ∙ length-from (by_id old new) 0 old in
    let within : i < length old = omega (arith, count, c.loop-place-test.true) in
    let at = get-within old i within in
    let o = get_or items i None in
    let there : Some o ≡ Some (by_id old new i at.0) =
    sym (slice_get-get_or items i None c.loop-place-test.true) ∙ ap (λ (os : List (Option ℕ)). slice_get os i) all
    ∙ slice_get-each (by_id old new) old i ∙ ap (option_map (by_id old new i)) at.1
    in
    c.in_ok-push.ensures.items
    ∙ ap (λ (p : Option ℕ). c.loop-place.all.items ++ p ∷ []) (c.joined_at.ensures ∙ joined-by old new i at.0 o at.1 (same_Some o (by_id old new i at.0) there))
    ∙ ap (λ (ps : List (Option ℕ)). ps ++ joined old new i ∷ []) c.loop-place.invariant
    ∙ sym (each-next (λ (k : ℕ) (e : RowTree). joined old new k) old i at.0 at.1)

pub returns : goal.returns
returns c =
    let old = c.args.old.now in
    let new = c.args.new.now in
    let all = c.deref-found-items.ensures.value ∙ c.requires.forth in
    let count : length c.deref-found-items.result.now ≡ length old = ap length all ∙ length-from (by_id old new) 0 old in
    let past : length old ≤ c.loop-place.place = omega (arith, count, c.loop-place-test.false) in
    c.loop-place.invariant ∙ all-places (λ (k : ℕ) (e : RowTree). joined old new k) old c.loop-place.place past
