use Rattle.std.proofs.Common.{◌≡◌, ◌∙◌, ◌++◌, ◌||◌, [], ℕ, Bool, List, Option, Some, ap, false, filter, filter_map, nat_eq, not, refl, sym, take}
use Rattle.std.specs.List.{list_any, slice_get}
use Rattle.std.specs.Option.{option_copied, option_map_or, option_to_list}
use Rattle.std.proofs.lemmas.List.{take_all}
use Rattle.idl_changes.specs.Listing.{bases_of, interface_at}
use Rattle.idl_changes.proofs.AncestorLemmas.{ahead-next, bases-next, count-next, interface-within, none-new, none-there}
use Rattle.idl_changes.proofs.SetLemmas.{or-false}
use Rattle.idl_repo.specs.declared.details.reference.Reference.{Reference}
use Rattle.idl_repo.specs.declared.details.row_tree.RowTree.{RowTree}
use Rattle.idl_changes.proofs.offered.add_bases.Goals as goal

pub loop-base-init : goal.loop-base-init
loop-base-init c = record {
  found = λ n. sym (or-false (list_any (nat_eq n) c.args.found.now.keys));
  ahead = λ n. none-new (list_any (nat_eq n) c.args.ahead.now.items) (list_any (nat_eq n) c.args.found.now.keys);
  count = refl;
}

pub loop-base-preserved : goal.loop-base-preserved
loop-base-preserved c =
    let L = c.args.listing.now in
    let items = c.bases_of-base-items.result.now in
    let at = c.loop-base.base-index in
    let base = c.base-item.result in
    let first = c.args.found.now.keys in
    let start = c.args.ahead.now.items in
    let old = c.loop-base.found.keys in
    let ahead = c.loop-base.ahead.items in
    let new = c.add_new.new.found.keys in
    let later = c.add_new.new.ahead.items in
    let place = interface_at L base.path in
    let have = λ (n : ℕ). c.in_ok-add_new.ensures.found n ∙ ap (λ (o : Option ℕ). list_any (nat_eq n) old || option_map_or (nat_eq n) o false) c.interface_at.ensures in
    let put = c.in_ok-add_new.ensures.ahead ∙ ap (λ (o : Option ℕ). ahead ++ filter (λ n. not (list_any (nat_eq n) old)) (option_to_list o)) c.interface_at.ensures in
    let so_far = c.loop-base.invariant in
    record {
      found = λ n. bases-next (λ (r : Reference). interface_at L r.path) items at base n (list_any (nat_eq n) first) (list_any (nat_eq n) old) (list_any (nat_eq n) new)
          c.loop-base-test.true c.base-item.is (so_far.found n) (have n);
      ahead = ahead-next place new old later ahead have put first start
          (λ n is. so_far.found n ∙ ap (λ (b : Bool). b || list_any (nat_eq n) (filter_map (λ (r : Reference). interface_at L r.path) (take at items))) is) so_far.ahead;
      count = count-next place new old later ahead have put L (λ k is. interface-within L base.path k is) ∙ so_far.count;
    }

pub returns-in_default-clause-found : goal.returns-in_default-clause-found
returns-in_default-clause-found c = λ n.
    let none = none-there c.args.listing.now c.args.place (sym c.entry.ensures ∙ ap option_copied c.in_default.is) in
    sym (or-false (list_any (nat_eq n) c.args.found.now.keys)) ∙ ap (λ (ks : List ℕ). list_any (nat_eq n) c.args.found.now.keys || list_any (nat_eq n) ks) (sym none)

pub returns-in_default-clause-ahead : goal.returns-in_default-clause-ahead
returns-in_default-clause-ahead c = λ n. none-new (list_any (nat_eq n) c.args.ahead.now.items) (list_any (nat_eq n) c.args.found.now.keys)

pub returns-clause-found : goal.returns-clause-found
returns-clause-found c = λ n.
    let L = c.args.listing.now in
    let items = c.bases_of-base-items.result.now in
    let old = list_any (nat_eq n) c.args.found.now.keys in
    let all : slice_get L c.args.place ≡ Some c.in-Some.entry.now = sym c.entry.ensures ∙ ap option_copied c.in-Some.is in
    c.loop-base.invariant.found n
    ∙ ap (λ (rs : List Reference). old || list_any (nat_eq n) (filter_map (λ (r : Reference). interface_at L r.path) rs))
    (take_all c.loop-base.base-index items c.loop-base-test.false ∙ c.bases_of-base-items.ensures)
    ∙ ap (λ (o : Option RowTree). old || list_any (nat_eq n) (filter_map (λ (r : Reference). interface_at L r.path) (option_map_or (λ (e : RowTree). bases_of e.details) o []))) (sym all)
