use Rattle.std.proofs.Common.{◌≡◌, ◌∙◌, ◌++◌, ◌∷◌, [], ℕ, List, ap, append-nil, append_assoc, nat_eq, sym}
use Rattle.std.specs.List.{list_any}
use Rattle.idl_changes.specs.Offered.{last_first}
use Rattle.idl_changes.proofs.AncestorLemmas.{keys-next, last_first-none, no-keys}
use Rattle.idl_changes.proofs.offered.last_first.Goals as goal

pub loop-last-init : goal.loop-last-init
loop-last-init c = λ bound below.
    (below, ap (λ (ns : List ℕ). ns ++ last_first (λ n. list_any (nat_eq n) c.args.places.now.keys) bound) c.new-list.ensures.items)

pub loop-last-preserved : goal.loop-last-preserved
loop-last-preserved c = λ bound below.
    let last = c.in-Some.last in
    let popped = c.pop_last.new.self.keys in
    let list = c.loop-last.list.items in
    let so_far = c.loop-last.invariant bound below in
    let next = keys-next bound last c.loop-last.places.keys popped c.in-Some.ensures.removal c.in-Some.ensures.all_below so_far.0 in (
      next.0,
      ap (λ (ns : List ℕ). ns ++ last_first (λ n. list_any (nat_eq n) popped) bound) c.in_ok-push.ensures.items
          ∙ append_assoc list (last ∷ []) (last_first (λ n. list_any (nat_eq n) popped) bound)
          ∙ ap (λ (ns : List ℕ). list ++ ns) (sym next.1)
          ∙ so_far.1,
    )

pub returns : goal.returns
returns c = λ bound below.
    let list = c.loop-last.list.items in
    let none : c.loop-last.places.keys ≡ [] = no-keys c.loop-last.places.keys c.in_default.ensures.variant in
    c.from_vec.ensures ∙ sym (append-nil list)
    ∙ ap (λ (ns : List ℕ). list ++ ns) (sym (ap (λ (ks : List ℕ). last_first (λ n. list_any (nat_eq n) ks) bound) none ∙ last_first-none bound))
    ∙ (c.loop-last.invariant bound below).1
