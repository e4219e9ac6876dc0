use Rattle.std.proofs.Common.{◌≡◌, ◌<◌, length, get_or, ap, sym, ◌∙◌, rules}
use Rattle.std.proofs.lemmas.Cmp.{ranked}
use Rattle.std.proofs.lemmas.List.Sorted.{answers_always}
use Rattle.std.specs.List.{HoldsAt}
use Rattle.std.specs.Ordering.{nat_cmp}
use Rattle.std.specs.declared.cmp.Ordering.TheVariants.{Equal}
use Rattle.idl_text.specs.declared.groups.branch.BranchSpan.{BranchSpan}
use Rattle.idl_text.proofs.groups.table.BranchTable.branch_from.Goals as goal

pub returns-in-Ok : goal.returns-in-Ok
returns-in-Ok c =
    let spans = c.args.self.now.spans.items in
    let place = c.in-Ok.place in
    let span = c.index.result.now in
    let found : HoldsAt (λ (s : BranchSpan). nat_cmp s.from c.args.from ≡ Equal) spans place =
    rw c.deref.ensures.value at (c.in-Ok.ensures.position (λ (s : BranchSpan). s.from) (answers_always _ _ _ (λ f a r g called. search rules))) in
    let within : place < length spans = rw c.deref.ensures.value at c.in-Ok.ensures.bound in
    let first : (get_or spans place span).from ≡ c.args.from = ranked (get_or spans place span).from c.args.from Equal (sym (found span)) in
    ((place, within, sym c.index.ensures), ap (λ (s : BranchSpan). s.from) c.index.ensures ∙ first)
