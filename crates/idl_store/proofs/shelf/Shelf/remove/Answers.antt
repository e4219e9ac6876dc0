-- The uses of the list that goes are given up.
use Rattle.std.proofs.Common.{◌≡◌, ◌<◌, ◌+◌, ◌∙◌, ℕ, ap, arith, length, subst, sym}
use Rattle.std.specs.List.{remove}
use Rattle.idl_store.specs.Numbers.{AreFewer, IsStored, drafts_of, lists_of, result_of, shown, times}
use Rattle.idl_store.specs.Stored.{Stored, removed, results_in}
use Rattle.idl_store.proofs.Changing.{lists-removed, parts-taken, shown-fewer, stored-fewer}
use Rattle.idl_store.proofs.Shown.{shown-removed}
use Rattle.idl_store.proofs.shelf.Shelf.remove.Goals as goal

pub release-requires-clause-uses : goal.release-requires-clause-uses
release-requires-clause-uses g c = λ n.
    let lists = c.self.inside.lists.items in
    let drafts = drafts_of c.self.inside.drafts.items in
    let below : c.args.list < length lists = omega (arith, c.if-list-len.true, c.len.ensures, c.self.inside.lists.ok.0) in
    omega (arith, c.self.invariant.0.counted n, parts-taken n lists drafts c.args.list c.remove-numbers.result below c.remove-numbers.ensures.value, ap (times n) c.deref.ensures.value)

pub invariant_of-self : goal.invariant_of-self
invariant_of-self g c =
    let lists = c.self.inside.lists.items in
    let drafts = drafts_of c.self.inside.drafts.items in
    let numbers : Stored ℕ = record { lists = lists_of lists; drafts = drafts } in
    let below : c.args.list < length lists = omega (arith, c.if-list-len.true, c.len.ensures, c.self.inside.lists.ok.0) in
    let rest : Stored ℕ = record { lists = remove (lists_of lists) c.args.list; drafts = drafts } in
    let gone = c.remove-numbers.result.items in
    let parts : (n : ℕ) → times n (results_in numbers) ≡ times n (results_in rest) + times n gone = λ n. parts-taken n lists drafts c.args.list c.remove-numbers.result below c.remove-numbers.ensures.value in
    let new = c.release.new.used in
    let fewer = subst (AreFewer c.self.inside.used new) c.deref.ensures.value c.release.ensures.fewer in
    let after = c.release.new.index in
    let left : lists_of c.remove-numbers.new.self.items ≡ remove (lists_of lists) c.args.list = ap lists_of c.remove-numbers.ensures.items ∙ lists-removed lists c.args.list in (
      subst (λ ls. IsStored g.R.Ranked.is_sound g.R.Ranked.bucket new after (record { lists = ls; drafts = drafts })) (sym left) (stored-fewer c.self.invariant.0 new after rest gone parts fewer c.release.ensures.used c.release.ensures.indexed),
      omega (arith, c.self.invariant.1, c.remove-numbers.ensures.len, c.remove-numbers.ensures.capacity),
    )

pub returns-then-list-len : goal.returns-then-list-len
returns-then-list-len g c =
    let lists = c.self.inside.lists.items in
    let drafts = drafts_of c.self.inside.drafts.items in
    let numbers : Stored ℕ = record { lists = lists_of lists; drafts = drafts } in
    let below : c.args.list < length lists = omega (arith, c.if-list-len.true, c.len.ensures, c.self.inside.lists.ok.0) in
    let rest : Stored ℕ = record { lists = remove (lists_of lists) c.args.list; drafts = drafts } in
    let gone = c.remove-numbers.result.items in
    let parts : (n : ℕ) → times n (results_in numbers) ≡ times n (results_in rest) + times n gone = λ n. parts-taken n lists drafts c.args.list c.remove-numbers.result below c.remove-numbers.ensures.value in
    let new = c.release.new.used in
    let fewer = subst (AreFewer c.self.inside.used new) c.deref.ensures.value c.release.ensures.fewer in
    let left : lists_of c.remove-numbers.new.self.items ≡ remove (lists_of lists) c.args.list = ap lists_of c.remove-numbers.ensures.items ∙ lists-removed lists c.args.list in
    ap (λ ls. shown (result_of new) (record { lists = ls; drafts = drafts })) left
    ∙ shown-fewer c.self.invariant.0 new c.release.new.index rest gone parts fewer
    ∙ shown-removed (result_of c.self.inside.used) numbers c.args.list
    ∙ ap (λ s. removed s.stored c.args.list) c.self.view_is
