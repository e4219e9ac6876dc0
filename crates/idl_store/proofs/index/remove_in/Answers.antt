-- The item of the number goes, and no other has it; where there is none, none had it.
use Rattle.std.proofs.Common.{◌≡◌, ◌≢◌, ◌∙◌, Some, None, ap, subst, sym}
use Rattle.std.specs.Prelude.{All, nat_eq, position}
use Rattle.std.proofs.lemmas.Cmp.{on_total, tied_itself}
use Rattle.std.proofs.lemmas.List.Elements.{All-contains}
use Rattle.idl_store.specs.Buckets.{AddsOne}
use Rattle.idl_store.specs.Index.{AreInOrder, numbered_cmp}
use Rattle.idl_store.proofs.Indexing.{first-goes, none-first}
use Rattle.idl_store.proofs.index.remove_in.Goals as goal

pub returns-in-Some-clause-one : goal.returns-in-Some-clause-one
returns-in-Some-clause-one g c = λ item is among.
    let R = g.R.Ranked.rank in
    let cmp = numbered_cmp g.R.Ranked.rank in
    let total = g.met.R.Ranked.ranked in
    let items = c.args.bucket.now.items in
    let place = c.in-Some.place in
    let at : position (λ one. nat_eq one.number c.args.number) items ≡ Some place = ap (position (λ one. nat_eq one.number c.args.number)) (sym c.deref.ensures.value) ∙ sym c.in-Some.ensures in
    let goes = first-goes cmp (on_total (λ one. one.result) total) (λ one. one.number) c.args.number items place at c.requires.order (λ one other o p q r. ap (R one.result) (sym (c.requires.alone one other o p q r)) ∙ tied_itself total one.result) in
    subst (λ xs. AddsOne xs items item) (sym c.remove.ensures.items) (goes.2 item is among)

pub returns-in-Some-clause-gone : goal.returns-in-Some-clause-gone
returns-in-Some-clause-gone g c =
    let R = g.R.Ranked.rank in
    let cmp = numbered_cmp g.R.Ranked.rank in
    let total = g.met.R.Ranked.ranked in
    let items = c.args.bucket.now.items in
    let place = c.in-Some.place in
    let at : position (λ one. nat_eq one.number c.args.number) items ≡ Some place = ap (position (λ one. nat_eq one.number c.args.number)) (sym c.deref.ensures.value) ∙ sym c.in-Some.ensures in
    let goes = first-goes cmp (on_total (λ one. one.result) total) (λ one. one.number) c.args.number items place at c.requires.order (λ one other o p q r. ap (R one.result) (sym (c.requires.alone one other o p q r)) ∙ tied_itself total one.result) in
    subst (All (λ one. one.number ≢ c.args.number)) (sym c.remove.ensures.items) goes.1

pub returns-in-Some-clause-order : goal.returns-in-Some-clause-order
returns-in-Some-clause-order g c =
    let R = g.R.Ranked.rank in
    let cmp = numbered_cmp g.R.Ranked.rank in
    let total = g.met.R.Ranked.ranked in
    let items = c.args.bucket.now.items in
    let place = c.in-Some.place in
    let at : position (λ one. nat_eq one.number c.args.number) items ≡ Some place = ap (position (λ one. nat_eq one.number c.args.number)) (sym c.deref.ensures.value) ∙ sym c.in-Some.ensures in
    let goes = first-goes cmp (on_total (λ one. one.result) total) (λ one. one.number) c.args.number items place at c.requires.order (λ one other o p q r. ap (R one.result) (sym (c.requires.alone one other o p q r)) ∙ tied_itself total one.result) in
    subst (AreInOrder cmp) (sym c.remove.ensures.items) goes.0

pub returns-in_default-clause-one : goal.returns-in_default-clause-one
returns-in_default-clause-one g c = λ item is among.
    let items = c.args.bucket.now.items in
    let at : position (λ one. nat_eq one.number c.args.number) items ≡ None = ap (position (λ one. nat_eq one.number c.args.number)) (sym c.deref.ensures.value) ∙ sym c.in_default.ensures in
    absurd (All-contains (λ one. one.number ≢ c.args.number) items item (none-first (λ one. one.number) c.args.number items at) among is)

pub returns-in_default-clause-gone : goal.returns-in_default-clause-gone
returns-in_default-clause-gone g c =
    let items = c.args.bucket.now.items in
    let at : position (λ one. nat_eq one.number c.args.number) items ≡ None = ap (position (λ one. nat_eq one.number c.args.number)) (sym c.deref.ensures.value) ∙ sym c.in_default.ensures in
    none-first (λ one. one.number) c.args.number items at
