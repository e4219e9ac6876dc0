-- The item goes out of its bucket, and the bucket too where it was the last one.
use Rattle.std.proofs.Common.{◌≡◌, ◌≢◌, ◌∙◌, [], None, Some, ap, arith, subst, sym}
use Rattle.std.specs.Prelude.{All, Contains, is_some}
use Rattle.std.proofs.lemmas.Bool.{eqb-true}
use Rattle.std.proofs.lemmas.List.Elements.{All-nil}
use Rattle.idl_store.specs.Buckets.{AddsOne}
use Rattle.idl_store.specs.Index.{AreInOrder, IsAlone, IsInOrder, bucket_in, buckets_of, numbered_cmp}
use Rattle.idl_store.proofs.Bucketed.{bucket-found, none_left, order-written, takes-written, written, written-then}
use Rattle.idl_store.proofs.index.remove_at.Goals as goal

pub returns-in_default-clause-one : goal.returns-in_default-clause-one
returns-in_default-clause-one g c = λ item is among.
    let none : Contains [] item = subst (λ items. Contains items item) (bucket-found c.args.buckets.now c.args.bucket None (sym c.in_default.ensures.value)) among in
    absurd (omega (arith, none.1))

pub returns-in_default-clause-gone : goal.returns-in_default-clause-gone
returns-in_default-clause-gone g c =
    subst (λ m. All (λ one. one.number ≢ c.args.number) (bucket_in (buckets_of m) c.args.bucket)) (sym c.get_mut.follows.holds-at-none)
    (subst (All (λ one. one.number ≢ c.args.number)) (sym (bucket-found c.args.buckets.now c.args.bucket None (sym c.in_default.ensures.value))) (All-nil (λ one. one.number ≢ c.args.number)))

pub returns-in_default-clause-order : goal.returns-in_default-clause-order
returns-in_default-clause-order g c =
    subst (λ m. IsInOrder g.R.Ranked.rank (buckets_of m)) (sym c.get_mut.follows.holds-at-none) c.requires.order

pub remove_in-requires-clause-order : goal.remove_in-requires-clause-order
remove_in-requires-clause-order g c =
    subst (AreInOrder (numbered_cmp g.R.Ranked.rank)) (bucket-found c.args.buckets.now c.args.bucket (Some c.in-Some.results.now) (sym c.in-Some.ensures.value)) (c.requires.order c.args.bucket)

pub remove_in-requires-clause-alone : goal.remove_in-requires-clause-alone
remove_in-requires-clause-alone g c =
    subst (IsAlone c.args.number) (bucket-found c.args.buckets.now c.args.bucket (Some c.in-Some.results.now) (sym c.in-Some.ensures.value)) c.requires.alone

pub returns-then-is_empty-clause-one : goal.returns-then-is_empty-clause-one
returns-then-is_empty-clause-one g c = λ item is among.
    let m = c.args.buckets.now in
    let d = c.args.bucket in
    let v = c.in-Some.results.now in
    let w = c.remove_in.new.bucket in
    let at = sym c.in-Some.ensures.value in
    let found = bucket-found m d (Some v) at in
    let none = eqb-true w.len 0 (sym c.is_empty.ensures ∙ c.if-is_empty.true) in
    let empty : w.items ≡ [] = none_left w.items (omega (arith, w.ok.0, none)) in
    let mid = c.get_mut.follows.lender w in
    let n = c.remove.new.self in
    let both = written-then (buckets_of m) (buckets_of mid) (buckets_of n) d w.items []
    (written m mid d (Some w) ((c.get_mut.follows.holds w).3 (ap is_some at))) (written mid n d None c.remove.ensures.updates) in
    let goes : AddsOne [] v.items item = subst (λ new. AddsOne new v.items item) empty (c.remove_in.ensures.one item is (subst (λ items. Contains items item) found among)) in
    takes-written (buckets_of m) (buckets_of n) d [] both item (subst (λ old. AddsOne [] old item) (sym found) goes)

pub returns-then-is_empty-clause-gone : goal.returns-then-is_empty-clause-gone
returns-then-is_empty-clause-gone g c =
    subst (All (λ one. one.number ≢ c.args.number)) (sym (bucket-found c.remove.new.self c.args.bucket None c.remove.ensures.updates.1)) (All-nil (λ one. one.number ≢ c.args.number))

pub returns-then-is_empty-clause-order : goal.returns-then-is_empty-clause-order
returns-then-is_empty-clause-order g c =
    let m = c.args.buckets.now in
    let d = c.args.bucket in
    let w = c.remove_in.new.bucket in
    let mid = c.get_mut.follows.lender w in
    let n = c.remove.new.self in
    let both = written-then (buckets_of m) (buckets_of mid) (buckets_of n) d w.items []
    (written m mid d (Some w) ((c.get_mut.follows.holds w).3 (ap is_some (sym c.in-Some.ensures.value)))) (written mid n d None c.remove.ensures.updates) in
    order-written (buckets_of m) (buckets_of n) d [] both g.R.Ranked.rank tt c.requires.order

pub returns-else-is_empty-clause-one : goal.returns-else-is_empty-clause-one
returns-else-is_empty-clause-one g c = λ item is among.
    let m = c.args.buckets.now in
    let d = c.args.bucket in
    let w = c.remove_in.new.bucket in
    let n = c.get_mut.follows.lender w in
    let at = sym c.in-Some.ensures.value in
    let found = bucket-found m d (Some c.in-Some.results.now) at in
    let goes = c.remove_in.ensures.one item is (subst (λ items. Contains items item) found among) in
    takes-written (buckets_of m) (buckets_of n) d w.items (written m n d (Some w) ((c.get_mut.follows.holds w).3 (ap is_some at))) item
    (subst (λ old. AddsOne w.items old item) (sym found) goes)

pub returns-else-is_empty-clause-gone : goal.returns-else-is_empty-clause-gone
returns-else-is_empty-clause-gone g c =
    let m = c.args.buckets.now in
    let w = c.remove_in.new.bucket in
    let n = c.get_mut.follows.lender w in
    let is = written m n c.args.bucket (Some w) ((c.get_mut.follows.holds w).3 (ap is_some (sym c.in-Some.ensures.value))) in
    subst (All (λ one. one.number ≢ c.args.number)) (sym is.0) c.remove_in.ensures.gone

pub returns-else-is_empty-clause-order : goal.returns-else-is_empty-clause-order
returns-else-is_empty-clause-order g c =
    let m = c.args.buckets.now in
    let d = c.args.bucket in
    let w = c.remove_in.new.bucket in
    let n = c.get_mut.follows.lender w in
    let is = written m n d (Some w) ((c.get_mut.follows.holds w).3 (ap is_some (sym c.in-Some.ensures.value))) in
    order-written (buckets_of m) (buckets_of n) d w.items is g.R.Ranked.rank c.remove_in.ensures.order c.requires.order
