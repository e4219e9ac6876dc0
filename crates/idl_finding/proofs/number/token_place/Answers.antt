use Rattle.std.proofs.Common.{rules, arith, ap, sym, ◌∙◌, None, ◌≡◌, ◌≢◌, Some, slice_get, ◌≤◌, length, ltb}
use Rattle.std.specs.List.{enumerate_from}
use Rattle.std.proofs.lemmas.List.Sorted.{IsPartitionPoint-from_clause}
use Rattle.std.specs.Option.{option_copied}
use Rattle.idl_event.proofs.SitesLemmas.{copied-get}
use Rattle.idl_event.specs.Apart.{Numbered, others_in, sites_in}
use Rattle.idl_finding.proofs.NumberLemmas.{found-here, is-nothing, is-other, is-token, none-weaker, partitioned, split-here}
use Rattle.std.proofs.lemmas.Option.{IfSome_then, same_Some}
use Rattle.idl_finding.proofs.number.token_place.Goals as goal
use Rattle.idl_finding.proofs.number.token_place.Goals.{in_default-via-in-Some+else-number-event, in_default-via-in_default}

pub returns-in-Some-clause-none : goal.returns-in-Some-clause-none
returns-in-Some-clause-none c =
    let events = c.args.expansion.now in
    let others = others_in (enumerate_from 0 events) in
    let n = c.args.event in
    let p = c.partition_point-before.result in
    let others_is : c.others-others.result.now ≡ others = c.others-others.ensures in
    let point = IsPartitionPoint-from_clause (λ (x : Numbered). ltb x.0 n) others p (rw others_is at c.partition_point-before.ensures.partitioned)
    (partitioned (split-here events n).1) (λ a r q k. search rules) in
    let bound : p ≤ length others = omega (arith, c.partition_point-before.ensures.bound, ap length others_is) in
    let s = found-here events n p bound point in
    let got : option_copied c.get.result ≡ slice_get others p =
    copied-get c.others-others.result.now p c.get.result c.get.ensures.lookup ∙ ap (λ l. slice_get l p) others_is in
    let is : slice_get others p ≡ Some c.in-Some.field-0.now = sym got ∙ ap option_copied c.in-Some.is in
    is-other (sites_in (enumerate_from 0 events)) others p n (slice_get events n) c.in-Some.field-0.now s is c.if-number-event.true

pub returns-in_default-clause-some : goal.returns-in_default-clause-some
returns-in_default-clause-some c =
    let events = c.args.expansion.now in
    let others = others_in (enumerate_from 0 events) in
    let n = c.args.event in
    let p = c.partition_point-before.result in
    let others_is : c.others-others.result.now ≡ others = c.others-others.ensures in
    let point = IsPartitionPoint-from_clause (λ (x : Numbered). ltb x.0 n) others p (rw others_is at c.partition_point-before.ensures.partitioned)
    (partitioned (split-here events n).1) (λ a r q k. search rules) in
    let bound : p ≤ length others = omega (arith, c.partition_point-before.ensures.bound, ap length others_is) in
    let s = found-here events n p bound point in
    let got : option_copied c.get.result ≡ slice_get others p =
    copied-get c.others-others.result.now p c.get.result c.get.ensures.lookup ∙ ap (λ l. slice_get l p) others_is in
    let differs : (x : Numbered) → slice_get others p ≡ Some x → x.0 ≢ n =
    elim c.in_default.branch [
      | in_default-via-in-Some+else-number-event w ↦ λ x is equal.
          let here : Some w.in-Some.field-0.now ≡ Some x = sym (ap option_copied w.in-Some.is) ∙ got ∙ is in
          w.if-number-event.false (ap (λ (y : Numbered). y.0) (same_Some w.in-Some.field-0.now x here) ∙ equal)
      | in_default-via-in_default w ↦ λ x is equal.
          let here : None ≡ Some x = sym (ap option_copied w.in_default.is) ∙ got ∙ is in absurd cc
    ] in
    let sites = sites_in (enumerate_from 0 events) in
    let sites_is : c.deref.result.now ≡ sites = c.deref.ensures ∙ c.sites.ensures in
    IfSome_then c.place_at.result
    (rw c.saturating_sub.ensures at (rw sites_is at c.place_at.ensures.some))
    (λ l stands. is-token sites others p n (slice_get events n) (record { file = l.0.now; line = l.1 }) s differs stands)

pub returns-in_default-clause-none : goal.returns-in_default-clause-none
returns-in_default-clause-none c =
    let events = c.args.expansion.now in
    let others = others_in (enumerate_from 0 events) in
    let n = c.args.event in
    let p = c.partition_point-before.result in
    let others_is : c.others-others.result.now ≡ others = c.others-others.ensures in
    let point = IsPartitionPoint-from_clause (λ (x : Numbered). ltb x.0 n) others p (rw others_is at c.partition_point-before.ensures.partitioned)
    (partitioned (split-here events n).1) (λ a r q k. search rules) in
    let bound : p ≤ length others = omega (arith, c.partition_point-before.ensures.bound, ap length others_is) in
    let s = found-here events n p bound point in
    let sites = sites_in (enumerate_from 0 events) in
    let sites_is : c.deref.result.now ≡ sites = c.deref.ensures ∙ c.sites.ensures in
    none-weaker c.place_at.result (λ none. is-nothing sites others p n (slice_get events n) s none)
    (rw c.saturating_sub.ensures at (rw sites_is at c.place_at.ensures.none))
