use Rattle.std.proofs.Common.{◌≡◌, ◌∙◌, ◌-◌, ◌<◌, ◌≤◌, ◌+◌, ◌++◌, [], ℕ, ap, arith, drop, get_or, leb, length, sym, rules, take}
use Rattle.std.proofs.lemmas.List.Sorted.{IsPartitionPoint-from_clause, IsPartitionedBy-leb}
use Rattle.idl_event.specs.Runs.{starts_of, tokens_of}
use Rattle.idl_event.proofs.RunsLemmas.{IsRunAt-point, length-starts, run-from, starts-rise, starts_at}
use Rattle.idl_event.proofs.told.runs.TokenRuns.run_from.Goals as goal

pub overflow_sub-place : goal.overflow_sub-place
overflow_sub-place c =
    let it = c.self.inside in
    let runs = it.runs.items in
    let index = c.args.index in
    let k = c.partition_point-place.result in
    let starts_is : c.deref.result.now ≡ starts_of 0 runs = c.deref.ensures.value ∙ c.self.invariant.0 in
    let point = IsPartitionPoint-from_clause (λ (s : ℕ). leb s index) (starts_of 0 runs) k (rw starts_is at c.partition_point-place.ensures.partitioned)
    (IsPartitionedBy-leb (λ (s : ℕ). s) (starts_of 0 runs) index (starts-rise runs)) (λ a r q k. search rules) in
    let bound : k ≤ length runs = omega (arith, c.partition_point-place.ensures.bound, ap length starts_is, length-starts 0 runs) in
    let here : index < length (tokens_of runs) = omega (arith, c.if-self-index.false, c.self.invariant.1) in
    let at = IsRunAt-point runs index k [] here bound point.0 point.1 in
    omega (arith, at.some)

pub index-requires : goal.index-requires
index-requires c =
    let it = c.self.inside in
    let runs = it.runs.items in
    let index = c.args.index in
    let k = c.partition_point-place.result in
    let starts_is : c.deref.result.now ≡ starts_of 0 runs = c.deref.ensures.value ∙ c.self.invariant.0 in
    let point = IsPartitionPoint-from_clause (λ (s : ℕ). leb s index) (starts_of 0 runs) k (rw starts_is at c.partition_point-place.ensures.partitioned)
    (IsPartitionedBy-leb (λ (s : ℕ). s) (starts_of 0 runs) index (starts-rise runs)) (λ a r q k. search rules) in
    let bound : k ≤ length runs = omega (arith, c.partition_point-place.ensures.bound, ap length starts_is, length-starts 0 runs) in
    let here : index < length (tokens_of runs) = omega (arith, c.if-self-index.false, c.self.invariant.1) in
    let at = IsRunAt-point runs index k [] here bound point.0 point.1 in
    omega (arith, at.within, it.runs.ok.0)

pub overflow_sub-result : goal.overflow_sub-result
overflow_sub-result c =
    let it = c.self.inside in
    let runs = it.runs.items in
    let index = c.args.index in
    let k = c.partition_point-place.result in
    let starts_is : c.deref.result.now ≡ starts_of 0 runs = c.deref.ensures.value ∙ c.self.invariant.0 in
    let point = IsPartitionPoint-from_clause (λ (s : ℕ). leb s index) (starts_of 0 runs) k (rw starts_is at c.partition_point-place.ensures.partitioned)
    (IsPartitionedBy-leb (λ (s : ℕ). s) (starts_of 0 runs) index (starts-rise runs)) (λ a r q k. search rules) in
    let bound : k ≤ length runs = omega (arith, c.partition_point-place.ensures.bound, ap length starts_is, length-starts 0 runs) in
    let here : index < length (tokens_of runs) = omega (arith, c.if-self-index.false, c.self.invariant.1) in
    let at = IsRunAt-point runs index k [] here bound point.0 point.1 in
    let first = c.index-2.result.now in
    let start : first ≡ 0 + length (tokens_of (take (k - 1) runs)) = c.index-2.ensures ∙ ap (λ ss. get_or ss (k - 1) first) c.self.invariant.0 ∙ starts_at 0 runs (k - 1) first at.within in
    omega (arith, at.begins, start)

pub returns-clause-some : goal.returns-clause-some
returns-clause-some c =
    let it = c.self.inside in
    let runs = it.runs.items in
    let index = c.args.index in
    let k = c.partition_point-place.result in
    let starts_is : c.deref.result.now ≡ starts_of 0 runs = c.deref.ensures.value ∙ c.self.invariant.0 in
    let point = IsPartitionPoint-from_clause (λ (s : ℕ). leb s index) (starts_of 0 runs) k (rw starts_is at c.partition_point-place.ensures.partitioned)
    (IsPartitionedBy-leb (λ (s : ℕ). s) (starts_of 0 runs) index (starts-rise runs)) (λ a r q k. search rules) in
    let bound : k ≤ length runs = omega (arith, c.partition_point-place.ensures.bound, ap length starts_is, length-starts 0 runs) in
    let here : index < length (tokens_of runs) = omega (arith, c.if-self-index.false, c.self.invariant.1) in
    let run = c.index.result.now in
    let at = IsRunAt-point runs index k run here bound point.0 point.1 in
    let first = c.index-2.result.now in
    let start : first ≡ 0 + length (tokens_of (take (k - 1) runs)) = c.index-2.ensures ∙ ap (λ ss. get_or ss (k - 1) first) c.self.invariant.0 ∙ starts_at 0 runs (k - 1) first at.within in
    let same : length (tokens_of (take (k - 1) runs)) ≡ first = omega (arith, start) in
    let is : get_or runs (k - 1) run ≡ run = sym c.index.ensures in (
      omega (arith, at.inside, same, ap length is),
      tokens_of (drop (k - 1 + 1) runs),
      ap (drop index) (sym c.self.view_is)
          ∙ run-from runs (k - 1) index run at.within at.begins at.inside
          ∙ (λ j. drop (index - same j) (is j) ++ tokens_of (drop (k - 1 + 1) runs)),
    )
