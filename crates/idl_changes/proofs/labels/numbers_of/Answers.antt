use Rattle.std.proofs.Common.{◌∙◌, ◌+◌, ℕ, List, ap, position}
use Rattle.std.specs.Map.{lookup}
use Rattle.std.specs.Option.{option_map}
use Rattle.std.specs.Str.{bytes_eq}
use Rattle.std.proofs.lemmas.List.{take_all}
use Rattle.idl_changes.proofs.NumberLemmas.{numbers-next}
use Rattle.idl_changes.proofs.labels.numbers_of.Goals as goal

pub loop-place-init : goal.loop-place-init
loop-place-init c = λ name. ap (λ (m : List (List ℕ × ℕ)). lookup (bytes_eq name) m) c.in_ok-numbers.ensures

pub loop-place-preserved : goal.loop-place-preserved
loop-place-preserved c = λ k.
    let name = c.index-names-place.result in
    numbers-next c.args.names.now c.loop-place.place name k (lookup (bytes_eq k) c.loop-place.numbers) (lookup (bytes_eq k) c.add_number.new.numbers)
    c.loop-place-test.true c.index-names-place.is (c.loop-place.invariant k) (c.in_ok-add_number.ensures k)

pub returns : goal.returns
returns c = λ name. c.loop-place.invariant name
    ∙ ap (λ (names : List (List ℕ)). option_map (λ (n : ℕ). n + 1) (position (bytes_eq name) names)) (take_all c.loop-place.place c.args.names.now c.loop-place-test.false)
