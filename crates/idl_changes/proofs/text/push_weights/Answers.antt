use Rattle.std.proofs.Common.{◌≡◌, ◌∙◌, ◌++◌, ◌∷◌, [], ℕ, List, ap, append_assoc, arith, codes, if◌then◌else◌, length, nat_eq, sym, take}
use Rattle.std.specs.List.{join_by}
use Rattle.std.proofs.lemmas.List.{length-take-le, take_all, take_more}
use Rattle.idl_changes.specs.Changes.{weight_names, weights_text}
use Rattle.idl_changes.proofs.StepLemmas.{joined-more}
use Rattle.idl_changes.proofs.text.push_weights.Goals as goal

pub loop-place-preserved : goal.loop-place-preserved
loop-place-preserved c =
    let names = c.deref-name-items.result.now in
    let i = c.loop-place.place in
    let name = c.name-item.result in
    let before = c.args.text.now.items in
    let so_far = join_by (λ (t : List ℕ). t) (codes ",") (take i names) in
    let few = length-take-le i names in
    let count : length (take i names) ≡ i = omega (arith, c.loop-place-test.true, few) in
    let comma = λ (n : ℕ). if nat_eq n 0 then [] else codes "," in
    let next = ap (join_by (λ (t : List ℕ). t) (codes ",")) (take_more names i name c.loop-place-test.true ∙ ap (λ (n : List ℕ). take i names ++ n ∷ []) (sym c.name-item.is))
    ∙ joined-more (λ (t : List ℕ). t) (codes ",") (take i names) name
    ∙ ap (λ (n : ℕ). (so_far ++ comma n) ++ name) count
    in
    c.in_ok-push_behind.ensures
    ∙ ap (λ (t : List ℕ). (t ++ comma i) ++ name) c.loop-place.invariant
    ∙ ap (λ (t : List ℕ). t ++ name) (append_assoc before (codes "[" ++ so_far) (comma i))
    ∙ append_assoc before (codes "[" ++ (so_far ++ comma i)) name
    ∙ ap (λ (t : List ℕ). before ++ (codes "[" ++ t)) (sym next)

pub returns : goal.returns
unfolding weights_text
returns c =
    let names = c.deref-name-items.result.now in
    let before = c.args.text.now.items in
    let all = take_all c.loop-place.place names c.loop-place-test.false ∙ c.deref-name-items.ensures.value ∙ c.in_ok-names.ensures in
    c.in_ok-extend_from_slice-2.ensures.items
    ∙ ap (λ (t : List ℕ). t ++ codes "]")
    (c.loop-place.invariant ∙ ap (λ (ns : List (List ℕ)). before ++ (codes "[" ++ join_by (λ (t : List ℕ). t) (codes ",") ns)) all)
    ∙ append_assoc before (codes "[" ++ join_by (λ (t : List ℕ). t) (codes ",") (weight_names c.args.weights)) (codes "]")
