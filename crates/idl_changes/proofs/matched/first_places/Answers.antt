use Rattle.std.proofs.Common.{◌≡◌, ◌∙◌, ◌++◌, ◌∷◌, [], ℕ, List, ap, arith, length, map, position, subst, sym, take}
use Rattle.std.specs.Map.{lookup}
use Rattle.std.specs.Str.{bytes_eq}
use Rattle.std.proofs.lemmas.List.{length-map, length-take-le, map_more, take_all}
use Rattle.idl_changes.specs.Tables.{AreFirst}
use Rattle.idl_changes.proofs.matched.first_places.Goals as goal

pub loop-place-init : goal.loop-place-init
loop-place-init g c = λ name. ap (λ (m : List (List ℕ × ℕ)). lookup (bytes_eq name) m) c.in_ok-places.ensures

pub loop-place-preserved : goal.loop-place-preserved
loop-place-preserved g c =
    let name_of = g.T.Named.name_of in
    let items = c.args.items.now in
    let i = c.loop-place.place in
    let item = c.index-items-place.result in
    let before = map name_of (take i items) in
    let at : i ≡ length before = omega (arith, length-map (take i items) name_of, length-take-le i items) in
    let next = map_more name_of items i item c.loop-place-test.true
    ∙ ap (λ x. before ++ name_of x ∷ []) (sym c.index-items-place.is)
    ∙ ap (λ (name : List ℕ). before ++ name ∷ []) (sym c.name.ensures)
    in
    subst (λ (names : List (List ℕ)). AreFirst names c.add_name.new.places) (sym next) (c.in_ok-add_name.ensures before at c.loop-place.invariant)

pub returns : goal.returns
returns g c = λ name. c.loop-place.invariant name ∙ ap (λ xs. position (bytes_eq name) (map g.T.Named.name_of xs)) (take_all c.loop-place.place c.args.items.now c.loop-place-test.false)
