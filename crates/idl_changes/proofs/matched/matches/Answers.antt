use Rattle.std.proofs.Common.{◌≡◌, ◌∙◌, ◌<◌, ◌≤◌, ◌++◌, ◌∷◌, [], ℕ, IfOk, List, Option, Some, ap, arith, length, map, subst, sym}
use Rattle.std.specs.List.{range_with_len}
use Rattle.std.specs.Option.{option_and_then}
use Rattle.std.proofs.lemmas.List.{length-map}
use Rattle.idl_changes.specs.Matched.{matched, matches}
use Rattle.idl_changes.proofs.NameLemmas.{same-names}
use Rattle.idl_changes.proofs.TableLemmas.{all-places, get-within, place-next}
use Rattle.idl_changes.proofs.matched.matches.Goals as goal

pub returns-then-have_same_names : goal.returns-then-have_same_names
returns-then-have_same_names g c =
    let old = map g.T.Named.name_of c.args.old.now in
    let new = map g.T.Named.name_of c.args.new.now in
    let all = same-names old new (sym c.have_same_names.ensures ∙ c.if-have_same_names.true)
    ∙ ap (λ (n : ℕ). map (λ (k : ℕ). Some k) (range_with_len 0 n)) (length-map c.args.old.now g.T.Named.name_of)
    in
    subst (λ (places : List (Option ℕ)). IfOk c.all_in_place.result (λ found. found.items ≡ places)) (sym all) c.all_in_place.ensures

pub loop-place-preserved : goal.loop-place-preserved
unfolding matches
loop-place-preserved g c =
    let old = map g.T.Named.name_of c.args.old.now in
    let new = map g.T.Named.name_of c.args.new.now in
    let i = c.loop-place.place in
    let count = length-map c.args.old.now g.T.Named.name_of in
    let within : i < length old = omega (arith, count) in
    let at = get-within old i within in
    c.in_ok-push.ensures.items
    ∙ ap (λ (o : Option ℕ). c.loop-place.found.items ++ o ∷ []) (c.matched.ensures ∙ ap (option_and_then (λ (name : List ℕ). matched old new i name)) at.1)
    ∙ ap (λ (places : List (Option ℕ)). places ++ matched old new i at.0 ∷ []) c.loop-place.invariant
    ∙ sym (place-next (λ (k : ℕ) (name : List ℕ). matched old new k name) old i at.0 at.1)

pub returns : goal.returns
unfolding matches
returns g c =
    let old = map g.T.Named.name_of c.args.old.now in
    let new = map g.T.Named.name_of c.args.new.now in
    let count = length-map c.args.old.now g.T.Named.name_of in
    let past : length old ≤ c.loop-place.place = omega (arith, count) in
    c.loop-place.invariant ∙ all-places (λ (k : ℕ) (name : List ℕ). matched old new k name) old c.loop-place.place past
