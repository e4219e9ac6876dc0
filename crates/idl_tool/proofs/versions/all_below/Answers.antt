use Rattle.std.proofs.Common.{Bor, ◌≡◌, ◌∙◌, ◌+◌, ◌<◌, ◌++◌, ◌∷◌, [], ℕ, List, Option, ap, get_or, length, map, sym, take}
use Rattle.std.specs.Option.{option_map}
use Rattle.std.proofs.lemmas.List.{map-append, take_all, take_more}
use Rattle.idl_tool.specs.Words.{all_below, below}
use Rattle.idl_tool.proofs.versions.all_below.Goals as goal

-- one path more
next-below : (from : List ℕ → List ℕ) (paths : List (Bor (List ℕ))) (i : ℕ) (d : Bor (List ℕ)) (all next : List (List ℕ)) → i < length paths
    → all ≡ map from (map (λ w. w.now) (take i paths)) → next ≡ all ++ from (get_or paths i d).now ∷ [] → next ≡ map from (map (λ w. w.now) (take (i + 1) paths))
next-below from paths i d all next within so_far put =
    let now = λ (w : Bor (List ℕ)). w.now in
    let path = get_or paths i d in
    put ∙ ap (λ (ws : List (List ℕ)). ws ++ from path.now ∷ []) so_far
    ∙ sym (ap (λ (ps : List (Bor (List ℕ))). map from (map now ps)) (take_more paths i d within)
    ∙ ap (map from) (map-append now (take i paths) (path ∷ []))
    ∙ map-append from (map now (take i paths)) (path.now ∷ []))

pub paths-preserved : goal.paths-preserved
paths-preserved c =
    let now = λ (w : Bor (List ℕ)). w.now in
    next-below (below c.in-Some.directory.now) c.args.paths.now c.paths.path-index _ (map now c.paths.all.items) (map now c.push.new.self.items) c.paths-test.true c.paths.invariant
    (ap (map now) c.in_ok-push.ensures.items ∙ map-append now c.paths.all.items (c.in_ok-whole.whole ∷ [])
    ∙ ap (λ (w : List ℕ). map now c.paths.all.items ++ w ∷ []) c.in_ok-whole.ensures)

pub returns : goal.returns
returns c =
    let paths = c.args.paths.now in
    let now = λ (w : Bor (List ℕ)). w.now in
    c.paths.invariant
    ∙ ap (λ (ps : List (Bor (List ℕ))). map (below c.in-Some.directory.now) (map now ps)) (take_all c.paths.path-index paths c.paths-test.false)
    ∙ ap (λ (o : Option (Bor (List ℕ))). all_below (option_map now o) (map now paths)) (sym c.in-Some.is)
