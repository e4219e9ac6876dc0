-- Which FILEs of two versions are left, one after the other.
use Rattle.std.proofs.Common.{Bool, Bor, ◌≡◌, ◌∙◌, ◌+◌, ◌<◌, ◌≤◌, ◌++◌, ◌∷◌, ◌||◌, [], ℕ, List, None, Option, Some, ap, ap₂, append-nil, append_assoc, arith, drop, false, get_or, if◌then◌else◌, length, map, not, refl, subst, suc, sym, take, true, unwrap_or, zero}
use Rattle.std.specs.List.{AllZip, slice_get}
use Rattle.std.proofs.lemmas.List.{drop_all, drop_more, map-append, take_more}
use Rattle.std.proofs.lemmas.Option.{same_Some, slice_get-get_or, slice_get_within}
use Rattle.idl_loader.specs.Holding.{Holding}
use Rattle.idl_tool.specs.There.{IsHad, kept}

zip-push : (R : List ℕ → Bool → Type 0) (files : List (List ℕ)) (had : List Bool) (file : List ℕ) (is : Bool) → AllZip R files had → R file is → AllZip R (files ++ file ∷ []) (had ++ is ∷ [])
zip-push R [] [] file is are next = (next, tt)
zip-push R [] (b ∷ had) file is are next = absurd are
zip-push R (a ∷ files) [] file is are next = absurd are
zip-push R (a ∷ files) (b ∷ had) file is are next = (are.0, zip-push R files had file is are.1 next)

-- one FILE more, of which a loader tells what it told
pub one-had : (told later : List ℕ → Holding) (files : List (Bor (List ℕ))) (i : ℕ) (d : Bor (List ℕ)) (had more : List Bool) (is : Bool) → i < length files → more ≡ had ++ is ∷ []
    → later ≡ told → AllZip (IsHad told) (map (λ w. w.now) (take i files)) had → IsHad later (get_or files i d).now is → AllZip (IsHad told) (map (λ w. w.now) (take (i + 1) files)) more
one-had told later files i d had more is within put still are next =
    let file = get_or files i d in
    let so_far = map (λ (w : Bor (List ℕ)). w.now) (take i files) in
    let one : map (λ (w : Bor (List ℕ)). w.now) (take (i + 1) files) ≡ so_far ++ file.now ∷ [] =
    ap (map (λ w. w.now)) (take_more files i d within) ∙ map-append (λ w. w.now) (take i files) (file ∷ []) in
    let is_had : IsHad told file.now is = subst (λ (t : List ℕ → Holding). IsHad t file.now is) still next in
    subst (λ (fs : List (List ℕ)). AllZip (IsHad told) fs more) (sym one) (subst (λ (hs : List Bool). AllZip (IsHad told) (so_far ++ file.now ∷ []) hs) (sym put) (zip-push (IsHad told) so_far had file.now is are is_had))

-- what stands first among marks, and the others
abbrev Begins : List Bool → Option Bool → List Bool → Type 0
Begins all None rest = (all ≡ []) × (rest ≡ [])
Begins all (Some mark) rest = all ≡ mark ∷ rest

past-end : (marks : List Bool) (i : ℕ) → slice_get marks i ≡ None → length marks ≤ i
past-end [] i is = omega arith
past-end (mark ∷ marks) zero is = cc
past-end (mark ∷ marks) (suc i) is = let rest = past-end marks i is in omega (arith, rest)

begins-at : (marks : List Bool) (i : ℕ) → Begins (drop i marks) (slice_get marks i) (drop (i + 1) marks)
begins-at marks i = by (slice_get marks i) refl
  where
    by : (found : Option Bool) → slice_get marks i ≡ found → Begins (drop i marks) found (drop (i + 1) marks)
    by None at =
        let past = past-end marks i at in
        (drop_all i marks past, drop_all (i + 1) marks (omega (arith, past)))
    by (Some mark) at =
        let there = slice_get_within marks i mark at in
        drop_more marks i mark there ∙ ap (λ (m : Bool). m ∷ drop (i + 1) marks) (same_Some (get_or marks i mark) mark (sym (slice_get-get_or marks i mark there) ∙ at))

kept-all : (had : List Bool) (files : List (List ℕ)) → kept had [] files ≡ files
kept-all [] files = refl
kept-all (is ∷ had) files = refl

kept-none : (had others : List Bool) → kept had others [] ≡ []
kept-none [] others = refl
kept-none (is ∷ had) [] = refl
kept-none (is ∷ had) (other ∷ others) = refl

-- the first FILE, by what stands first among marks
kept-first : (all had every others : List Bool) (first other : Option Bool) (file : List ℕ) (files : List (List ℕ)) → Begins all first had → Begins every other others
    → kept all every (file ∷ files) ≡ (if unwrap_or first true || not (unwrap_or other false) then file ∷ kept had others files else kept had others files)
kept-first all had every others None other file files at beside =
    ap (λ (h : List Bool). kept h every (file ∷ files)) at.0 ∙ ap (λ (h : List Bool). file ∷ kept h others files) (sym at.1)
kept-first all had every others (Some true) None file files at beside =
    ap₂ (λ (h o : List Bool). kept h o (file ∷ files)) at beside.0 ∙ sym (ap (λ (fs : List (List ℕ)). file ∷ fs) (ap (λ (o : List Bool). kept had o files) beside.1 ∙ kept-all had files))
kept-first all had every others (Some false) None file files at beside =
    ap₂ (λ (h o : List Bool). kept h o (file ∷ files)) at beside.0 ∙ sym (ap (λ (fs : List (List ℕ)). file ∷ fs) (ap (λ (o : List Bool). kept had o files) beside.1 ∙ kept-all had files))
kept-first all had every others (Some is) (Some other) file files at beside = ap₂ (λ (h o : List Bool). kept h o (file ∷ files)) at beside

some-of : (files : List (Bor (List ℕ))) (i : ℕ) → i < length files → Bor (List ℕ)
some-of [] i within = absurd (let none : ⊥ = omega (arith, within) in none)
some-of (file ∷ files) i within = file

module _ (had others : List Bool) (files : List (Bor (List ℕ))) (i : ℕ) (left all : List (List ℕ)) (is : Bool)
    (within : i < length files) (marked : is ≡ (unwrap_or (slice_get had i) true || not (unwrap_or (slice_get others i) false)))
    (so_far : left ++ kept (drop i had) (drop i others) (map (λ w. w.now) (drop i files)) ≡ all) where
  abbrev behind : List (List ℕ)
  behind = kept (drop (i + 1) had) (drop (i + 1) others) (map (λ w. w.now) (drop (i + 1) files))

  here : (d : Bor (List ℕ)) → kept (drop i had) (drop i others) (map (λ w. w.now) (drop i files)) ≡ (if is then (get_or files i d).now ∷ behind else behind)
  here d =
      let file = (get_or files i d).now in
      ap (λ (fs : List (Bor (List ℕ))). kept (drop i had) (drop i others) (map (λ w. w.now) fs)) (drop_more files i d within)
      ∙ kept-first (drop i had) (drop (i + 1) had) (drop i others) (drop (i + 1) others) (slice_get had i) (slice_get others i) file _ (begins-at had i) (begins-at others i)
      ∙ ap (λ (b : Bool). if b then file ∷ behind else behind) (sym marked)

  -- a FILE that is left
  pub one-left : (d : Bor (List ℕ)) (more : List (List ℕ)) → is ≡ true → more ≡ left ++ (get_or files i d).now ∷ [] → more ++ behind ≡ all
  one-left d more so put =
      let file = (get_or files i d).now in
      ap (λ (t : List (List ℕ)). t ++ behind) put ∙ append_assoc left (file ∷ []) behind
      ∙ ap (λ (t : List (List ℕ)). left ++ t) (sym (here d ∙ ap (λ (b : Bool). if b then file ∷ behind else behind) so)) ∙ so_far

  -- one that isn't
  pub one-out : is ≡ false → left ++ behind ≡ all
  one-out so =
      let d = some-of files i within in
      ap (λ (t : List (List ℕ)). left ++ t) (sym (here d ∙ ap (λ (b : Bool). if b then (get_or files i d).now ∷ behind else behind) so)) ∙ so_far

-- behind the last FILE
pub all-left : (had others : List Bool) (files : List (Bor (List ℕ))) (i : ℕ) (left all : List (List ℕ)) → length files ≤ i
    → left ++ kept (drop i had) (drop i others) (map (λ w. w.now) (drop i files)) ≡ all → left ≡ all
all-left had others files i left all past so_far =
    sym (append-nil left)
    ∙ ap (λ (t : List (List ℕ)). left ++ t) (sym (ap (λ (fs : List (Bor (List ℕ))). kept (drop i had) (drop i others) (map (λ w. w.now) fs)) (drop_all i files past) ∙ kept-none (drop i had) (drop i others)))
    ∙ so_far
