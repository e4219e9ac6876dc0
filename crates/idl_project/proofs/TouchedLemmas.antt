-- The roots that an edit expands anew.
use Rattle.std.proofs.Common.{◌≡◌, ◌∙◌, ℕ, ◌+◌, Bool, true, false, cond, not, ◌&&◌, ◌||◌, All, inl, inr, if◌then◌else◌, length, List, [], ◌∷◌, ◌++◌, Option, append_assoc, arith, refl, sym, subst, ap}
use Rattle.std.proofs.lemmas.Bool.{false≢true, true≢false}
use Rattle.std.proofs.lemmas.List.{map-append}
use Rattle.std.proofs.lemmas.List.Folds.{list_any-append}
use Rattle.std.proofs.lemmas.List.Elements.{All-contains_itself, All-head, All-tail, All-weaker, filter-append}
use Rattle.std.proofs.lemmas.Map.Views.{list_any-from_Contains}
use Rattle.std.specs.Cmp.Lexicographic.{bytes_decides, nat_list_eq_equiv}
use Rattle.std.specs.List.{Contains, IsDistinct, filter, list_all, list_any}
use Rattle.std.specs.Option.{option_eq}
use Rattle.std.specs.Str.{bytes_eq}
use Rattle.idl_event.specs.declared.asked.key.RootAnswer.{RootAnswer}
use Rattle.idl_event.specs.declared.asked.key.RootKey.{RootKey}
use Rattle.idl_memo.specs.Fresh.{fresh_among, fresh_at, places_over}
use Rattle.idl_memo.specs.Query.{asked}
use Rattle.idl_memo.specs.declared.meter.Meter.{Meter}
use Rattle.idl_prep.specs.Root.{expansion}
use Rattle.idl_sources.specs.idl_root.declared.kept.keeper.Keeper.{Keeper}
use Rattle.idl_project.specs.Renewed.{IsRenewedAt}
use Rattle.idl_project.specs.Tasks.{RootPlace, alike_root, answer_eq}
use Rattle.idl_project.specs.Work.{is_untouched, touched_between}
use Rattle.idl_project.proofs.MetLemmas.{alike-none}
use Rattle.idl_project.proofs.RootLemmas.{list_any-before}

-- a root that is there
pub there-middle : (done : List (List ℕ)) (root : List ℕ) (behind : List (List ℕ)) → list_any (bytes_eq root) (done ++ root ∷ behind) ≡ true
there-middle [] root behind = ap (λ b. b || list_any (bytes_eq root) behind) ((bytes_decides root root).1 refl)
there-middle (d ∷ done) root behind = by (bytes_eq root d) (there-middle done root behind)
  where
    by : (b : Bool) → list_any (bytes_eq root) (done ++ root ∷ behind) ≡ true → b || list_any (bytes_eq root) (done ++ root ∷ behind) ≡ true
    by true later = refl
    by false later = later

module _ (old : RootKey → Option RootAnswer) (before : List (List ℕ)) (new : RootKey → Option RootAnswer) where
  -- one more is passed, or is touched
  pub touched-not : (root : List ℕ) (roots : List (List ℕ)) → is_untouched old before new root ≡ true → touched_between old before new (root ∷ roots) ≡ touched_between old before new roots
  touched-not root roots is = ap (λ b. cond (not b) (root ∷ touched_between old before new roots) (touched_between old before new roots)) is

  pub touched-one : (root : List ℕ) (roots : List (List ℕ)) → is_untouched old before new root ≡ false → touched_between old before new (root ∷ roots) ≡ root ∷ touched_between old before new roots
  touched-one root roots is = ap (λ b. cond (not b) (root ∷ touched_between old before new roots) (touched_between old before new roots)) is

  both : (root : List ℕ) → list_any (bytes_eq root) before ≡ true → alike_root (root, new) (root, old) ≡ true → is_untouched old before new root ≡ true
  both root there alike = ap (λ b. b && alike_root (root, new) (root, old)) there ∙ alike

  -- where all of them were there, and are alike, none is touched
  pub touched-none : (roots : List (List ℕ)) → ((root : List ℕ) → alike_root (root, new) (root, old) ≡ true) → All (λ root. list_any (bytes_eq root) before ≡ true) roots
      → touched_between old before new roots ≡ []
  touched-none [] alike there = refl
  touched-none (r ∷ roots) alike there =
      touched-not r roots (both r (All-head (λ root. list_any (bytes_eq root) before ≡ true) r roots there) (alike r))
      ∙ touched-none roots alike (All-tail (λ root. list_any (bytes_eq root) before ≡ true) r roots there)

  stale : (b : Bool) → b && false ≡ false
  stale true = refl
  stale false = refl

  -- a root that was there is put in just where it is expanded
  pub touched-on : (at : ℕ) (root : List ℕ) (was now : Keeper) (m n : Meter) (roots some more : List (List ℕ)) → IsRenewedAt old new at root was now m n → list_any (bytes_eq root) before ≡ true
      → (m.expanded ≡ n.expanded → more ≡ some) → ((m.expanded ≡ n.expanded → ⊥) → more ≡ some ++ root ∷ [])
      → more ++ touched_between old before new roots ≡ some ++ touched_between old before new (root ∷ roots)
  touched-on at root was now m n roots some more (inl held) there same put =
      ap (λ (rs : List (List ℕ)). rs ++ touched_between old before new roots) (same (sym (ap (λ (x : Meter). x.expanded) held.meter)))
      ∙ ap (λ (rs : List (List ℕ)). some ++ rs) (sym (touched-not root roots (both root there held.alike)))
  touched-on at root was now m n roots some more (inr expanded) there same put =
      let count = expanded.count in
      let is : is_untouched old before new root ≡ false = ap (λ b. list_any (bytes_eq root) before && b) expanded.stale ∙ stale (list_any (bytes_eq root) before) in
      ap (λ (rs : List (List ℕ)). rs ++ touched_between old before new roots) (put (λ e. absurd (omega (arith, e, count))))
      ∙ append_assoc some (root ∷ []) (touched_between old before new roots)
      ∙ ap (λ (rs : List (List ℕ)). some ++ rs) (sym (touched-one root roots is))

-- a root more is touched alone
pub touched-added : (bank : RootKey → Option RootAnswer) → ((root : List ℕ) → alike_root (root, bank) (root, bank) ≡ true) → (names : List (List ℕ)) (root : List ℕ) → list_any (bytes_eq root) names ≡ false
    → touched_between bank names bank (names ++ root ∷ []) ≡ root ∷ []
touched-added bank itself names root new =
    let P = λ (r : List ℕ). list_any (bytes_eq r) names ≡ true in
    let there = All-weaker (Contains names) P (λ r h. list_any-from_Contains nat_list_eq_equiv r names h) names (All-contains_itself names) in
    filter-append (λ (r : List ℕ). not (is_untouched bank names bank r)) names (root ∷ [])
    ∙ ap (λ (rs : List (List ℕ)). rs ++ touched_between bank names bank (root ∷ [])) (touched-none bank names bank names itself there)
    ∙ touched-one bank names bank root [] (ap (λ b. b && alike_root (root, bank) (root, bank)) new)

-- ---- a root that isn't touched

or-false : (a b : Bool) → (a || b) ≡ false → (a ≡ false) × (b ≡ false)
or-false true b h = absurd (true≢false h)
or-false false b h = (refl, h)

-- one that is there, and not among those that pass, doesn't pass
not-among : (passes : List ℕ → Bool) (names : List (List ℕ)) (name : List ℕ) → list_any (bytes_eq name) names ≡ true → list_any (bytes_eq name) (filter passes names) ≡ false → passes name ≡ false
not-among passes [] name there none = absurd (false≢true there)
not-among passes (n ∷ names) name there none = by (passes n) (bytes_eq name n) refl refl there none (not-among passes names name)
  where
    by : (p same : Bool) → passes n ≡ p → bytes_eq name n ≡ same → (same || list_any (bytes_eq name) names) ≡ true
        → list_any (bytes_eq name) (cond p (n ∷ filter passes names) (filter passes names)) ≡ false
        → (list_any (bytes_eq name) names ≡ true → list_any (bytes_eq name) (filter passes names) ≡ false → passes name ≡ false) → passes name ≡ false
    by true true is e h g later = absurd (true≢false (sym (ap (λ b. b || list_any (bytes_eq name) (filter passes names)) e) ∙ g))
    by true false is e h g later = later h (or-false (bytes_eq name n) (list_any (bytes_eq name) (filter passes names)) g).1
    by false true is e h g later = ap passes ((bytes_decides name n).0 e) ∙ is
    by false false is e h g later = later h g

and-true : (a b : Bool) → (a && b) ≡ true → b ≡ true
and-true true b h = h
and-true false b h = absurd (false≢true h)

not-false : (b : Bool) → not b ≡ false → b ≡ true
not-false true h = refl
not-false false h = absurd (true≢false h)

pub untouched-alike : (old : RootKey → Option RootAnswer) (before : List (List ℕ)) (new : RootKey → Option RootAnswer) (roots : List (List ℕ)) (root : List ℕ)
    → list_any (bytes_eq root) roots ≡ true → list_any (bytes_eq root) (touched_between old before new roots) ≡ false → alike_root (root, new) (root, old) ≡ true
untouched-alike old before new roots root there none =
    and-true (list_any (bytes_eq root) before) (alike_root (root, new) (root, old))
    (not-false (is_untouched old before new root) (not-among (λ (r : List ℕ). not (is_untouched old before new r)) roots root there none))

-- ---- how many are touched

-- its own of before, if it was there
alike-at : (was new : RootKey → Option RootAnswer) (root : List ℕ) (names : List (List ℕ))
    → list_any (alike_root (root, new)) (places_over was names) ≡ list_any (bytes_eq root) names && alike_root (root, new) (root, was)
alike-at was new root [] = refl
alike-at was new root (n ∷ names) = by (bytes_eq root n) refl (alike-at was new root names)
  where
    own : (a b : Bool) → (a || (b && a)) ≡ a
    own true b = refl
    own false true = refl
    own false false = refl

    by : (same : Bool) → bytes_eq root n ≡ same
        → list_any (alike_root (root, new)) (places_over was names) ≡ list_any (bytes_eq root) names && alike_root (root, new) (root, was)
        → ((bytes_eq root n && list_all (λ k. option_eq answer_eq (new k) (was k)) (asked (expansion n) was)) || list_any (alike_root (root, new)) (places_over was names))
        ≡ ((bytes_eq root n || list_any (bytes_eq root) names) && alike_root (root, new) (root, was))
    by true e later =
        let is : root ≡ n = (bytes_decides root n).0 e in
        let itself : bytes_eq root root ≡ true = (bytes_decides root root).1 refl in
        let all : alike_root (root, new) (root, was) ≡ list_all (λ k. option_eq answer_eq (new k) (was k)) (asked (expansion n) was) =
        ap (λ b. b && list_all (λ k. option_eq answer_eq (new k) (was k)) (asked (expansion root) was)) itself
        ∙ ap (λ (name : List ℕ). list_all (λ k. option_eq answer_eq (new k) (was k)) (asked (expansion name) was)) is in
        ap (λ b. (b && list_all (λ k. option_eq answer_eq (new k) (was k)) (asked (expansion n) was)) || list_any (alike_root (root, new)) (places_over was names)) e
        ∙ (λ i. sym all i || later i)
        ∙ own (alike_root (root, new) (root, was)) (list_any (bytes_eq root) names)
        ∙ ap (λ b. (b || list_any (bytes_eq root) names) && alike_root (root, new) (root, was)) (sym e)
    by false e later =
        ap (λ b. (b && list_all (λ k. option_eq answer_eq (new k) (was k)) (asked (expansion n) was)) || list_any (alike_root (root, new)) (places_over was names)) e
        ∙ later
        ∙ ap (λ b. (b || list_any (bytes_eq root) names) && alike_root (root, new) (root, was)) (sym e)

-- how many places of roots are fresh, one by one
abbrev fresh_in : List RootPlace → List RootPlace → ℕ
fresh_in known places = fresh_among bytes_eq (option_eq answer_eq) expansion known places

module _ (none : (known : List RootPlace) → fresh_in known [] ≡ 0)
    (one : (known : List RootPlace) (here : RootPlace) → fresh_in known (here ∷ []) ≡ fresh_at bytes_eq (option_eq answer_eq) expansion known here)
    (split : (known a b : List RootPlace) → fresh_in known (a ++ b) ≡ fresh_in known a + fresh_in (known ++ a) b)
    (old : RootKey → Option RootAnswer) (before : List (List ℕ)) (new : RootKey → Option RootAnswer) where
  abbrev known_with : List (List ℕ) → List RootPlace
  known_with done = places_over old before ++ places_over new done

  touched-length : (root : List ℕ) (roots : List (List ℕ)) (u : Bool) → is_untouched old before new root ≡ u
      → length (touched_between old before new (root ∷ roots)) ≡ (if u then 0 else 1) + length (touched_between old before new roots)
  touched-length root roots true is = let e = ap (λ (rs : List (List ℕ)). length rs) (touched-not old before new root roots is) in omega (arith, e)
  touched-length root roots false is = let e = ap (λ (rs : List (List ℕ)). length rs) (touched-one old before new root roots is) in omega (arith, e)

  alike-here : (root : List ℕ) (done : List (List ℕ)) → list_any (bytes_eq root) done ≡ false → list_any (alike_root (root, new)) (known_with done) ≡ is_untouched old before new root
  alike-here root done new_here =
      list_any-append (alike_root (root, new)) (places_over old before) (places_over new done)
      ∙ ap (λ b. list_any (alike_root (root, new)) (places_over old before) || b) (alike-none new new root done new_here)
      ∙ or-none (list_any (alike_root (root, new)) (places_over old before))
      ∙ alike-at old new root before
    where
      or-none : (b : Bool) → (b || false) ≡ b
      or-none true = refl
      or-none false = refl

  pub count-touched : (done roots : List (List ℕ)) → IsDistinct bytes_eq (done ++ roots) → fresh_in (known_with done) (places_over new roots) ≡ length (touched_between old before new roots)
  count-touched done [] distinct = none (known_with done)
  count-touched done (root ∷ roots) distinct =
      let here : RootPlace = (root, new) in
      let parted = split (known_with done) (here ∷ []) (places_over new roots) in
      let first : fresh_in (known_with done) (here ∷ []) ≡ (if is_untouched old before new root then 0 else 1) =
      one (known_with done) here ∙ ap (λ b. if b then 0 else 1) (alike-here root done (list_any-before done root roots distinct)) in
      let grown : known_with done ++ here ∷ [] ≡ known_with (done ++ root ∷ []) =
      append_assoc (places_over old before) (places_over new done) (here ∷ [])
      ∙ ap (λ (ps : List RootPlace). places_over old before ++ ps) (sym (map-append (λ (text : List ℕ). (text, new)) done (root ∷ []))) in
      let rest : fresh_in (known_with done ++ here ∷ []) (places_over new roots) ≡ length (touched_between old before new roots) =
      ap (λ (ps : List RootPlace). fresh_in ps (places_over new roots)) grown
      ∙ count-touched (done ++ root ∷ []) roots (subst (λ (ns : List (List ℕ)). IsDistinct bytes_eq ns) (sym (append_assoc done (root ∷ []) roots)) distinct) in
      let length_here = touched-length root roots (is_untouched old before new root) refl in
      omega (arith, parted, first, rest, length_here)
