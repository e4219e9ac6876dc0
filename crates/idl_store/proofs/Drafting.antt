-- Drafts, of which the last one changes.
use Rattle.std.proofs.Common.{◌≡◌, ℕ, ◌-◌, ◌+◌, ◌<◌, List, [], ◌∷◌, ◌++◌, Vec, refl, sym, ap, ◌∙◌, arith, length, get_or, set, take, drop, zero, suc, add-zero, false}
use Rattle.std.proofs.lemmas.List.{get_or-drop, length-take-le, map-append, take_all, take_more}
use Rattle.std.proofs.Math.Seq.{set-append_seam}
use Rattle.std.specs.Bool.{◌==◌}
use Rattle.std.specs.Global.{Global}
use Rattle.idl_store.specs.Numbers.{drafts_of}
use Rattle.idl_store.specs.Stored.{with_results}
use Rattle.idl_store.specs.declared.numbers.Draft.{Draft}

-- more results behind those of the last draft
pub with_results-last : {X : Type 0} (ds : List (ℕ × List X)) (d : ℕ × List X) (more : List X) → with_results (ds ++ d ∷ []) more ≡ ds ++ (d.0, d.1 ++ more) ∷ []
with_results-last [] d more = refl
with_results-last (e ∷ []) d more = refl
with_results-last (e ∷ f ∷ ds) d more = ap (λ ds. e ∷ ds) (with_results-last (f ∷ ds) d more)

module _ (ds : List Draft) (n : ℕ) (len : n ≡ length ds) (d : Draft) (some : 0 < n) (last : d ≡ get_or ds (n - 1) d) where
  -- all drafts but the last
  abbrev front : List Draft
  front = take (n - 1) ds

  with_last : front ++ d ∷ [] ≡ ds
  with_last =
      ap (λ x. front ++ x ∷ []) last
      ∙ sym (take_more ds (n - 1) d (omega (arith, len, some)))
      ∙ take_all (n - 1 + 1) ds (omega (arith, len, some))

  -- the drafts, with the last one apart
  parted : drafts_of ds ≡ drafts_of front ++ (d.at, d.numbers.items) ∷ []
  parted = ap drafts_of (sym with_last) ∙ map-append (λ d. (d.at, d.numbers.items)) front (d ∷ [])

  -- the same where others are its numbers
  changed : (v : Vec ℕ Global) → drafts_of (set ds (n - 1) (record { at = d.at; numbers = v })) ≡ drafts_of front ++ (d.at, v.items) ∷ []
  changed v =
      let new : Draft = record { at = d.at; numbers = v } in
      let place : length front ≡ n - 1 = length-take-le (n - 1) ds (omega (arith, len, some)) in
      let whole : set ds (n - 1) new ≡ front ++ new ∷ [] =
      (λ i. set (sym with_last i) (sym place i) new) ∙ set-append_seam front d [] new in
      ap drafts_of whole ∙ map-append (λ d. (d.at, d.numbers.items)) front (new ∷ [])

  -- they are more
  pub drafts-more : (v : Vec ℕ Global) (more : List ℕ) → v.items ≡ d.numbers.items ++ more → drafts_of (set ds (n - 1) (record { at = d.at; numbers = v })) ≡ with_results (drafts_of ds) more
  drafts-more v more h =
      changed v ∙ ap (λ ns. drafts_of front ++ (d.at, ns) ∷ []) h
      ∙ sym (with_results-last (drafts_of front) (d.at, d.numbers.items) more)
      ∙ ap (λ ds. with_results ds more) (sym parted)

  -- they are the same
  pub drafts-same : (v : Vec ℕ Global) → v.items ≡ d.numbers.items → drafts_of (set ds (n - 1) (record { at = d.at; numbers = v })) ≡ drafts_of ds
  drafts-same v h = changed v ∙ ap (λ ns. drafts_of front ++ (d.at, ns) ∷ []) h ∙ sym parted

-- a number that is told from nothing is some
pub some-unless : (n : ℕ) → (n == 0) ≡ false → 0 < n
some-unless zero h = cc
some-unless (suc n) h = omega arith

-- there are as many
pub length-drafts : (ds : List Draft) → length (drafts_of ds) ≡ length ds
length-drafts [] = refl
length-drafts (d ∷ ds) = ap suc (length-drafts ds)

-- two lists that are one from a place on have one item there, and are one from the next on
module _ {X : Type 0} (xs ys : List X) (i : ℕ) (same : drop i xs ≡ drop i ys) where
  drop-next : (zs : List X) (i : ℕ) → drop 1 (drop i zs) ≡ drop (suc i) zs
  drop-next [] zero = refl
  drop-next [] (suc i) = refl
  drop-next (z ∷ zs) zero = refl
  drop-next (z ∷ zs) (suc i) = drop-next zs i

  pub same-next : (d : X) → get_or xs i d ≡ get_or ys i d
  same-next d =
      let at : i + 0 ≡ i = add-zero i in
      ap (λ k. get_or xs k d) (sym at) ∙ sym (get_or-drop i xs 0 d) ∙ ap (λ zs. get_or zs 0 d) same ∙ get_or-drop i ys 0 d ∙ ap (λ k. get_or ys k d) at

  pub same-rest : drop (i + 1) xs ≡ drop (i + 1) ys
  same-rest =
      let step : i + 1 ≡ suc i = omega arith in
      ap (λ k. drop k xs) step ∙ sym (drop-next xs i) ∙ ap (drop 1) same ∙ drop-next ys i ∙ ap (λ k. drop k ys) (sym step)
