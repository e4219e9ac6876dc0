-- Runs of steps, and logs by parts: what stands in front and what stands behind.
use Rattle.std.proofs.Common.{◌≡◌, ℕ, zero, suc, ◌+◌, ◌-◌, ◌<◌, ◌≤◌, Bool, true, false, List, [], ◌∷◌, ◌++◌, Option, None, Some, append_assoc, append-nil, drop, flat_map, length, length-append, refl, sym, subst, ap, take, unwrap_or, ◌∙◌, arith}
use Rattle.std.specs.Prelude.{IfSome}
use Rattle.std.proofs.Math.Seq.{drop-append_seam, take-append_seam}
use Rattle.std.proofs.lemmas.List.{length-take-le, take-append-drop}
use Rattle.std.proofs.lemmas.Grind.{flat_map-append}
use Rattle.std.specs.Option.{is_some, option_eq, option_map}
use Rattle.idl_memo.specs.Runs.{StandAt, first_other}

module _ {S E : Type 0} (f : S → List E) where
  -- one more in front of what is left
  pub more-entries : (entries : List E) (front : List S) (rest : List E) (s : S) (behind : List E) → entries ≡ flat_map f front ++ rest → rest ≡ f s ++ behind
      → entries ≡ flat_map f (front ++ s ∷ []) ++ behind
  more-entries entries front rest s behind whole here =
      whole
      ∙ ap (λ r. flat_map f front ++ r) here
      ∙ sym (append_assoc (flat_map f front) (f s) behind)
      ∙ ap (λ l. l ++ behind) (ap (λ l. flat_map f front ++ l) (sym (append-nil (f s))) ∙ sym (flat_map-append f front (s ∷ [])))

  -- what is left behind a step, by how many entries it stands for
  pub behind-step : (rest : List E) (s : S) (width : ℕ) → width ≡ length (f s) → ((behind : List E) × (rest ≡ f s ++ behind)) → (rest ≡ f s ++ drop width rest) × (length rest ≡ width + length (drop width rest))
  behind-step rest s width wide begins =
      let dropped : drop width rest ≡ begins.0 = ap (λ n. drop n rest) wide ∙ ap (drop (length (f s))) begins.1 ∙ drop-append_seam (f s) begins.0 in
      let whole = begins.1 ∙ ap (λ b. f s ++ b) (sym dropped) in
      let long = ap length whole ∙ length-append (f s) (drop width rest) in
      (whole, omega (arith, long, wide))

-- the first of so many, and those behind it
pub first-taken : {S : Type 0} (n : ℕ) (steps : List S) (s : S) (others : List S) → steps ≡ s ∷ others → (n ≡ 0 → ⊥) → take n steps ≡ s ∷ take (n - 1) others
first-taken zero steps s others is some = absurd (some refl)
first-taken (suc n) steps s others is some =
    let one : n ≡ suc n - 1 = omega arith in
    ap (take (suc n)) is ∙ ap (λ m. s ∷ take m others) one

-- none of so many, and none
pub zero-taken : {S : Type 0} (n : ℕ) (steps : List S) → n ≡ 0 → take n steps ≡ []
zero-taken n steps none = ap (λ m. take m steps) none

pub none-taken : {S : Type 0} (n : ℕ) (steps : List S) → steps ≡ [] → take n steps ≡ []
none-taken zero steps none = refl
none-taken (suc n) steps none = ap (take (suc n)) none

-- one step more of some
pub next-taken : {S : Type 0} (n : ℕ) (steps : List S) (s : S) (others : List S) → drop n steps ≡ s ∷ others → (take (suc n) steps ≡ take n steps ++ s ∷ []) × (drop (suc n) steps ≡ others)
next-taken zero [] s others h = absurd (cc)
next-taken (suc n) [] s others h = absurd (cc)
next-taken zero (x ∷ steps) s others h = (cc, cc)
next-taken (suc n) (x ∷ steps) s others h = let r = next-taken n steps s others h in (ap (λ l. x ∷ l) r.0, r.1)

-- nothing stands for no entries
pub flat_map-none : {S E : Type 0} (f : S → List E) → ((s : S) → f s ≡ []) → (steps : List S) → flat_map f steps ≡ []
flat_map-none f none [] = refl
flat_map-none f none (s ∷ steps) = ap (λ l. l ++ flat_map f steps) (none s) ∙ flat_map-none f none steps

module _ {K V : Type 0} (eq : V → V → Bool) (bank : K → Option V) where
  -- where the answers in front are the bank's, those behind tell
  pub other-behind : (log more : List (K × Option V)) → first_other eq bank log ≡ None → first_other eq bank (log ++ more) ≡ first_other eq bank more
  other-behind [] more none = refl
  other-behind (e ∷ log) more none = by (option_eq eq e.1 (bank e.0)) refl (other-behind log more)
    where
      by : (b : Bool) → option_eq eq e.1 (bank e.0) ≡ b → (first_other eq bank log ≡ None → first_other eq bank (log ++ more) ≡ first_other eq bank more)
          → first_other eq bank ((e ∷ log) ++ more) ≡ first_other eq bank more
      by true h behind = rw h (behind (rw h at none))
      by false h behind =
          let wrong : Some (e.1, bank e.0) ≡ None = rw h at none in
          absurd (cc)

  -- where one in front isn't, it tells
  pub other-front : (log more : List (K × Option V)) → is_some (first_other eq bank log) ≡ true → first_other eq bank (log ++ more) ≡ first_other eq bank log
  other-front [] more some = let wrong : false ≡ true = some in absurd (cc)
  other-front (e ∷ log) more some = by (option_eq eq e.1 (bank e.0)) refl (other-front log more)
    where
      by : (b : Bool) → option_eq eq e.1 (bank e.0) ≡ b → (is_some (first_other eq bank log) ≡ true → first_other eq bank (log ++ more) ≡ first_other eq bank log)
          → first_other eq bank ((e ∷ log) ++ more) ≡ first_other eq bank (e ∷ log)
      by true h front = rw h (front (rw h at some))
      by false h front = rw h refl

-- what is told of what is there
pub some-mapped : {A B : Type 0} (f : A → B) (o : Option A) (p : Option B) → option_map f o ≡ p → is_some p ≡ is_some o
some-mapped f None p h = ap is_some (sym h)
some-mapped f (Some a) p h = ap is_some (sym h)

-- what isn't there
pub not-some : {A : Type 0} (o : Option A) → is_some o ≡ false → o ≡ None
not-some None h = refl
not-some (Some a) h = let wrong : true ≡ false = h in absurd (cc)

-- what is there
pub at-some : {A : Type 0} (o : Option A) (a : A) (P : A → Type 0) → o ≡ Some a → IfSome o P → P a
at-some o a P is h = subst (λ o. IfSome o P) is h

-- what is said of a number that is there holds of it, or else of 0
pub wide : (o : Option ℕ) (n : ℕ) (P : ℕ → Type 0) → n ≡ unwrap_or o 0 → 0 < n → IfSome o P → P n
wide None n P is some h = absurd (omega (arith, is, some))
wide (Some m) n P is some h = subst P (sym is) h

-- a number that isn't 0
pub above-zero : (n : ℕ) → (n ≡ 0 → ⊥) → 0 < n
above-zero zero h = absurd (h refl)
above-zero (suc n) h = omega arith

module _ {E : Type 0} where
  -- what stands among those stands among more
  stand_more : (place : ℕ) (these those : List E) (e : E) → StandAt place these those → StandAt place these (those ++ e ∷ [])
  stand_more place these those e s = record {
    before = s.before;
    behind = s.behind ++ e ∷ [];
    whole = ap (λ l. l ++ e ∷ []) s.whole ∙ append_assoc (s.before ++ these) s.behind (e ∷ []);
    place_is = s.place_is;
  }

  pub told_more : (told : Option (ℕ × List E)) (those more : List E) (e : E) → more ≡ those ++ e ∷ [] → IfSome told (λ t. StandAt t.0 t.1 those) → IfSome told (λ t. StandAt t.0 t.1 more)
  told_more None those more e is h = tt
  told_more (Some t) those more e is h = subst (StandAt t.0 t.1) (sym is) (stand_more t.0 t.1 those e h)

  -- what is behind so many is the last
  pub stand-last : (place : ℕ) (these those : List E) → place ≤ length those → drop place those ≡ these → StandAt place these those
  stand-last place these those within is = record {
    before = take place those;
    behind = [];
    whole = sym (take-append-drop place those) ∙ ap (λ l. take place those ++ l) is ∙ sym (append-nil (take place those ++ these));
    place_is = length-take-le place those within;
  }

  module _ (place : ℕ) (these those : List E) (s : StandAt place these those) where
    -- how many there are
    pub stand-long : length those ≡ place + (length these + length s.behind)
    stand-long = omega (arith, ap length s.whole, length-append (s.before ++ these) s.behind, length-append s.before these, s.place_is)

    -- those in front of it, and it with those behind it
    stand_parts : those ≡ s.before ++ (these ++ s.behind)
    stand_parts = s.whole ∙ append_assoc s.before these s.behind

    stand_front : take place those ≡ s.before
    stand_front = ap (take place) stand_parts ∙ ap (λ n. take n (s.before ++ (these ++ s.behind))) (sym s.place_is) ∙ take-append_seam s.before (these ++ s.behind)

    stand_rest : drop place those ≡ these ++ s.behind
    stand_rest = ap (drop place) stand_parts ∙ ap (λ n. drop n (s.before ++ (these ++ s.behind))) (sym s.place_is) ∙ drop-append_seam s.before (these ++ s.behind)

    -- all, by what is cut off
    pub stand-whole : take place those ++ these ++ drop (length these) (drop place those) ≡ those
    stand-whole =
        (λ i. stand_front i ++ these ++ (ap (drop (length these)) stand_rest ∙ drop-append_seam these s.behind) i)
        ∙ sym s.whole
