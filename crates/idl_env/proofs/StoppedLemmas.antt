-- Uses that are stopped, and additions without them.
use Rattle.std.proofs.Common.{◌≡◌, ℕ, Bool, true, false, cond, List, [], ◌∷◌, ◌++◌, map, Option, Some, refl, sym, ap, ◌∙◌, inl, inr}
use Rattle.std.specs.Prelude.{◌||◌, flat_map, is_some, not}
use Rattle.std.specs.List.{list_any}
use Rattle.idl_env.specs.Facts.{answer_of, entity_in, is_stopped, key_of, over, stops_of, unstopped}
use Rattle.idl_env.specs.keys.Key.{key_eq}
use Rattle.idl_env.specs.declared.additions.addition.Addition.{Addition}
use Rattle.idl_env.specs.declared.additions.addition.Addition.TheVariants.{Declares, UsesFurther}
use Rattle.idl_env.specs.declared.answering.answer.Answer.{Answer}
use Rattle.idl_env.specs.declared.keys.key.Key.{Key}
use Rattle.idl_env.specs.declared.keys.key.Key.TheVariants.{Declared}
use Rattle.idl_env.proofs.AnswerLaws.AnswerLemmas.{over-cons}
use Rattle.idl_env.proofs.Membership.{IsIn, IsIn-left, IsIn-right}

nothing_left : {A : Type 0} (xs ys : List A) → xs ++ ys ≡ [] → (xs ≡ []) × (ys ≡ [])
nothing_left [] ys h = (refl, h)
nothing_left (x ∷ xs) ys h = cc

module _ (answers : Key → Option Answer) where
  -- additions of which this is the first, where it is stopped, and where it isn't
  pub unstopped-cons : (a : Addition) (additions : List Addition) (b : Bool) → is_stopped answers a ≡ b
      → unstopped answers (a ∷ additions) ≡ cond (not b) (a ∷ unstopped answers additions) (unstopped answers additions)
  unstopped-cons a additions b h = ap (λ t. cond (not t) (a ∷ unstopped answers additions) (unstopped answers additions)) h

  -- none is stopped where none may be
  pub unstopped_all : (additions : List Addition) → flat_map stops_of additions ≡ [] → unstopped answers additions ≡ additions
  unstopped_all [] h = refl
  unstopped_all (a ∷ additions) h =
      let parts = nothing_left (stops_of a) (flat_map stops_of additions) h in
      unstopped-cons a additions false (ap (list_any (λ k. is_some (entity_in (answers k)))) parts.0)
      ∙ ap (λ more. a ∷ more) (unstopped_all additions parts.1)

  -- those that are not stopped are among them
  pub unstopped-in : (a : Addition) (additions : List Addition) → IsIn a (unstopped answers additions) → IsIn a additions
  unstopped-in a [] i = i
  unstopped-in a (b ∷ additions) i = by (is_stopped answers b) (unstopped-in a additions) i
    where
      by : (t : Bool) → (IsIn a (unstopped answers additions) → IsIn a additions) → IsIn a (cond (not t) (b ∷ unstopped answers additions) (unstopped answers additions)) → IsIn a (b ∷ additions)
      by true rest j = inr (rest j)
      by false rest (inl h) = inl h
      by false rest (inr j) = inr (rest j)

  -- nor is there another key
  pub unstopped-keys : (k : Key) (additions : List Addition) → IsIn k (map key_of (unstopped answers additions)) → IsIn k (map key_of additions)
  unstopped-keys k [] i = i
  unstopped-keys k (b ∷ additions) i = by (is_stopped answers b) (unstopped-keys k additions) i
    where
      by : (t : Bool) → (IsIn k (map key_of (unstopped answers additions)) → IsIn k (map key_of additions))
          → IsIn k (map key_of (cond (not t) (b ∷ unstopped answers additions) (unstopped answers additions))) → IsIn k (map key_of (b ∷ additions))
      by true rest j = inr (rest j)
      by false rest (inl h) = inl h
      by false rest (inr j) = inr (rest j)

  -- and each name is declared as with them
  pub declared-unstopped : (n : List ℕ) (path : List (List ℕ)) (additions : List Addition) (before : Option Answer)
      → over (unstopped answers additions) (Declared n path) before ≡ over additions (Declared n path) before
  declared-unstopped n path [] before = refl
  declared-unstopped n path (Declares e ∷ additions) before =
      over-cons (Declares e) (unstopped answers additions) (Declared n path) before
      ∙ ap (λ o. cond (key_eq (Declared n path) (key_of (Declares e))) (Some (answer_of (Declares e))) o) (declared-unstopped n path additions before)
      ∙ sym (over-cons (Declares e) additions (Declared n path) before)
  declared-unstopped n path (UsesFurther m q further ∷ additions) before = by (is_stopped answers (UsesFurther m q further)) (declared-unstopped n path additions before)
    where
      by : (t : Bool) → over (unstopped answers additions) (Declared n path) before ≡ over additions (Declared n path) before
          → over (cond (not t) (UsesFurther m q further ∷ unstopped answers additions) (unstopped answers additions)) (Declared n path) before ≡ over additions (Declared n path) before
      by true rest = rest
      by false rest = rest
  declared-unstopped n path (other ∷ additions) before = declared-unstopped n path additions before

-- over answers that are the same where it is told, the same are stopped
module _ (answers other : Key → Option Answer) where
  pub declared-same : (keys : List Key) → ((k : Key) → IsIn k keys → other k ≡ answers k)
      → list_any (λ k. is_some (entity_in (other k))) keys ≡ list_any (λ k. is_some (entity_in (answers k))) keys
  declared-same [] h = refl
  declared-same (k ∷ keys) h =
      ap (λ o. is_some (entity_in o) || list_any (λ q. is_some (entity_in (other q))) keys) (h k (inl refl))
      ∙ ap (λ b. is_some (entity_in (answers k)) || b) (declared-same keys (λ q i. h q (inr i)))

  pub unstopped-same : (additions : List Addition) → ((k : Key) → IsIn k (flat_map stops_of additions) → other k ≡ answers k) → unstopped other additions ≡ unstopped answers additions
  unstopped-same [] h = refl
  unstopped-same (a ∷ additions) h =
      unstopped-cons other a additions (is_stopped answers a) (declared-same (stops_of a) (λ k i. h k (IsIn-left k (stops_of a) (flat_map stops_of additions) i)))
      ∙ ap (λ more. cond (not (is_stopped answers a)) (a ∷ more) more) (unstopped-same additions (λ k i. h k (IsIn-right k (stops_of a) (flat_map stops_of additions) i)))
