-- Queries that ask seen keys alone.
use Rattle.std.proofs.Common.{◌≡◌, List, [], ◌∷◌, ◌++◌, Option, refl, sym, subst}
use Rattle.std.specs.Prelude.{All, Contains}
use Rattle.std.proofs.lemmas.List.Elements.{All-append, All-cons, All-contains, All-contains_itself, All-nil, All-weaker, Contains-append_left, Contains-append_right, Contains-push}
use Rattle.idl_env.specs.declared.answering.answer.Answer.{Answer}
use Rattle.idl_env.specs.declared.keys.key.Key.{Key}
use Rattle.idl_memo.proofs.QueryLaws.{asked-and_then}
use Rattle.idl_memo.specs.Query.{Done, and_then, asked, outcome}
use Rattle.idl_block.specs.facts.Answered.{Asking, mapped}

-- each of these keys is one of those
abbrev pub AreIn : List Key → List Key → Type 0
AreIn keys others = All (Contains others) keys

pub in-itself : (keys : List Key) → AreIn keys keys
in-itself keys = All-contains_itself keys

pub in-more : (keys others more : List Key) → AreIn keys others → AreIn keys (others ++ more)
in-more keys others more all = All-weaker (Contains others) (Contains (others ++ more)) (λ k h. Contains-append_left others more k h) keys all

pub in-on : (keys others more : List Key) → AreIn keys others → AreIn others more → AreIn keys more
in-on keys others more first then = All-weaker (Contains others) (Contains more) (λ k h. All-contains (Contains more) others k then h) keys first

pub in-push : (keys others : List Key) (k : Key) → AreIn keys others → AreIn (keys ++ k ∷ []) (others ++ k ∷ [])
in-push keys others k all =
    All-append (Contains (others ++ k ∷ [])) keys (k ∷ []) (in-more keys others (k ∷ []) all)
    (All-cons (Contains (others ++ k ∷ [])) k [] (Contains-push others k) (All-nil (Contains (others ++ k ∷ []))))

pub in-with : (keys others : List Key) (k : Key) → AreIn keys others → Contains others k → AreIn (keys ++ k ∷ []) others
in-with keys others k all there = All-append (Contains others) keys (k ∷ []) all (All-cons (Contains others) k [] there (All-nil (Contains others)))

module _ {X : Type 0} (P : X → Type 0) (xs ys : List X) where
  pub All-left : All P (xs ++ ys) → All P xs
  All-left all = All-weaker (Contains xs) P (λ x h. All-contains P (xs ++ ys) x all (Contains-append_left xs ys x h)) xs (All-contains_itself xs)

  pub All-right : All P (xs ++ ys) → All P ys
  All-right all = All-weaker (Contains ys) P (λ x h. All-contains P (xs ++ ys) x all (Contains-append_right xs ys x h)) ys (All-contains_itself ys)

module _ (bank : Key → Option Answer) where
  -- over the bank it asks seen keys alone
  abbrev pub Sees : {A : Type 0} → List Key → Asking A → Type 0
  Sees seen query = AreIn (asked query bank) seen

  pub sees-done : {A : Type 0} (seen : List Key) (a : A) → Sees {A = A} seen (Done a)
  sees-done seen a = All-nil (Contains seen)

  -- one that asks nothing
  pub sees-nothing : {A : Type 0} (seen : List Key) (query : Asking A) → asked query bank ≡ [] → Sees seen query
  sees-nothing seen query none = subst (All (Contains seen)) (sym none) (All-nil (Contains seen))

  pub sees-in : {A : Type 0} (seen others : List Key) (query : Asking A) → AreIn seen others → Sees seen query → Sees others query
  sees-in seen others query all sees = in-on (asked query bank) seen others sees all

  pub sees-more : {A : Type 0} (seen more : List Key) (query : Asking A) → Sees seen query → Sees (seen ++ more) query
  sees-more seen more query sees = in-more (asked query bank) seen more sees

  -- one after another
  pub sees-then : {A B : Type 0} (seen : List Key) (query : Asking A) (f : A → Asking B) (a : A) → outcome query bank ≡ a
      → Sees seen query → Sees seen (f a) → Sees seen (and_then query f)
  sees-then seen query f a is first next =
      subst (All (Contains seen)) (sym (asked-and_then query f bank))
      (All-append (Contains seen) (asked query bank) (asked (f (outcome query bank)) bank) first (subst (λ v. Sees seen (f v)) (sym is) next))

  pub sees-mapped : {A B : Type 0} (seen : List Key) (f : A → B) (query : Asking A) → Sees seen query → Sees seen (mapped f query)
  sees-mapped {A} {B} seen f query sees = sees-then seen query (λ a. Done (f a)) (outcome query bank) refl sees (sees-done {A = B} seen (f (outcome query bank)))

  -- the first of two, and the second
  pub sees-first : {A B : Type 0} (seen : List Key) (query : Asking A) (f : A → Asking B) → Sees seen (and_then query f) → Sees seen query
  sees-first seen query f sees =
      All-left (Contains seen) (asked query bank) (asked (f (outcome query bank)) bank) (subst (All (Contains seen)) (asked-and_then query f bank) sees)

  pub sees-second : {A B : Type 0} (seen : List Key) (query : Asking A) (f : A → Asking B) (a : A) → outcome query bank ≡ a → Sees seen (and_then query f) → Sees seen (f a)
  sees-second seen query f a is sees =
      subst (λ v. Sees seen (f v)) is
      (All-right (Contains seen) (asked query bank) (asked (f (outcome query bank)) bank) (subst (All (Contains seen)) (asked-and_then query f bank) sees))

  -- a key that the second asks
  pub asks-second : {A B : Type 0} (query : Asking A) (f : A → Asking B) (a : A) (k : Key) → outcome query bank ≡ a → Contains (asked (f a) bank) k → Contains (asked (and_then query f) bank) k
  asks-second query f a k is there =
      subst (λ ks. Contains ks k) (sym (asked-and_then query f bank))
      (Contains-append_right (asked query bank) (asked (f (outcome query bank)) bank) k (subst (λ v. Contains (asked (f v) bank) k) (sym is) there))

  -- and one that the first asks
  pub asks-first : {A B : Type 0} (query : Asking A) (f : A → Asking B) (k : Key) → Contains (asked query bank) k → Contains (asked (and_then query f) bank) k
  asks-first query f k there =
      subst (λ ks. Contains ks k) (sym (asked-and_then query f bank)) (Contains-append_left (asked query bank) (asked (f (outcome query bank)) bank) k there)
