-- What the use of a name adds, as it is put in.
use Rattle.std.proofs.Common.{◌≡◌, ℕ, zero, suc, ◌+◌, false, cond, List, [], ◌∷◌, ◌++◌, map, drop, take, Option, None, Some, refl, sym, ap, ◌∙◌, append-nil, arith}
use Rattle.std.specs.Prelude.{fold, is_some}
use Rattle.idl_check.specs.tables.Using.{further_uses, uses_of, with_uses}
use Rattle.idl_env.specs.Facts.{addition_at, answer_of, entity_in, key_of, over, with_addition}
use Rattle.idl_env.specs.keys.Key.{key_eq}
use Rattle.idl_env.specs.declared.additions.addition.Addition.{Addition}
use Rattle.idl_env.specs.declared.additions.addition.Addition.TheVariants.{Uses}
use Rattle.idl_env.specs.declared.answering.answer.Answer.{Answer}
use Rattle.idl_env.specs.declared.answering.answer.Scope.{Scope}
use Rattle.idl_env.specs.declared.keys.key.Key.{Key}
use Rattle.idl_env.specs.declared.keys.key.Key.TheVariants.{Declared}
use Rattle.idl_scope.specs.Meaning.{own_at, undeclared}
use Rattle.idl_env.proofs.FirstLemmas.{addition_at-with_addition}
use Rattle.idl_scope.specs.declared.found.Reach.{Reach}

-- none of these declares a name
abbrev pub DeclareNone : List Addition → Type 0
DeclareNone [] = Unit {0}
DeclareNone (a ∷ additions) = ((m : List ℕ) (q : List (List ℕ)) → key_eq (Declared m q) (key_of a) ≡ false) × DeclareNone additions

none-append : (xs ys : List Addition) → DeclareNone xs → DeclareNone ys → DeclareNone (xs ++ ys)
none-append [] ys h g = g
none-append (x ∷ xs) ys h g = (h.0, none-append xs ys h.1 g)

certain-none : (n : List ℕ) (ss : List Scope) → DeclareNone (map (λ s. Uses n s.path s.body) ss)
certain-none n [] = tt
certain-none n (s ∷ ss) = (λ m q. refl, certain-none n ss)

further-none : (n : List ℕ) (before : List (List (List ℕ))) (ss : List Scope) → DeclareNone (further_uses n before ss)
further-none n before [] = tt
further-none n before (s ∷ ss) = (λ m q. refl, further-none n (before ++ s.path ∷ []) ss)

-- a use declares nothing
pub uses-none : (n : List ℕ) (r : Reach) (scopes : List Scope) (own : List Addition) → DeclareNone (uses_of n r scopes own)
uses-none n r scopes own =
    let left = undeclared (λ k. over own k None) n (take r.further (drop r.certain scopes)) in
    none-append (map (λ s. Uses n s.path s.body) (take r.certain scopes)) (further_uses n [] left) (certain-none n (take r.certain scopes)) (further-none n [] left)

-- past the first
drop-past : {A : Type 0} (y : A) (ys : List A) (i k : ℕ) → k ≡ suc i → drop k (y ∷ ys) ≡ drop i ys
drop-past y ys i k h = rw h refl

-- behind one more
pub drop-next : {A : Type 0} (xs : List A) (i : ℕ) (x : A) (rest : List A) → drop i xs ≡ x ∷ rest → rest ≡ drop (i + 1) xs
drop-next [] zero x rest h = cc
drop-next [] (suc i) x rest h = cc
drop-next (y ∷ ys) zero x rest h = cc
drop-next (y ∷ ys) (suc i) x rest h = drop-next ys i x rest h ∙ sym (drop-past y ys (i + 1) (suc i + 1) (omega arith))

-- those that are put in one list after the other
pub fold-append : (own xs ys : List Addition) → fold with_addition own (xs ++ ys) ≡ fold with_addition (fold with_addition own xs) ys
fold-append own [] ys = refl
fold-append own (x ∷ xs) ys = fold-append (with_addition own x) xs ys

-- what is declared stays so
pub none-own : (n : List ℕ) (uses : List Addition) → DeclareNone uses → (own : List Addition) (path : List (List ℕ))
    → addition_at (fold with_addition own uses) (Declared n path) ≡ addition_at own (Declared n path)
none-own n [] none own path = refl
none-own n (a ∷ uses) none own path =
    none-own n uses none.1 (with_addition own a) path
    ∙ addition_at-with_addition own a (Declared n path)
    ∙ ap (λ t. cond t (Some a) (addition_at own (Declared n path))) (none.0 n path)

pub own-none : (n : List ℕ) (uses : List Addition) → DeclareNone uses → (own : List Addition) (path : List (List ℕ))
    → own_at (λ k. over (fold with_addition own uses) k None) n path ≡ own_at (λ k. over own k None) n path
own-none n uses none own path =
    ap (λ o. entity_in (elim o as (λ _. Option Answer) [ None ↦ None | Some a ↦ Some (answer_of a) ])) (none-own n uses none own path)

-- so the same scopes declare nothing
pub undeclared-same : (answers other : Key → Option Answer) (n : List ℕ) → ((path : List (List ℕ)) → own_at other n path ≡ own_at answers n path)
    → (scopes : List Scope) → undeclared other n scopes ≡ undeclared answers n scopes
undeclared-same answers other n h [] = refl
undeclared-same answers other n h (s ∷ scopes) =
    ap (λ o. cond (is_some o) [] (s ∷ undeclared other n scopes)) (h s.path)
    ∙ ap (λ ss. cond (is_some (own_at answers n s.path)) [] (s ∷ ss)) (undeclared-same answers other n h scopes)

-- a use that goes on where it goes for certain comes to the whole
pub uses-parted : (n : List ℕ) (r : Reach) (scopes left : List Scope) (own : List Addition) → left ≡ drop r.certain scopes
    → let certain = fold with_addition own (map (λ s. Uses n s.path s.body) (take r.certain scopes)) in
    fold with_addition certain (further_uses n [] (undeclared (λ k. over certain k None) n (take r.further left))) ≡ with_uses n r scopes own
uses-parted n r scopes left own is =
    let uses = map (λ s. Uses n s.path s.body) (take r.certain scopes) in
    let certain = fold with_addition own uses in
    let ss = take r.further (drop r.certain scopes) in
    ap (λ l. fold with_addition certain (further_uses n [] (undeclared (λ k. over certain k None) n (take r.further l)))) is
    ∙ ap (λ l. fold with_addition certain (further_uses n [] l)) (undeclared-same (λ k. over own k None) (λ k. over certain k None) n (own-none n uses (certain-none n (take r.certain scopes)) own) ss)
    ∙ sym (fold-append own uses (further_uses n [] (undeclared (λ k. over own k None) n ss)))

-- and one that doesn't go on
pub uses-certain : (n : List ℕ) (r : Reach) (scopes : List Scope) (own : List Addition) → r.further ≡ 0
    → fold with_addition own (map (λ s. Uses n s.path s.body) (take r.certain scopes)) ≡ with_uses n r scopes own
uses-certain n r scopes own none =
    let uses = map (λ s. Uses n s.path s.body) (take r.certain scopes) in
    sym (ap (fold with_addition own)
    (ap (λ k. uses ++ further_uses n [] (undeclared (λ q. over own q None) n (take k (drop r.certain scopes)))) none ∙ append-nil uses))

-- where nothing is declared
pub is_none : {A : Type 0} (o : Option A) → is_some o ≡ false → o ≡ None
is_none None h = refl
is_none (Some a) h = cc

-- none is left, where no scope is
pub uses-ended : (answers : Key → Option Answer) (n : List ℕ) (before : List (List (List ℕ))) (scopes : List Scope) (own all : List Addition) → undeclared answers n scopes ≡ []
    → fold with_addition own (further_uses n before (undeclared answers n scopes)) ≡ all → own ≡ all
uses-ended answers n before scopes own all none h = sym (ap (λ ss. fold with_addition own (further_uses n before ss)) none) ∙ h

pub take-none : {A : Type 0} (k : ℕ) → take {A = A} k [] ≡ []
take-none zero = refl
take-none (suc k) = refl
