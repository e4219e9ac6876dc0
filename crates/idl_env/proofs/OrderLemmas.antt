-- Open scopes that are compared from the innermost on.
use Rattle.std.proofs.Common.{◌≡◌, ◌&&◌, ◌∙◌, ℕ, Bool, List, [], ◌∷◌, Option, Some, None, ap, false, length, nat_eq, refl, slice_get, sym, true, true≢false}
use Rattle.std.proofs.lemmas.Option.{same_Some}
use Rattle.std.specs.Cmp.Lexicographic.{lists_equiv, nat_list_eq_equiv, pointwise, slice_cmp}
use Rattle.std.specs.Ordering.{is_eq, ordering_then}
use Rattle.std.specs.declared.cmp.Ordering.{Ordering}
use Rattle.std.specs.declared.cmp.Ordering.TheVariants.{Less, Equal, Greater}
use Rattle.idl_base.proofs.Exactness.{cmp_exact}
use Rattle.idl_entity.specs.Path.{path_eq, scope_of}
use Rattle.idl_env.specs.answering.OpenScopes.{BeginApart, BeginAtOnePath, IsChild}
use Rattle.idl_env.specs.answering.Scope.{same_scope, scope_eq}
use Rattle.idl_env.specs.contracts.answering.answer.ScopeOrd.TheImpl.{ghosts as scopes}
use Rattle.idl_env.specs.contracts.answering.answer.ScopeOrd.TheImpl.Laws.{matches_eq-law as scope_ties, total-law as scope_total}
use Rattle.idl_env.specs.declared.answering.answer.Scope.{Scope}

-- ---- two that are the same

-- paths that are one need not be compared
pub one_path : (p q : List (List ℕ)) → p ≡ q → path_eq p q ≡ true
one_path p q h = ap (path_eq p) (sym h) ∙ (lists_equiv nat_list_eq_equiv).refl p

pub same-behind : (s t : Scope) (xs ys : List Scope) → scope_eq s t ≡ true
    → pointwise scope_eq xs ys ≡ pointwise scope_eq (s ∷ xs) (t ∷ ys)
same-behind s t xs ys h = ap (λ b. b && pointwise scope_eq xs ys) (sym h)

pub order-behind : (s t : Scope) (xs ys : List Scope) → scope_eq s t ≡ true
    → slice_cmp scopes.cmp xs ys ≡ slice_cmp scopes.cmp (s ∷ xs) (t ∷ ys)
order-behind s t xs ys h =
    let tied = (cmp_exact scope_eq scopes.cmp scope_total scope_ties same_scope s t (scopes.cmp s t) refl).1 (same_scope s t h) in
    ap (λ o. ordering_then o (slice_cmp scopes.cmp xs ys)) (sym tied)

-- whose paths are those of names in the next ones
pub path-behind : (s t : Scope) (xs ys : List Scope) → scope_eq s t ≡ true
    → IsChild s.path xs → IsChild t.path ys → BeginAtOnePath xs ys
path-behind s t [] ys h a b = tt
path-behind s t (x ∷ xs) [] h a b = tt
path-behind s t (x ∷ xs) (y ∷ ys) h a b = a ∙ ap (λ (r : Scope). scope_of r.path) (same_scope s t h) ∙ sym b

-- ---- two that are not

decided : (o p : Ordering) → (o ≡ Equal → ⊥) → ordering_then o p ≡ o
decided Less p u = refl
decided Equal p u = absurd (u refl)
decided Greater p u = refl

order-apart : (s t : Scope) (xs ys : List Scope) → scope_eq s t ≡ false
    → slice_cmp scopes.cmp (s ∷ xs) (t ∷ ys) ≡ scopes.cmp s t
order-apart s t xs ys h =
    decided (scopes.cmp s t) (slice_cmp scopes.cmp xs ys) (λ e. true≢false (sym (ap is_eq e) ∙ sym (scope_ties s t) ∙ h))

pub order-first : (these those : List Scope) (s t : Scope) → Some s ≡ slice_get these 0
    → Some t ≡ slice_get those 0 → BeginApart these those
    → scopes.cmp s t ≡ slice_cmp scopes.cmp these those
order-first [] those s t a b h = absurd (cc)
order-first (x ∷ xs) [] s t a b h = absurd (cc)
order-first (x ∷ xs) (y ∷ ys) s t a b h =
    (λ i. scopes.cmp (same_Some s x a i) (same_Some t y b i)) ∙ sym (order-apart x y xs ys h)
