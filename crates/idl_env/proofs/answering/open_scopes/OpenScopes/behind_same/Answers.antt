use Rattle.std.proofs.Common.{◌≡◌, ◌∙◌, IsTrue, List, ◌∷◌, ap, subst, sym, true, true≢false}
use Rattle.std.specs.Cmp.Lexicographic.{pointwise, slice_cmp}
use Rattle.idl_env.specs.answering.Scope.{scope_eq}
use Rattle.idl_env.specs.contracts.answering.answer.ScopeOrd.TheImpl.{ghosts as scopes}
use Rattle.idl_env.specs.declared.answering.answer.Scope.{Scope}
use Rattle.idl_env.proofs.OrderLemmas.{order-behind, path-behind, same-behind}
use Rattle.idl_env.proofs.answering.open_scopes.OpenScopes.behind_same.Goals as goal
use Rattle.idl_env.proofs.answering.open_scopes.OpenScopes.behind_same.Goals.{then-first, else-first}

pub scopes-preserved : goal.scopes-preserved
scopes-preserved c =
    let own = c.first-in-Some-2.inside in
    let other = c.beside.inside in
    let mine : own.scope ∷ own.outer ≡ c.scopes.mine.now =
    ap (λ (o : Scope × List Scope). o.0 ∷ o.1) c.first-in-Some-2.view_is ∙ sym c.in-Some.ensures.some in
    let theirs : other.scope ∷ other.outer ≡ c.scopes.theirs.now =
    ap (λ (o : Scope × List Scope). o.0 ∷ o.1) c.beside.view_is ∙ sym c.in-Some-first.ensures.some in
    let same : scope_eq own.scope other.scope ≡ true =
    (λ i. scope_eq (c.first-in-Some-2.view_is i).0 (c.beside.view_is i).0) ∙ sym c.is_same.ensures ∙ c.if-not-is_same.false in
    record {
      same = same-behind own.scope other.scope own.outer other.outer same ∙ (λ i. pointwise scope_eq (mine i) (theirs i)) ∙ c.scopes.invariant.same;
      order = order-behind own.scope other.scope own.outer other.outer same ∙ (λ i. slice_cmp scopes.cmp (mine i) (theirs i)) ∙ c.scopes.invariant.order;
      path = λ known. elim c.if-first.branch [
        | then-first w ↦ path-behind own.scope other.scope own.outer other.outer same
            (c.first-in-Some-2.invariant.1.1 w.if-first.true) (c.beside.invariant.1.1 (sym w.is_one_path-is ∙ known))
        | else-first w ↦ absurd (true≢false (sym known ∙ w.is_one_path-is ∙ w.if-first.false))
      ];
    }
