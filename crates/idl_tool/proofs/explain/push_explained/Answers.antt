use Rattle.std.proofs.Common.{◌≡◌, ◌∷◌, [], ℕ, Bor, List, map, subst, sym}
use Rattle.std.proofs.lemmas.List.{nil_from_length}
use Rattle.std.proofs.lemmas.Result.{on_ok_weaker}
use Rattle.idl_tool.specs.Answered.{AreExplained}
use Rattle.idl_tool.proofs.explain.push_explained.Goals as goal

pub returns-in_default : goal.returns-in_default
returns-in_default c =
    let none : c.args.words.now ≡ [] = nil_from_length c.args.words.now (rw c.in_default.is at c.split_first.ensures.cases) in
    subst (λ (ws : List (Bor (List ℕ))). AreExplained (map (λ (w : Bor (List ℕ)). w.now) ws) c.args.out.now.items c.push_all.new.out.items) (sym none) c.in_ok-push_all.ensures

pub returns : goal.returns
returns c =
    let split : c.args.words.now ≡ c.in-Some.first.now ∷ c.in-Some.others.now = c.in-Some.ensures.cases.0 in
    on_ok_weaker c.push_others.result
    (λ others. subst (λ (ws : List (Bor (List ℕ))). AreExplained (map (λ (w : Bor (List ℕ)). w.now) ws) c.args.out.now.items c.push_others.new.out.items) (sym split)
    (c.push_named.new.out.items, c.in_ok-push_named.ensures, others)) c.push_others.ensures
