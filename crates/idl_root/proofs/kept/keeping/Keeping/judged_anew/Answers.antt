use Rattle.std.proofs.Common.{◌≡◌, ◌++◌, ◌∷◌, ◌∙◌, [], ap, rules, subst, sym}
use Rattle.idl_root.specs.Followed.{IsFollowed}
use Rattle.idl_root_blocks.specs.idl_check.walk.Verdict.{verdict_over}
use Rattle.idl_kept.specs.Texts.{DeclarationResult}
use Rattle.idl_root.specs.declared.kept.keeping.Keeping.{Keeping}
use Rattle.idl_root.proofs.TakenLemmas.{some-weaker}
use Rattle.idl_store.specs.Stored.{Stored}
use Rattle.idl_root.proofs.kept.keeping.Keeping.judged_anew.Goals as goal

pub returns-clause-follows : goal.returns-clause-follows
returns-clause-follows c =
    let env = c.args.env.now in
    let before = c.args.following in
    let kept = c.obtained.new.kept.declarations in
    let store = c.declarations.result.now in
    let earlier = c.obtained.new.self.earlier in
    let shown : c.get-facts.result.now ≡ c.in_ok-declaration.declaration.value.out.writes = search rules in
    let facts : c.get-facts.result.now ≡ (verdict_over env c.args.text.now).writes =
    shown ∙ ap (λ (k : DeclarationResult). k.out.writes) c.in_ok-declaration.ensures.obtained.result_is in
    let same : c.obtained.new.self.earlier ≡ c.args.self.now.earlier = ap (λ (k : Keeping). k.earlier) c.obtained.ensures.rest in
    let own : IsFollowed kept.lists earlier before env =
    subst (λ e. IsFollowed kept.lists e before env) (sym same) (subst (λ ls. IsFollowed ls c.args.self.now.earlier before env) (sym c.obtained.ensures.lists) c.requires) in
    let there : IsFollowed store.lists earlier before env = subst (λ (s : Stored DeclarationResult). IsFollowed s.lists earlier before env) (sym c.declarations.ensures) own in
    some-weaker c.in_ok-self.field-0 _ _
    (λ f more. subst (λ (s : Stored DeclarationResult). IsFollowed s.lists earlier f (env ++ (verdict_over env c.args.text.now).writes ∷ [])) c.declarations.ensures
    (subst (λ w. IsFollowed store.lists earlier f (env ++ w ∷ [])) facts (more earlier there)))
    c.in_ok-self.ensures
