use Rattle.std.proofs.Common.{◌≡◌, ◌++◌, ◌∷◌, ◌∙◌, [], ap, length, rules, subst, sym}
use Rattle.std.specs.Prelude.{IfOk, IfSome}
use Rattle.idl_env.specs.Facts.{answers}
use Rattle.idl_kept.specs.Texts.{DeclarationResult, Texts}
use Rattle.idl_memo.specs.declared.task.TaskKind.TheVariants.{Check}
use Rattle.idl_store.specs.Stored.{Stored}
use Rattle.idl_root.specs.Followed.{IsDeclarationLast, IsFollowed, IsNext, UnitsOnly}
use Rattle.idl_root_blocks.specs.idl_check.walk.Verdict.{verdict_over}
use Rattle.idl_root_blocks.specs.Places.{DeclarationPlace, declaration_result}
use Rattle.idl_root.proofs.TakenLemmas.{at-none, at-some, some-weaker, taken-last}
use Rattle.idl_root.proofs.kept.keeping.Keeping.judged.Goals as goal

pub returns-in_ok-self-in-Some-clause-obtained : goal.returns-in_ok-self-in-Some-clause-obtained
returns-in_ok-self-in-Some-clause-obtained c =
    let env = c.args.env.now in
    let place : DeclarationPlace = (c.args.text.now, answers env) in
    let taken = at-some c.in_ok-declaration.field-0 c.in-Some.declaration _ c.in-Some.is c.in_ok-declaration.ensures.again c.args.self.now.earlier env c.requires in
    let asked : c.unit_keys.result ≡ length c.in-Some.declaration.value.log = search rules in
    let keys : c.unit_keys.result ≡ length (declaration_result place).log = asked ∙ ap (λ (k : DeclarationResult). length k.log) taken.result_is in
    taken-last Check place (declaration_result place) c.args.self.now.meter c.compare.new.self c.unit_keys.result keys c.compare.ensures taken

pub returns-in_ok-self-in-Some-clause-lists : goal.returns-in_ok-self-in-Some-clause-lists
returns-in_ok-self-in-Some-clause-lists c =
    ap (λ (s : Stored DeclarationResult). s.lists) (at-some c.in_ok-declaration.field-0 c.in-Some.declaration _ c.in-Some.is c.in_ok-declaration.ensures.again c.args.self.now.earlier c.args.env.now c.requires).new_is

pub returns-in_ok-self-in-Some-clause-follows : goal.returns-in_ok-self-in-Some-clause-follows
returns-in_ok-self-in-Some-clause-follows c =
    let env = c.args.env.now in
    let before = c.args.following in
    let lists = c.args.kept.now.declarations.lists in
    let earlier = c.args.self.now.earlier in
    let taken = at-some c.in_ok-declaration.field-0 c.in-Some.declaration _ c.in-Some.is c.in_ok-declaration.ensures.again earlier env c.requires in
    let shown : c.get-facts.result.now ≡ c.in-Some.declaration.value.out.writes = search rules in
    let facts : c.get-facts.result.now ≡ (verdict_over env c.args.text.now).writes = shown ∙ ap (λ (k : DeclarationResult). k.out.writes) taken.result_is in
    let next : IsNext lists c.get-facts.result.now before.course = subst (λ w. IsNext lists w before.course) (sym shown) (at-some c.in_ok-declaration.field-0 c.in-Some.declaration _ c.in-Some.is c.in_ok-declaration.ensures.next) in
    let own = c.in_ok-self-in-Some.field-0 in
    subst (λ (s : Stored DeclarationResult). IfSome own (λ f. IsFollowed s.lists earlier f (env ++ (verdict_over env c.args.text.now).writes ∷ []))) (sym taken.new_is)
    (some-weaker own _ _ (λ f more. subst (λ w. IsFollowed lists earlier f (env ++ w ∷ [])) facts (more lists earlier next c.requires)) c.in_ok-self-in-Some.ensures)

pub returns-in_err-self-in-Some-clause-lists : goal.returns-in_err-self-in-Some-clause-lists
returns-in_err-self-in-Some-clause-lists c =
    ap (λ (s : Stored DeclarationResult). s.lists) (at-some c.in_ok-declaration.field-0 c.in-Some.declaration _ c.in-Some.is c.in_ok-declaration.ensures.again c.args.self.now.earlier c.args.env.now c.requires).new_is

pub returns-in-None-clause-obtained : goal.returns-in-None-clause-obtained
returns-in-None-clause-obtained c =
    let place : DeclarationPlace = (c.args.text.now, answers c.args.env.now) in
    subst
    (λ (t : Texts). IfOk c.judged_anew.result (λ found.
    IsDeclarationLast place t.declarations c.judged_anew.new.kept.declarations c.args.self.now.meter c.judged_anew.new.self.meter found.value))
    (at-none c.in_ok-declaration.field-0 _ c.in-None.is c.in_ok-declaration.ensures.none) c.judged_anew.ensures.obtained

pub returns-in-None-clause-units : goal.returns-in-None-clause-units
returns-in-None-clause-units c =
    subst (λ (t : Texts). UnitsOnly t c.judged_anew.new.kept) (at-none c.in_ok-declaration.field-0 _ c.in-None.is c.in_ok-declaration.ensures.none) c.judged_anew.ensures.units
