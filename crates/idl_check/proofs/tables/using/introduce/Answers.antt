use Rattle.std.proofs.Common.{◌≡◌, [], None, map, ◌∙◌, take}
use Rattle.std.specs.Prelude.{fold}
use Rattle.std.proofs.lemmas.Result.{IfOk-weaker}
use Rattle.idl_check.specs.tables.Using.{further_uses}
use Rattle.idl_check.proofs.UseLemmas.{uses-certain, uses-parted}
use Rattle.idl_env.specs.Facts.{UnitFacts, over, with_addition}
use Rattle.idl_env.specs.declared.additions.addition.Addition.TheVariants.{Uses}
use Rattle.idl_env.specs.declared.answering.answer.Scope.{Scope}
use Rattle.idl_lex.specs.kinds.Keywords.{folded}
use Rattle.idl_scope.specs.Meaning.{undeclared}
use Rattle.idl_check.proofs.tables.using.introduce.Goals as goal

pub returns-then-reach-eq0-3 : goal.returns-then-reach-eq0-3
returns-then-reach-eq0-3 c =
    let name = folded c.args.used.name.now.first in
    let reach = c.args.used.reach in
    let scopes = c.args.scopes.now in
    let own = c.args.own.now in
    let same = c.in_ok-folded.ensures in
    c.in_ok-left.ensures.added
    ∙ (λ i. record own { additions = fold with_addition own.additions (map (λ (s : Scope). Uses (same i) s.path s.body) (take reach.certain scopes)) })
    ∙ (λ i. record own { additions = uses-certain name reach scopes own.additions c.if-reach-eq0-3.true i })

pub returns : goal.returns
returns c =
    let name = folded c.args.used.name.now.first in
    let reach = c.args.used.reach in
    let scopes = c.args.scopes.now in
    let own = c.args.own.now in
    let left = c.in_ok-left.left.now in
    let same = c.in_ok-folded.ensures in
    let first : c.introduce_certain.new.own ≡ record own { additions = fold with_addition own.additions (map (λ (s : Scope). Uses name s.path s.body) (take reach.certain scopes)) } =
    c.in_ok-left.ensures.added
    ∙ (λ i. record own { additions = fold with_addition own.additions (map (λ (s : Scope). Uses (same i) s.path s.body) (take reach.certain scopes)) }) in
    let further : UnitFacts → UnitFacts = λ f. record f { additions = fold with_addition f.additions (further_uses name [] (undeclared (λ k. over f.additions k None) name (take reach.further left))) } in
    IfOk-weaker c.introduce_further.result _ _ (λ _ h.
    h
    ∙ (λ i. further (first i))
    ∙ (λ i. record own { additions = uses-parted name reach scopes left own.additions c.in_ok-left.ensures.left i })) c.introduce_further.ensures
