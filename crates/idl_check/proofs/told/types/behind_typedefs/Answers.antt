use Rattle.std.proofs.Common.{◌≡◌, ◌∙◌, ◌+◌, ◌-◌, None, Some, Result, Ok, Err, sym, ap, arith}
use Rattle.std.specs.Result.{IfOk, MatchResult}
use Rattle.std.specs.Option.{option_copied}
use Rattle.idl_check.specs.told.Types.{aliased, behind_typedefs, path_in}
use Rattle.idl_check.proofs.TypeLemmas.{behind-any, behind_end, behind_nothing, behind_on, fewer_turns, next_turn}
use Rattle.idl_scope.proofs.LookupLaws.RunLemmas.{runs, seen_at}
use Rattle.idl_env.specs.Facts.{answers, entity_in, entity_key}
use Rattle.idl_entity.specs.declared.entity.Entity.{Entity}
use Rattle.idl_check.proofs.told.types.behind_typedefs.Goals as goal

-- what follows for a value from what is known of both
if_ok : {A E : Type 0} (P Q : A → Type 0) (N : E → Type 0) (r : Result A E) → ((a : A) → P a → Q a) → MatchResult r P N → IfOk r Q
if_ok P Q N (Ok a) f h = f a h
if_ok P Q N (Err e) f h = tt

pub loop-turn-init : goal.loop-turn-init
loop-turn-init c =
    let own = c.args.view.own.now.additions in
    let bank = answers c.args.view.env.now in
    let name = c.args.entity.now in
    let all = c.most_declared-turns.result + 1 in
    let whole : all - 0 ≡ all = omega arith in
    record {
      within = omega arith;
      run =
          ap (λ n. runs own bank (behind_typedefs n name c.in_ok-behind.behind) c.args.log.now) whole
          ∙ ap (λ e. runs own bank (behind_typedefs all name e) c.args.log.now) c.in_ok-behind.ensures.cases;
    }

pub returns-in_default : goal.returns-in_default
returns-in_default c turns h =
    let own = c.args.view.own.now.additions in
    let bank = answers c.args.view.env.now in
    let name = c.args.entity.now in
    let all = c.most_declared-turns.result + 1 in
    let at = c.loop-turn._turn in
    let e = c.loop-turn.behind in
    let log = c.loop-turn.log in
    let none : path_in (aliased e) ≡ None = ap (λ (x : Entity). path_in (aliased x)) (sym c.get.ensures) ∙ sym c.path_in.ensures ∙ ap option_copied c.in_default.is in
    sym (behind_end own bank name (all - (at + 1)) e log none)
    ∙ ap (λ n. runs own bank (behind_typedefs n name e) log) (sym (fewer_turns all at c.loop-turn-test.true))
    ∙ c.loop-turn.invariant.run
    ∙ behind-any c.args.view.env.now own turns c.most_declared-turns.result name c.args.log.now h c.most_declared-turns.ensures.most

pub returns-in_default-2 : goal.returns-in_default-2
returns-in_default-2 c turns h =
    let own = c.args.view.own.now.additions in
    let bank = answers c.args.view.env.now in
    let name = c.args.entity.now in
    let all = c.most_declared-turns.result + 1 in
    let at = c.loop-turn._turn in
    let e = c.loop-turn.behind in
    let log = c.loop-turn.log in
    let path = c.in-Some.path.now in
    let some : path_in (aliased e) ≡ Some path = ap (λ (x : Entity). path_in (aliased x)) (sym c.get.ensures) ∙ sym c.path_in.ensures ∙ ap option_copied c.in-Some.is in
    let none : entity_in (seen_at own bank (entity_key path)) ≡ None =
    sym c.in_ok-next.ensures.entity ∙ ap option_copied c.in_default-2.is
    in
    (λ i. (e, c.in_ok-next.ensures.logged i))
    ∙ sym (behind_nothing own bank name (all - (at + 1)) e path log some none)
    ∙ ap (λ n. runs own bank (behind_typedefs n name e) log) (sym (fewer_turns all at c.loop-turn-test.true))
    ∙ c.loop-turn.invariant.run
    ∙ behind-any c.args.view.env.now own turns c.most_declared-turns.result name c.args.log.now h c.most_declared-turns.ensures.most

pub loop-turn-preserved : goal.loop-turn-preserved
loop-turn-preserved c =
    let own = c.args.view.own.now.additions in
    let bank = answers c.args.view.env.now in
    let name = c.args.entity.now in
    let all = c.most_declared-turns.result + 1 in
    let at = c.loop-turn._turn in
    let e = c.loop-turn.behind in
    let log = c.loop-turn.log in
    let path = c.in-Some.path.now in
    let next = c.in-Some-2.next.now in
    let some : path_in (aliased e) ≡ Some path = ap (λ (x : Entity). path_in (aliased x)) (sym c.get.ensures) ∙ sym c.path_in.ensures ∙ ap option_copied c.in-Some.is in
    let there : entity_in (seen_at own bank (entity_key path)) ≡ Some next =
    sym c.in_ok-next.ensures.entity ∙ ap option_copied c.in-Some-2.is
    in
    record {
      within = next_turn all at c.loop-turn-test.true;
      run =
          (λ i. runs own bank (behind_typedefs (all - (at + 1)) name (c.in_ok-behind-2.ensures.cases i)) (c.in_ok-next.ensures.logged i))
          ∙ sym (behind_on own bank name (all - (at + 1)) e path next log some there)
          ∙ ap (λ n. runs own bank (behind_typedefs n name e) log) (sym (fewer_turns all at c.loop-turn-test.true))
          ∙ c.loop-turn.invariant.run;
    }

pub returns : goal.returns
returns c =
    let own = c.args.view.own.now.additions in
    let bank = answers c.args.view.env.now in
    let name = c.args.entity.now in
    let all = c.most_declared-turns.result + 1 in
    let at = c.loop-turn._turn in
    let out : all - at ≡ 0 = omega (arith, c.loop-turn.invariant.within, c.loop-turn-test.false) in
    if_ok _ _ _ c.clone-2.result (λ behind same turns h.
    (λ i. (same i, c.loop-turn.log))
    ∙ ap (λ n. runs own bank (behind_typedefs n name c.loop-turn.behind) c.loop-turn.log) (sym out)
    ∙ c.loop-turn.invariant.run
    ∙ behind-any c.args.view.env.now own turns c.most_declared-turns.result name c.args.log.now h c.most_declared-turns.ensures.most) c.clone-2.ensures.cases
