use Rattle.std.proofs.Common.{◌≡◌, ◌∙◌, ◌∷◌, ◌++◌, [], ap, option_to_list, sym}
use Rattle.std.proofs.lemmas.List.{append-nil}
use Rattle.std.proofs.lemmas.Result.{IfOk-weaker}
use Rattle.idl_check.specs.walk.Verdict.{added}
use Rattle.idl_related.proofs.FirstDeclaredLemmas.{on-ok}
use Rattle.idl_related.proofs.judged.JudgedUnits.pass.Goals as goal

pub returns-in-None-clause-env : goal.returns-in-None-clause-env
returns-in-None-clause-env c =
    sym (append-nil c.args.env)
    ∙ ap (λ l. c.args.env ++ l) (ap option_to_list (sym c.in-None.is) ∙ c.in_ok-writes.ensures.writes)

pub returns-in_ok-pass-in-Some-clause-behind : goal.returns-in_ok-pass-in-Some-clause-behind
returns-in_ok-pass-in-Some-clause-behind c =
    let behind = c.in_ok-writes.ensures.behind in
    on-ok c.add_own.result (record { expansion = behind.expansion; asks = behind.asks; names = behind.names; told = behind.told })

pub returns-in_ok-pass-in-Some-clause-env : goal.returns-in_ok-pass-in-Some-clause-env
returns-in_ok-pass-in-Some-clause-env c =
    let env = c.args.env in
    IfOk-weaker c.add_own.result (λ after. after ≡ env ++ c.in-Some.writes ∷ []) (λ after. after ≡ env ++ added env c.args.unit.unit.now)
    (λ after is. is ∙ ap (λ l. env ++ l) (ap option_to_list (sym c.in-Some.is) ∙ c.in_ok-writes.ensures.writes)) c.add_own.ensures
