use Rattle.std.proofs.Common.{◌≡◌, ◌∙◌, ◌++◌, ap, map}
use Rattle.idl_check.specs.declared.walk.verdict.Verdict.{Verdict}
use Rattle.idl_related.specs.FirstDeclared.{names_behind, told_for, without_other_places}
use Rattle.idl_check.specs.walk.Verdict.{verdict_over}
use Rattle.idl_related.specs.Judged.{before_spelled, text_and_sites}
use Rattle.idl_related.proofs.judged.JudgedUnits.judge.Goals as goal

pub returns-clause-behind : goal.returns-clause-behind
returns-clause-behind c =
    let self = c.args.self.now in
    let unit = c.args.unit in
    let is : c.in_ok-verdict.verdict ≡ verdict_over unit.env.now unit.text.now = ap (λ p. p.0) c.in_ok-verdict.ensures in
    let taken = c.in_ok-take.ensures in record {
      expansion = taken.expansion;
      asks = taken.asks;
      names = λ asks. taken.names asks ∙ ap (λ (v : Verdict). names_behind (before_spelled self unit) unit.text.now v.fault) is;
      told =
          taken.told
          ∙ ap (λ (v : Verdict). map without_other_places self.told.items ++ told_for self.expansion.now (before_spelled self unit) (text_and_sites unit) v.fault) is;
    }

pub returns-clause-writes : goal.returns-clause-writes
returns-clause-writes c =
    let unit = c.args.unit in
    let is : c.in_ok-verdict.verdict ≡ verdict_over unit.env.now unit.text.now = ap (λ p. p.0) c.in_ok-verdict.ensures in
    c.into_writes.ensures ∙ ap (λ (v : Verdict). v.writes) is
