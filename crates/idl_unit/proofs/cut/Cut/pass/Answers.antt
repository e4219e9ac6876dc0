use Rattle.std.proofs.Common.{◌-◌, ◌++◌, ◌∙◌, sym, ap, arith}
use Rattle.std.specs.Prelude.{drop}
use Rattle.idl_unit.specs.Ending.{token_units}
use Rattle.idl_unit.specs.Placing.{placed, to_come}
use Rattle.idl_unit.proofs.PlacingLemmas.{ahead_of, placed-run}
use Rattle.idl_unit.proofs.cut.Cut.pass.Goals as goal

pub returns-clause-units : goal.returns-clause-units
returns-clause-units c =
    let s = c.args.self.now in
    let first = c.pass_tokens.ensures.passed in
    let units = token_units (drop s.taken s.text.now) in
    let sites = drop s.taken s.sites.now.value in
    let rest = c.pass_tokens.new.self in
    sym (ap (to_come s) first.all
    ∙ ap (λ l. s.units.items ++ l)
    (placed-run units sites s.inside first.tokens rest (omega (arith, first.long, c.pass_tokens.ensures.most)) first.alone
    ∙ ap (λ n. placed (ahead_of units sites (s.inside - n)) rest) first.long))
