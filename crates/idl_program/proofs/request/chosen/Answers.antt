use Rattle.std.proofs.Common.{◌≡◌, ◌∙◌, List, [], ap, arith, codes, nat_lt, rules, subst, sym}
use Rattle.clap.specs.Words.{Row, count_of}
use Rattle.idl_driver.specs.Words.{AreOptionsOf}
use Rattle.idl_program.proofs.RequestLemmas.{none_of}
use Rattle.idl_program.proofs.request.chosen.Goals as goal

pub returns-clause-asked : goal.returns-clause-asked
returns-clause-asked c =
    let options = subst (λ (rows : List Row). AreOptionsOf rows c.in_ok-options.options) c.requires.rows c.in_ok-options.ensures in
    let count = c.get_count.ensures.value ∙ ap (count_of (codes "session")) c.requires.rows in
    let never : c.get_count.result ≡ 0 = omega (arith, c.if-get_count-gt0.false) in
    ((c.requires.taken, ap (nat_lt 0) (sym count ∙ never)), (λ none. let empty : c.in_ok-options.options.files.items ≡ [] = none_of _ (options.files ∙ none) in search rules), options)
