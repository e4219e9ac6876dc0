-- The numbers go into the last draft, and each counts as a use more.
use Rattle.std.proofs.Common.{◌<◌, length, vec_len, ap, sym, ◌∙◌, arith}
use Rattle.idl_store.specs.Numbers.{drafts_of, times}
use Rattle.idl_store.specs.Stored.{results_of_drafts}
use Rattle.idl_store.proofs.Drafting.{length-drafts, some-unless}
use Rattle.idl_store.proofs.Times.{times-with_results}
use Rattle.idl_store.proofs.Using.{more-beside}
use Rattle.std.proofs.lemmas.Grind.{common_steps}
use Rattle.idl_store.proofs.uses.use_all_again.Goals as goal

pub returns-clause-uses : goal.returns-clause-uses
returns-clause-uses g c =
    let before = drafts_of c.args.drafts.now.items in
    let after = drafts_of c.push_numbers.new.drafts.items in
    let numbers = c.args.numbers.now in
    let there : 0 < vec_len c.args.drafts.now = some-unless (vec_len c.args.drafts.now) (sym c.is_empty.ensures ∙ c.if-is_empty.false) in
    let some : 0 < length before = omega (arith, there, c.args.drafts.now.ok.0, length-drafts c.args.drafts.now.items) in
    more-beside c.args.used.now c.count_uses.new.used numbers (results_of_drafts before) (results_of_drafts after) c.count_uses.ensures
    (λ n. ap (λ ds. times n (results_of_drafts ds)) c.in_ok-push_numbers.ensures.ok ∙ times-with_results n before numbers some)

pub returns-clause-err : goal.returns-clause-err
returns-clause-err g c = grind (arith, common_steps)

pub returns-clause-count : goal.returns-clause-count
returns-clause-count g c = grind (arith, common_steps)

pub returns-then-is_empty : goal.returns-then-is_empty
returns-then-is_empty g c = grind (arith, common_steps)

pub returns-clause-drafts : goal.returns-clause-drafts
returns-clause-drafts g c = grind (arith, common_steps)

pub returns-in_err-push_numbers-clause-err : goal.returns-in_err-push_numbers-clause-err
returns-in_err-push_numbers-clause-err g c = grind (arith, common_steps)

pub returns-then-not-have_room : goal.returns-then-not-have_room
returns-then-not-have_room g c = grind (arith, common_steps)
