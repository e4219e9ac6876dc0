use Rattle.std.proofs.Common.{◌≡◌, arith, rules, true, false}
use Rattle.std.proofs.lemmas.Grind.{common_steps}
use Rattle.std.proofs.lemmas.Result.{err_from_is_err_and}
use Rattle.idl_tree.specs.Lexeme.{lexemes}
use Rattle.idl_tree.specs.reading.ReadConstruction.{goes_on, construction_at}
use Rattle.idl_tree.specs.reading.Reading.{first}
use Rattle.idl_syntax.proofs.Turns.{turns_start, turns_stop, turns_fail, loop_step}
use Rattle.idl_syntax.proofs.declarations.construction.+construction.Goals as goal

pub more_members-members-init : goal.more_members-members-init
more_members-members-init t c = record { turns = turns_start _ _ _ _ c.new-members.ensures.items; long = omega arith }

pub more_members-members-preserved : goal.more_members-members-preserved
more_members-members-preserved t c =
    let test : goes_on (first (lexemes c.members.rest.now)) ≡ true = search rules in
    record {
      turns = loop_step _ _ _ _ _ _ _ _ c.members.invariant.turns test c.in_ok-one.ensures.reads c.in_ok-one.ensures.shorter c.in_ok-push.ensures.items;
      long = omega (arith, c.in_ok-one.ensures.shorter, c.members.invariant.long);
    }

pub cases-cases-init : goal.cases-cases-init
cases-cases-init t c = record { turns = turns_start _ _ _ _ c.new-cases.ensures.items; long = omega arith }

pub cases-cases-preserved : goal.cases-cases-preserved
cases-cases-preserved t c =
    let test : goes_on (first (lexemes c.cases.rest.now)) ≡ true = search rules in
    record {
      turns = loop_step _ _ _ _ _ _ _ _ c.cases.invariant.turns test c.in_ok-one.ensures.reads c.in_ok-one.ensures.shorter c.in_ok-push.ensures.items;
      long = omega (arith, c.in_ok-one.ensures.shorter, c.cases.invariant.long);
    }

pub more_members-returns-clause-reads : goal.more_members-returns-clause-reads
more_members-returns-clause-reads t c =
    let test : goes_on (first (lexemes c.members.rest.now)) ≡ false = search rules in
    rw c.from_vec.ensures (turns_stop _ _ _ _ _ c.members.invariant.turns test)

pub more_members-returns-in_err-one-clause-reads : goal.more_members-returns-in_err-one-clause-reads
more_members-returns-in_err-one-clause-reads t c =
    let test : goes_on (first (lexemes c.members.rest.now)) ≡ true = search rules in
    let why = err_from_is_err_and c.from_residual.result c.from_residual.ensures.1 in
    rw (why.1, why.2) (turns_fail _ _ _ _ _ _ c.members.invariant.turns test c.in_err-one.ensures.reads)

pub cases-returns-clause-reads : goal.cases-returns-clause-reads
cases-returns-clause-reads t c =
    let test : goes_on (first (lexemes c.cases.rest.now)) ≡ false = search rules in
    rw c.from_vec.ensures (turns_stop _ _ _ _ _ c.cases.invariant.turns test)

pub cases-returns-in_err-one-clause-reads : goal.cases-returns-in_err-one-clause-reads
cases-returns-in_err-one-clause-reads t c =
    let test : goes_on (first (lexemes c.cases.rest.now)) ≡ true = search rules in
    let why = err_from_is_err_and c.from_residual.result c.from_residual.ensures.1 in
    rw (why.1, why.2) (turns_fail _ _ _ _ _ _ c.cases.invariant.turns test c.in_err-one.ensures.reads)

pub construction-returns-then-depth-eq0-clause-reads : goal.construction-returns-then-depth-eq0-clause-reads
unfolding construction_at
construction-returns-then-depth-eq0-clause-reads t c = grind (arith, common_steps)
