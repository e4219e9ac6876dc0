use Rattle.idl_scope.specs.Meaning.{Denotes, entity_found, seen}
use Rattle.std.proofs.Common.{ℕ, ◌≡◌}
use Rattle.idl_memo.specs.Query.{run}
use Rattle.idl_env.specs.Facts.{answers}
use Rattle.idl_env.specs.keys.Key.{key_eq}
use Rattle.idl_scope.specs.Lookup.{denoted, under}
use Rattle.idl_env.specs.Turns.{HasTurnsFor}
use Rattle.idl_scope.proofs.LookupLaws.LookupLaws.{IfSettled-always, denoted-from, denotes-run, reaches-run}
use Rattle.idl_scope.proofs.naming.resolve.Goals as goal

pub returns-clause-denotes : goal.returns-clause-denotes
returns-clause-denotes c =
    let facts = c.args.env.now in
    let own = c.args.place.own.now.additions in
    let r = c.in_ok-denoted.field-0 in
    IfSettled-always r (λ x. Denotes (seen own facts) c.args.place.cursor.now c.args.name.now (entity_found x))
    (denotes-run facts own 18446744073709551615 c.args.place.cursor.now c.args.name.now c.args.log.now _ r c.in_ok-denoted.ensures)

pub returns-clause-introduces : goal.returns-clause-introduces
returns-clause-introduces c =
    reaches-run c.args.env.now c.args.place.own.now.additions 18446744073709551615 c.args.place.cursor.now c.args.name.now c.args.log.now _ c.in_ok-denoted.field-0 c.in_ok-denoted.ensures

pub returns-clause-asked : goal.returns-clause-asked
returns-clause-asked c =
    let facts = c.args.env.now in
    let own = c.args.place.own.now.additions in
    let cursor = c.args.place.cursor.now in
    let name = c.args.name.now in
    let log = c.args.log.now in
    let r = c.in_ok-denoted.field-0 in
    IfSettled-always r (λ x. (turns : ℕ) → HasTurnsFor facts own turns → (x, c.denoted.new.log) ≡ run key_eq (under own (denoted turns cursor name)) (answers facts) log)
    (λ turns h. denoted-from facts own turns h 18446744073709551615 log c.denoted.new.log cursor name r c.in_ok-denoted.ensures)
