use Rattle.std.proofs.Common.{◌∙◌, ap, sym}
use Rattle.std.specs.Option.{option_copied}
use Rattle.idl_repo.proofs.EntryLaws.{entry-noted, entry-pushed}
use Rattle.idl_repo.proofs.WriteLemmas.{grows-between}
use Rattle.idl_repo.specs.Entry.{closing_fault}
use Rattle.idl_repo.specs.Pieces.{state}
use Rattle.idl_env.specs.Facts.{answers, entity_in}
use Rattle.idl_repo.proofs.entry.push_entry.Goals as goal

pub returns-clause-entry : goal.returns-clause-entry
returns-clause-entry c =
    let written = grows-between (state c.taking-row.result) (state c.push_row.new.self) c.taking-row.ensures.facts c.taking-row.ensures.text c.taking-row.ensures.log c.give_back.ensures.text c.give_back.ensures.log c.in_ok-push_row.ensures in
    entry-pushed (entity_in (option_copied c.args.answer)) (answers c.args.env.now) c.in-Some.entity.now c.get.result.now c.closing_fault.result
    (sym c.in-Some.ensures) c.get.ensures written.0
    (c.closing_fault.ensures ∙ ap closing_fault c.get-2.ensures)

pub returns-clause-log : goal.returns-clause-log
returns-clause-log c =
    let written = grows-between (state c.taking-row.result) (state c.push_row.new.self) c.taking-row.ensures.facts c.taking-row.ensures.text c.taking-row.ensures.log c.give_back.ensures.text c.give_back.ensures.log c.in_ok-push_row.ensures in
    entry-noted c.args.log.now (entity_in (option_copied c.args.answer)) (answers c.args.env.now) c.in-Some.entity.now c.get.result.now
    (sym c.in-Some.ensures) c.get.ensures written.1
