use Rattle.std.proofs.Common.{◌≡◌, ◌∙◌, ap, length, rules, subst, sym}
use Rattle.std.specs.Prelude.{IfOk}
use Rattle.idl_env.specs.Facts.{answers}
use Rattle.idl_memo.specs.declared.meter.Meter.{Meter}
use Rattle.idl_memo.specs.declared.task.TaskKind.TheVariants.{Print}
use Rattle.idl_store.specs.Stored.{Stored}
use Rattle.idl_root.specs.Followed.{IsEntryLast, IsPrinting}
use Rattle.idl_root.specs.Places.{EntryPlace}
use Rattle.idl_root.specs.Results.{EntryResult, entry_result}
use Rattle.idl_root.proofs.TakenLemmas.{at-none, at-some, taken-last}
use Rattle.idl_root.proofs.kept.printing.Printing.entry.Goals as goal

pub returns-in-Some-clause-obtained : goal.returns-in-Some-clause-obtained
returns-in-Some-clause-obtained c =
    let place : EntryPlace = (c.args.path.now, answers c.args.env.now) in
    let between = c.taken.new.self.meter in
    let after = c.compare.new.self in
    let taken = at-some c.in_ok-entry.field-0 c.in-Some.entry _ c.in-Some.is c.in_ok-entry.ensures.again c.args.env.now c.requires in
    let asked : c.entry_keys.result ≡ length c.in-Some.entry.value.log = search rules in
    let keys : c.entry_keys.result ≡ length (entry_result place).log = asked ∙ ap (λ (k : EntryResult). length k.log) taken.result_is in
    subst (λ (m : Meter). IsEntryLast place c.args.kept.now c.taken.new.kept m after c.in-Some.entry.value) c.taken.ensures.meter
    (taken-last Print place (entry_result place) between after c.entry_keys.result keys c.compare.ensures taken)

pub returns-in-Some-clause-lists : goal.returns-in-Some-clause-lists
returns-in-Some-clause-lists c = ap (λ (s : Stored EntryResult). s.lists) (at-some c.in_ok-entry.field-0 c.in-Some.entry _ c.in-Some.is c.in_ok-entry.ensures.again c.args.env.now c.requires).new_is

pub returns-in-Some-clause-rest : goal.returns-in-Some-clause-rest
returns-in-Some-clause-rest c =
    let taken = at-some c.in_ok-entry.field-0 c.in-Some.entry _ c.in-Some.is c.in_ok-entry.ensures.again c.args.env.now c.requires in
    subst (λ (s : Stored EntryResult). IsPrinting s.lists c.taken.new.self c.args.env.now) (sym taken.new_is)
    (c.taken.ensures.rest c.args.kept.now.lists c.args.env.now c.requires)

pub returns-in-None-clause-obtained : goal.returns-in-None-clause-obtained
returns-in-None-clause-obtained c =
    let place : EntryPlace = (c.args.path.now, answers c.args.env.now) in
    subst (λ (s : Stored EntryResult). IfOk c.obtained.result (λ found. IsEntryLast place s c.obtained.new.kept c.args.self.now.meter c.obtained.new.self.meter found.value))
    (at-none c.in_ok-entry.field-0 _ c.in-None.is c.in_ok-entry.ensures.none)
    (subst (λ (m : Meter). IfOk c.obtained.result (λ found. IsEntryLast place c.taken.new.kept c.obtained.new.kept m c.obtained.new.self.meter found.value)) c.taken.ensures.meter c.obtained.ensures.obtained)
