use Rattle.std.proofs.Common.{◌≡◌, ◌∙◌, ap}
use Rattle.std.specs.Option.{option_copied}
use Rattle.idl_memo.specs.Query.{noted, outcome, run}
use Rattle.idl_repo.proofs.EntryLaws.{entry-told}
use Rattle.idl_repo.specs.Entry.{entry, entry_in, pushed_entry}
use Rattle.idl_env.specs.Facts.{answers, entity_in, entity_key}
use Rattle.idl_env.specs.keys.Key.{key_eq}
use Rattle.idl_repo.proofs.entry.entry_at.Goals as goal

pub returns : goal.returns
unfolding entry
returns c =
    let bank = answers c.args.env.now in
    let key = entity_key c.args.path.now in
    let there : option_copied c.in_ok-answer.answer ≡ bank key = c.in_ok-answer.ensures.answer ∙ ap bank c.of_entity-key.ensures in
    let logged : c.ask_lent.new.self ≡ noted key_eq bank c.args.log.now key = c.in_ok-answer.ensures.logged ∙ ap (noted key_eq bank c.args.log.now) c.of_entity-key.ensures in
    let e = outcome (entry_in (entity_in (option_copied c.in_ok-answer.answer))) bank in
    let told = entry-told e c.in_ok-pushed.pushed c.clear.new.self.items c.push_entry.new.buffer.items c.clear.ensures.items c.in_ok-pushed.ensures.entry in
    let is = c.in_ok-entry.ensures ∙ ap (pushed_entry c.in_ok-pushed.pushed) c.as_slice.ensures.value ∙ told in
    (λ i. (is i, c.in_ok-pushed.ensures.log i)) ∙ (λ i. run key_eq (entry_in (entity_in (there i))) bank (logged i))
