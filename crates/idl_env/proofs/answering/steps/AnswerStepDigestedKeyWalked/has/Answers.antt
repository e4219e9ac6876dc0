-- The entries of a step, by what it asks.
use Rattle.std.proofs.Common.{◌∙◌, ◌||◌, Option, None, Some, sym, ap}
use Rattle.idl_memo.specs.Query.{is_logged}
use Rattle.idl_env.specs.Facts.{entity_key}
use Rattle.idl_env.specs.answering.Walked.{entries_outward, entries_walked, path_of}
use Rattle.idl_env.specs.keys.Key.{key_eq}
use Rattle.idl_env.specs.declared.answering.answer.Answer.{Answer}
use Rattle.idl_env.specs.declared.keys.key.Key.TheVariants.{Declared}
use Rattle.idl_env.proofs.WalkedLemmas.{has_one, has_two}
use Rattle.idl_env.proofs.answering.steps.AnswerStepDigestedKeyWalked.has.Goals as goal

pub returns-in-Entered : goal.returns-in-Entered
returns-in-Entered c =
    let step = c.args.self.now in
    let key = c.args.key.now in
    let name = c.in-Entered.name in
    c.is_either.ensures
    ∙ ap (λ path. key_eq (Declared name path) key || key_eq (entity_key path) key) c.path_of-path.ensures
    ∙ has_two {V = Option Answer} (Declared name (path_of step)) (entity_key (path_of step)) None (Some step) key
    ∙ ap (λ head. is_logged key_eq (entries_walked head step) key) (sym c.in-Entered.is)

pub returns-in-Named : goal.returns-in-Named
returns-in-Named c =
    let step = c.args.self.now in
    let key = c.args.key.now in
    let name = c.in-Named.name in
    c.is_under.ensures
    ∙ ap (λ path. key_eq (Declared name path) key) c.path_of-path.ensures
    ∙ has_one {V = Option Answer} (Declared name (path_of step)) None key
    ∙ ap (λ head. is_logged key_eq (entries_walked head step) key) (sym c.in-Named.is)

pub returns-in-Behind : goal.returns-in-Behind
returns-in-Behind c =
    let step = c.args.self.now in
    let key = c.args.key.now in
    c.is_entity.ensures
    ∙ ap (λ path. key_eq (entity_key path) key) c.path_of-path.ensures
    ∙ has_one {V = Option Answer} (entity_key (path_of step)) (Some step) key
    ∙ ap (λ head. is_logged key_eq (entries_walked head step) key) (sym c.in-Behind.is)

pub returns : goal.returns
returns c =
    let key = c.args.key.now in
    c.is_outward.ensures
    ∙ ap (λ scope. is_logged {V = Option Answer} key_eq (entries_outward scope) key) c.lent.ensures
    ∙ ap (λ head. is_logged key_eq (entries_walked head c.args.self.now) key) (sym c.in-Outward.is)
