-- The entries of a step, by what it asks.
use Rattle.std.proofs.Common.{◌∙◌, ◌++◌, ◌∷◌, [], None, Some, append_assoc, sym, ap}
use Rattle.std.proofs.lemmas.Result.{IfOk-weaker}
use Rattle.idl_env.specs.Facts.{entity_key}
use Rattle.idl_env.specs.answering.Walked.{entries_outward, entries_walked}
use Rattle.idl_env.specs.declared.keys.key.Key.TheVariants.{Declared}
use Rattle.idl_env.proofs.answering.steps.AnswerStepDigestedKeyWalked.append_to.Goals as goal

pub returns-in-Entered : goal.returns-in-Entered
returns-in-Entered c =
    let step = c.args.self.now in
    let old = c.args.entries.now.items in
    let name = c.in-Entered.name in
    let path = c.path_of-path.result.now in
    IfOk-weaker c.append_found.result _ _ (λ _ found. found
    ∙ ap (λ l. l ++ (entity_key path, Some step) ∷ []) c.in_ok-append_absent-in-Entered.ensures
    ∙ append_assoc old ((Declared name path, None) ∷ []) ((entity_key path, Some step) ∷ [])
    ∙ ap (λ path. old ++ (Declared name path, None) ∷ (entity_key path, Some step) ∷ []) c.path_of-path.ensures
    ∙ ap (λ head. old ++ entries_walked head step) (sym c.in-Entered.is)) c.append_found.ensures

pub returns-in-Named : goal.returns-in-Named
returns-in-Named c =
    let step = c.args.self.now in
    let old = c.args.entries.now.items in
    let name = c.in-Named.name in
    IfOk-weaker c.append_absent-in-Named.result _ _ (λ _ absent. absent
    ∙ ap (λ path. old ++ (Declared name path, None) ∷ []) c.path_of-path.ensures
    ∙ ap (λ head. old ++ entries_walked head step) (sym c.in-Named.is)) c.append_absent-in-Named.ensures

pub returns-in-Behind : goal.returns-in-Behind
returns-in-Behind c =
    let step = c.args.self.now in
    let old = c.args.entries.now.items in
    IfOk-weaker c.append_found-in-Behind.result _ _ (λ _ found. found
    ∙ ap (λ path. old ++ (entity_key path, Some step) ∷ []) c.path_of-path.ensures
    ∙ ap (λ head. old ++ entries_walked head step) (sym c.in-Behind.is)) c.append_found-in-Behind.ensures

pub returns : goal.returns
returns c =
    let old = c.args.entries.now.items in
    IfOk-weaker c.append_outward.result _ _ (λ _ told. told
    ∙ ap (λ scope. old ++ entries_outward scope) c.lent.ensures
    ∙ ap (λ head. old ++ entries_walked head c.args.self.now) (sym c.in-Outward.is)) c.append_outward.ensures
