use Rattle.std.proofs.Common.{◌∙◌, None, Some, ap, cond}
use Rattle.idl_inputs.specs.Bank.{bank_of}
use Rattle.idl_prep.specs.Root.{expanded}
use Rattle.idl_sources.specs.idl_root.Turns.{FitsU64}
use Rattle.idl_project.proofs.AnsweredLemmas.{answered, found-small, root-among}
use Rattle.idl_project.proofs.session.Session.is_compiled.Goals as goal

pub returns : goal.returns
returns c = λ compiled.
    let project = c.args.self.now.project in
    let name = c.args.root.now in
    let bank = bank_of project.inputs in
    let events = (expanded name bank).0 in
    answered project name compiled
    (λ there end rows.
    c.compiled.ensures.is end events rows (root-among (λ root. FitsU64 (expanded root bank).0) project.roots name c.bounds_turns.ensures.within there)
    (found-small c.expansion.result events (c.expansion.ensures ∙ ap (λ b. cond b (Some events) None) there) c.count_within.ensures))
