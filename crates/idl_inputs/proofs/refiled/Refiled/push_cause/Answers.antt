-- The answer is the one that the file had, or another one.
use Rattle.std.proofs.Common.{◌∙◌, ap, not}
use Rattle.idl_event.specs.declared.asked.key.RootKey.TheVariants as keys
use Rattle.idl_inputs.specs.Bank.{bank_of}
use Rattle.idl_inputs.specs.Refiled.{refiled}
use Rattle.idl_inputs.proofs.RefiledLemmas.{passed-over, put-in}
use Rattle.idl_inputs.proofs.refiled.Refiled.push_cause.Goals as goal

pub returns-then-is_none : goal.returns-then-is_none
returns-then-is_none c =
    let bank = bank_of c.args.self.now.base.now in
    let new = refiled bank c.args.self.now.edited.now.answers.entries in
    passed-over bank _ _ new (keys.File c.args.name.now) c.cause.result c.args.causes.now.items (ap keys.File c.in_ok-clone.ensures.cases) c.answer.ensures (c.is_none.ensures ∙ ap not c.if-is_none.true) c.cause.ensures

pub returns : goal.returns
returns c =
    let bank = bank_of c.args.self.now.base.now in
    let new = refiled bank c.args.self.now.edited.now.answers.entries in
    put-in bank _ _ new (keys.File c.args.name.now) c.cause.result c.args.causes.now.items c.push.new.self.items (ap keys.File c.in_ok-clone.ensures.cases) c.answer.ensures (c.is_none.ensures ∙ ap not c.if-is_none.false) c.cause.ensures c.in_ok-push.ensures.items
