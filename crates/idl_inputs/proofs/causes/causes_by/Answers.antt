-- One cause, or none.
use Rattle.std.proofs.Common.{List, None, Some, subst, sym}
use Rattle.std.specs.Option.{option_copied}
use Rattle.idl_event.specs.Key.{key_eq}
use Rattle.idl_event.specs.declared.asked.key.RootKey.{RootKey}
use Rattle.idl_memo.specs.Cause.{IsCause, changed}
use Rattle.idl_inputs.specs.Bank.{bank_of}
use Rattle.idl_inputs.specs.Refiled.{AreCauses}
use Rattle.idl_inputs.proofs.CauseLemmas.{causes-none, causes-one}
use Rattle.idl_inputs.proofs.causes.causes_by.Goals as goal

pub returns-in-Some : goal.returns-in-Some
returns-in-Some c =
    let edited = c.args.edited.now in
    let before = bank_of edited.base.now in
    let after = changed key_eq before edited.key.now (option_copied edited.answer) in
    let cause : IsCause before after (Some c.in-Some.key.now) = rw c.in-Some.is at c.cause.ensures in
    subst (λ (ks : List RootKey). AreCauses before after ks) (sym c.from_ref.ensures.value) (causes-one before after c.in-Some.key.now cause)

pub returns-in-None : goal.returns-in-None
returns-in-None c =
    let edited = c.args.edited.now in
    let before = bank_of edited.base.now in
    let after = changed key_eq before edited.key.now (option_copied edited.answer) in
    let cause : IsCause before after None = rw c.in-None.is at c.cause.ensures in
    causes-none before after cause
