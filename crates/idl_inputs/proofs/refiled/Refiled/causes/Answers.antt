use Rattle.std.proofs.Common.{◌≡◌, ◌∙◌, ◌∷◌, ℕ, List, subst, sym}
use Rattle.std.specs.Map.{keys_of}
use Rattle.idl_event.specs.declared.asked.key.RootKey.{RootKey}
use Rattle.idl_inputs.specs.Bank.{bank_of}
use Rattle.idl_inputs.proofs.RefiledLemmas.{AreCausesBut, causes-begin, causes-end, causes-more}
use Rattle.idl_inputs.proofs.refiled.Refiled.causes.Goals as goal

pub loop-name-init : goal.loop-name-init
loop-name-init c =
    let bank = bank_of c.args.self.now.base.now in
    let entries = c.args.self.now.edited.now.answers.entries in
    let left : c.into_iter-name-iterator.result ≡ keys_of entries = c.into_iter-name-iterator.ensures.into_iter_gives ∙ c.keys-name-items.ensures.rest in
    subst (λ (names : List (List ℕ)). AreCausesBut bank entries names c.new-causes.result.items) (sym left)
    (subst (λ (causes : List RootKey). AreCausesBut bank entries (keys_of entries) causes) (sym c.new-causes.ensures.items) (causes-begin bank entries))

pub loop-name-preserved : goal.loop-name-preserved
loop-name-preserved c =
    let bank = bank_of c.args.self.now.base.now in
    let entries = c.args.self.now.edited.now.answers.entries in
    let before = c.loop-name.causes.items in
    let after = c.push_cause.new.causes.items in
    let left : c.loop-name.name-iterator ≡ c.in-Some.name.now ∷ c.next.new.self = c.in-Some.ensures.steps in
    causes-more bank entries c.in-Some.name.now c.next.new.self before after
    (subst (λ (names : List (List ℕ)). AreCausesBut bank entries names before) left c.loop-name.invariant) c.in_ok-push_cause.ensures

pub returns : goal.returns
returns c =
    let bank = bank_of c.args.self.now.base.now in
    let entries = c.args.self.now.edited.now.answers.entries in
    let causes = c.loop-name.causes.items in
    causes-end bank entries causes (subst (λ (names : List (List ℕ)). AreCausesBut bank entries names causes) c.in-None.ensures.steps.0 c.loop-name.invariant)
