-- The root's own task is alike, and all stays; or it is stale, and the root is expanded anew.
use Rattle.std.proofs.Common.{◌≡◌, ◌⊎◌, ◌∙◌, ℕ, List, Option, inl, inr, ap, length, refl, subst}
use Rattle.idl_event.specs.Key.{key_eq}
use Rattle.idl_event.specs.declared.told.event.Event.{Event}
use Rattle.idl_event.specs.declared.asked.key.RootAnswer.{RootAnswer}
use Rattle.idl_event.specs.declared.asked.key.RootKey.{RootKey}
use Rattle.idl_memo.specs.Kept.{Kept, HoldsOver}
use Rattle.idl_prep.specs.Root.{expanded, expansion}
use Rattle.idl_sources.specs.idl_root.AsBefore.{IsAsBefore, kept_lists}
use Rattle.idl_inputs.specs.Bank.{bank_of}
use Rattle.idl_project.specs.Renewed.{IsDrafted}
use Rattle.idl_sources.specs.declared.compile.CompiledRoot.{CompiledRoot}
use Rattle.idl_project.proofs.KeptLemmas.{IsCompiledOf-kept, IsKept-still, IsKeptOf-held, expanded-again, held-meter}
use Rattle.idl_project.proofs.kept_root.KeptRoot.renewed.Goals as goal

pub returns-then-outlasts-clause-kept : goal.returns-then-outlasts-clause-kept
returns-then-outlasts-clause-kept g c =
    let before = bank_of c.args.change.now.base.now in
    let after = g.B.Bank.at c.args.change.now.bank.now in
    IsKept-still before after c.args.root.1.now _ c.requires.kept c.in_ok-clone.ensures.cases c.in_ok-clone-2.ensures.cases c.in_ok-clone-3.ensures.cases
    (c.outlasts.ensures.over before after c.requires.causes c.requires.kept c.if-outlasts.true)

pub returns-then-outlasts-clause-renewed : goal.returns-then-outlasts-clause-renewed
returns-then-outlasts-clause-renewed g c =
    let before = bank_of c.args.change.now.base.now in
    let after = g.B.Bank.at c.args.change.now.bank.now in
    let kept : Kept RootKey (Option RootAnswer) (List ℕ) (List Event) = c.args.root.1.now.result.value in
    let over : HoldsOver key_eq expansion after kept = c.outlasts.ensures.over before after c.requires.causes c.requires.kept c.if-outlasts.true in
    let keys : c.key_count.result ≡ length (expanded kept.text after).1 =
    c.key_count.ensures ∙ ap (λ (p : List Event × List (RootKey × Option RootAnswer)). length p.1) over in
    inl (record {
      alike = c.outlasts.ensures.alike before after c.requires.causes c.requires.kept ∙ c.if-outlasts.true;
      events = expanded-again before after kept c.requires.kept.over over;
      kept = record { texts = refl; entries = refl };
      meter = held-meter c.args.meter.now _ c.key_count.result (length (expanded kept.text after).1) c.compare.ensures keys;
    })

-- what was kept of it
pub expanded-requires-clause-kept : goal.expanded-requires-clause-kept
expanded-requires-clause-kept g c =
    let before = bank_of c.args.change.now.base.now in (
      (expanded c.args.root.1.now.result.value.text before).0,
      IsKeptOf-held before c.args.root.1.now (kept_lists c.args.keeper.now c.args.root.0) c.requires.kept c.requires.lists,
      IsCompiledOf-kept before c.args.root.1.now _ (ap (λ (r : CompiledRoot). r.rows) c.deref-2.ensures) c.requires.kept,
    )

pub returns-clause-renewed : goal.returns-clause-renewed
returns-clause-renewed g c =
    let before = bank_of c.args.change.now.base.now in
    let after = g.B.Bank.at c.args.change.now.bank.now in
    let kept : Kept RootKey (Option RootAnswer) (List ℕ) (List Event) = c.args.root.1.now.result.value in
    let text = kept.text in
    let was = (expanded text before).0 in
    let old = c.args.keeper.now in
    let new = c.expanded.new.keeper in
    let name : c.copied-name.result ≡ text = c.copied-name.ensures ∙ c.root_name.ensures ∙ ap (λ (k : Kept RootKey (Option RootAnswer) (List ℕ) (List Event)). k.text) c.deref.ensures in
    let made =
    subst
    (λ (n : List ℕ). IsAsBefore was (expanded n after).0 old new c.args.meter.now c.expanded.new.meter ⊎ IsDrafted after c.args.root.0 n old new c.args.meter.now c.expanded.new.meter) name
    (c.in_ok-expanded.ensures.tasks was (IsKeptOf-held before c.args.root.1.now (kept_lists old c.args.root.0) c.requires.kept c.requires.lists)) in
    inr (record {
      stale = c.outlasts.ensures.alike before after c.requires.causes c.requires.kept ∙ c.if-outlasts.false;
      count = c.in_ok-expanded.ensures.count;
      tasks = made;
    })
