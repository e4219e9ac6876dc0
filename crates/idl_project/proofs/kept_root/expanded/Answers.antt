-- What comes of a root, from its result and its name.
use Rattle.std.proofs.Common.{◌≡◌, ◌⊎◌, ◌∙◌, ℕ, List, ap, inl, inr, subst}
use Rattle.idl_memo.specs.declared.meter.Meter.{Meter}
use Rattle.idl_prep.specs.Root.{expanded}
use Rattle.idl_sources.specs.idl_root.AsBefore.{IsAsBefore}
use Rattle.idl_project.specs.Renewed.{IsDrafted}
use Rattle.idl_project.proofs.KeptLemmas.{IsAsBefore-metered, IsDrafted-metered, none-weaker}
use Rattle.idl_project.proofs.kept_root.expanded.Goals as goal

pub compile_kept-requires-clause-kept : goal.compile_kept-requires-clause-kept
compile_kept-requires-clause-kept g c = c.requires.kept

pub returns-clause-tasks : goal.returns-clause-tasks
returns-clause-tasks g c = λ was own.
    let bank = g.B.Bank.at c.args.bank.now in
    let old = c.args.keeper.now in
    let new = c.compile_kept.new.keeper in
    let root = c.args.root.1 in
    let name : c.in_ok-result.result.value.text ≡ c.args.root.0 = c.in_ok-result.ensures.text ∙ c.new.ensures in
    let checked : c.run_anew.new.meter.checked ≡ c.args.meter.now.checked = ap (λ (m : Meter). m.checked) c.in_ok-result.ensures.count in
    let printed : c.run_anew.new.meter.printed ≡ c.args.meter.now.printed = ap (λ (m : Meter). m.printed) c.in_ok-result.ensures.count in
    let compared : c.run_anew.new.meter.compared ≡ c.args.meter.now.compared = ap (λ (m : Meter). m.compared) c.in_ok-result.ensures.count in
    let made =
    subst
    (λ (n : List ℕ). IsAsBefore was (expanded n bank).0 old new c.run_anew.new.meter c.compile_kept.new.meter ⊎ IsDrafted bank root.at n old new c.run_anew.new.meter c.compile_kept.new.meter)
    name (c.in_ok-compiled.ensures.tasks was own) in
    elim made [
      | inl left ↦ inl (IsAsBefore-metered was (expanded c.args.root.0 bank).0 old new c.args.meter.now c.run_anew.new.meter c.compile_kept.new.meter checked printed compared left)
      | inr anew ↦ inr (IsDrafted-metered bank root.at c.args.root.0 old new c.args.meter.now c.run_anew.new.meter c.compile_kept.new.meter checked printed compared anew)
    ]

pub returns-clause-first : goal.returns-clause-first
returns-clause-first g c =
    let bank = g.B.Bank.at c.args.bank.now in
    let old = c.args.keeper.now in
    let new = c.compile_kept.new.keeper in
    let root = c.args.root.1 in
    let name : c.in_ok-result.result.value.text ≡ c.args.root.0 = c.in_ok-result.ensures.text ∙ c.new.ensures in
    let checked : c.run_anew.new.meter.checked ≡ c.args.meter.now.checked = ap (λ (m : Meter). m.checked) c.in_ok-result.ensures.count in
    let printed : c.run_anew.new.meter.printed ≡ c.args.meter.now.printed = ap (λ (m : Meter). m.printed) c.in_ok-result.ensures.count in
    let compared : c.run_anew.new.meter.compared ≡ c.args.meter.now.compared = ap (λ (m : Meter). m.compared) c.in_ok-result.ensures.count in
    none-weaker root.compiled
    (λ made.
    IsDrafted-metered bank root.at c.args.root.0 old new c.args.meter.now c.run_anew.new.meter c.compile_kept.new.meter checked printed compared
    (subst (λ (n : List ℕ). IsDrafted bank root.at n old new c.run_anew.new.meter c.compile_kept.new.meter) name made))
    c.in_ok-compiled.ensures.first
