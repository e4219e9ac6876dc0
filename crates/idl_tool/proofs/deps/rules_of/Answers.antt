use Rattle.std.proofs.Common.{◌∙◌, ◌++◌, ℕ, List, ap, flat_map, sym, take}
use Rattle.std.proofs.lemmas.List.Elements.{All-append, All-same}
use Rattle.std.proofs.lemmas.List.{take_all}
use Rattle.idl_tool.specs.make_rules.Make.{IsMakeRule, rules_text}
use Rattle.idl_tool.specs.Deps.{rules_in}
use Rattle.idl_tool.proofs.DepsLemmas.{flat_map-next, rules_text-append}
use Rattle.idl_tool.proofs.deps.rules_of.Goals as goal

pub roots-preserved : goal.roots-preserved
roots-preserved c =
    let f = rules_in c.args.deps.now c.args.sources.now in
    let root = c.root-item.result in
    let before = flat_map f (take c.roots.root-index c.args.roots.now) in
    let next = flat_map-next f c.args.roots.now c.roots.root-index root c.roots-test.true c.root-item.is in
    record {
      rules = c.in_ok-push_rules.ensures.more ∙ ap (λ (t : List ℕ). t ++ rules_text (f root)) c.roots.invariant.rules ∙ sym (rules_text-append before (f root)) ∙ ap rules_text (sym next);
      readable = All-same IsMakeRule _ _ next (All-append IsMakeRule before (f root) c.roots.invariant.readable c.in_ok-push_rules.ensures.readable);
    }

pub returns-clause-rules : goal.returns-clause-rules
returns-clause-rules c =
    c.roots.invariant.rules ∙ ap (λ (rs : List (List ℕ)). rules_text (flat_map (rules_in c.args.deps.now c.args.sources.now) rs)) (take_all c.roots.root-index c.args.roots.now c.roots-test.false)

pub returns-clause-readable : goal.returns-clause-readable
returns-clause-readable c =
    All-same IsMakeRule _ _ (sym (ap (flat_map (rules_in c.args.deps.now c.args.sources.now)) (take_all c.roots.root-index c.args.roots.now c.roots-test.false))) c.roots.invariant.readable
