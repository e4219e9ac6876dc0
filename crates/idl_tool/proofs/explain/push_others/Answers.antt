use Rattle.std.proofs.Common.{◌∙◌, ◌++◌, [], ℕ, Bor, List, ap, append-nil, map, sym, subst}
use Rattle.std.proofs.lemmas.List.{take_all}
use Rattle.idl_explain.specs.Explained.{shown}
use Rattle.idl_tool.specs.Answered.{AreShown}
use Rattle.idl_tool.proofs.ExplainLemmas.{shown-at}
use Rattle.idl_tool.proofs.explain.push_others.Goals as goal

pub words-init : goal.words-init
words-init c = ([], tt, sym (append-nil c.args.out.now.items))

pub words-preserved : goal.words-preserved
words-preserved c =
    let names = c.in_ok-push_named.ensures in
    shown-at (λ (w : Bor (List ℕ)). w.now) c.args.words.now c.words.word-index _ names.0 c.args.out.now.items c.words.out.items c.push_named.new.out.items
    c.words-test.true c.words.invariant names.1 (names.2 ∙ ap (λ (t : List ℕ). t ++ shown names.0) c.in_ok-extend_from_slice.ensures.items)

pub returns : goal.returns
returns c =
    let words = c.args.words.now in
    subst (λ (ws : List (Bor (List ℕ))). AreShown (map (λ (w : Bor (List ℕ)). w.now) ws) c.args.out.now.items c.words.out.items) (take_all c.words.word-index words c.words-test.false) c.words.invariant
