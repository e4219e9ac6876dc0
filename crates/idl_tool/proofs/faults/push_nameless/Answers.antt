use Rattle.std.proofs.Common.{ℕ, List, subst, Bor}
use Rattle.idl_source.specs.declared.refusal.Refusal.TheVariants.{BadName}
use Rattle.std.proofs.lemmas.List.{take_all}
use Rattle.idl_tool.specs.Messages.{IsNamelessMessage, IsRefusedMessage, AreLines, IsBehind}
use Rattle.idl_tool.proofs.FaultLemmas.{lines-next, no-lines}
use Rattle.idl_tool.proofs.faults.push_nameless.Goals as goal

pub words-init : goal.words-init
words-init c = no-lines IsNamelessMessage c.args.out.now.items

pub words-preserved : goal.words-preserved
words-preserved c =
    let pushed = c.in_ok-push_refused.ensures in
    lines-next IsNamelessMessage c.args.words.now c.words.word-index _ pushed.0 c.args.out.now.items c.words.out.items c.push_refused.new.out.items c.words-test.true c.words.invariant
    (subst (λ (n : List ℕ). IsRefusedMessage n BadName pushed.0) c.as_bytes.ensures.value pushed.1) pushed.2

pub returns : goal.returns
returns c =
    subst (λ (ws : List (Bor (List ℕ))). IsBehind (AreLines IsNamelessMessage ws) c.args.out.now.items c.words.out.items)
    (take_all c.words.word-index c.args.words.now c.words-test.false) c.words.invariant
