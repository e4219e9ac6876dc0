use Rattle.std.proofs.Common.{◌∙◌, ◌++◌, ℕ, Bor, List, ap, subst}
use Rattle.idl_driver.specs.declared.failure.CompileFault.{CompileFault}
use Rattle.idl_tool.specs.Messages.{AreLines, IsFaultMessage, IsNamelessMessage}
use Rattle.idl_tool.proofs.faults.troubles_text.Goals as goal

pub returns : goal.returns
returns c =
    let first = c.in_ok-push_nameless.ensures in
    let second = c.in_ok-push_faults.ensures in (
      first.0,
      second.0,
      subst (λ (ws : List (Bor (List ℕ))). AreLines IsNamelessMessage ws first.0) c.deref.ensures.value first.1,
      subst (λ (fs : List CompileFault). AreLines IsFaultMessage fs second.0) c.deref-2.ensures.value second.1,
      second.2 ∙ ap (λ (t : List ℕ). t ++ second.0) (first.2 ∙ ap (λ (t : List ℕ). t ++ first.0) c.new-text.ensures.items),
    )
