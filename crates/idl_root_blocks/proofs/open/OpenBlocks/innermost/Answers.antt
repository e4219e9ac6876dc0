use Rattle.std.proofs.Common.{◌-◌, ap, arith, length, sym, ◌∙◌}
use Rattle.idl_root_blocks.specs.Asking.{Opened, seen_blocks}
use Rattle.idl_root_blocks.proofs.Helds.{started-last}
use Rattle.idl_root_blocks.proofs.open.OpenBlocks.innermost.Goals as goal

pub returns-clause-some : goal.returns-clause-some
returns-clause-some c =
    let blocks = c.deref.result.now in
    let found = started-last blocks (length blocks - 1) c.in_ok-last.field-0.now (omega (arith, c.in_ok-last.ensures.item.3.0)) c.in_ok-last.ensures.item.1 in (
      found.0,
      found.1,
      sym (ap (λ (o : Opened). o.blocks) c.self.view_is) ∙ ap seen_blocks (sym c.deref.ensures.value) ∙ found.2,
      found.3,
    )
