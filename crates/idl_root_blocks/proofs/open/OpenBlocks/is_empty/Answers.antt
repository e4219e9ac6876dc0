use Rattle.std.proofs.Common.{arith, ap, length, sym, vec_len, ◌∙◌}
use Rattle.std.proofs.lemmas.Bool.{eq-eqb, eqb-true}
use Rattle.idl_root_blocks.specs.Asking.{Opened, seen_blocks}
use Rattle.idl_root_blocks.proofs.Helds.{none-of, seen-nothing}
use Rattle.idl_root_blocks.proofs.open.OpenBlocks.is_empty.Goals as goal

pub returns : goal.returns
returns c =
    let blocks = c.self.inside.blocks in
    let seen = ap (λ (o : Opened). o.blocks) c.self.view_is in (
      λ yes. sym seen ∙ ap seen_blocks (none-of blocks.items (omega (arith, eqb-true (vec_len blocks) 0 (sym c.is_empty.ensures ∙ yes), blocks.ok.0))),
      λ none. c.is_empty.ensures ∙ eq-eqb (vec_len blocks) 0 (omega (arith, ap length (seen-nothing blocks.items (seen ∙ none)), blocks.ok.0)),
    )
