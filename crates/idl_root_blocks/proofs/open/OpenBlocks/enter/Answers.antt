use Rattle.std.proofs.Common.{◌++◌, ◌∷◌, [], ap, length, ◌∙◌}
use Rattle.idl_root_blocks.specs.Asking.{Opened, seen_blocks}
use Rattle.idl_root_blocks.proofs.Helds.{entered-last}
use Rattle.idl_root_blocks.proofs.Noting.{entered-all}
use Rattle.idl_root_blocks.proofs.open.OpenBlocks.enter.Goals as goal

pub returns-clause-blocks : goal.returns-clause-blocks
returns-clause-blocks c =
    ap seen_blocks c.in_ok-push.ensures.items
    ∙ entered-last c.self.inside.blocks.items c.new.result c.args.text (length c.args.env.now) c.new.ensures.noted c.new.ensures.text (c.new.ensures.start ∙ c.len.ensures)
    ∙ ap (λ (o : Opened). o.blocks ++ record { text = c.args.text; start = length c.args.env.now; log = [] } ∷ []) c.self.view_is

pub returns-clause-noted : goal.returns-clause-noted
returns-clause-noted c =
    let blocks =
    ap seen_blocks c.in_ok-push.ensures.items
    ∙ entered-last c.self.inside.blocks.items c.new.result c.args.text (length c.args.env.now) c.new.ensures.noted c.new.ensures.text (c.new.ensures.start ∙ c.len.ensures)
    ∙ ap (λ (o : Opened). o.blocks ++ record { text = c.args.text; start = length c.args.env.now; log = [] } ∷ []) c.self.view_is in
    entered-all c.args.env.now c.requires.0 c.requires.1 c.requires.2 c.args.self.now _ c.requires.3 c.args.text blocks (ap (λ (o : Opened). o.asked) c.self.view_is)
