-- The lists of a root are out.
use Rattle.idl_kept.proofs.Drafts.{removed-kept, same-kept}
use Rattle.idl_kept.specs.Drafts.{removed_texts}
use Rattle.idl_kept.specs.Texts.{Texts}
use Rattle.idl_kept.proofs.texts.KeptTexts.remove.Goals as goal

pub invariant_of-self : goal.invariant_of-self
invariant_of-self c =
    let texts : Texts = record { declarations = c.self.inside.declarations; blocks = c.self.inside.blocks; begins = c.self.inside.begins } in
    same-kept (removed_texts texts c.args.root) c.remove.new.self c.remove-2.new.self c.remove-3.new.self c.remove.ensures c.remove-2.ensures c.remove-3.ensures (removed-kept texts c.args.root c.self.invariant)
