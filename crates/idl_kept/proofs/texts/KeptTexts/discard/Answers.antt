-- No draft is left.
use Rattle.idl_kept.proofs.Drafts.{discarded-kept, same-kept}
use Rattle.idl_kept.specs.Texts.{Texts, without_drafts}
use Rattle.idl_kept.proofs.texts.KeptTexts.discard.Goals as goal

pub invariant_of-self : goal.invariant_of-self
invariant_of-self c =
    let texts : Texts = record { declarations = c.self.inside.declarations; blocks = c.self.inside.blocks; begins = c.self.inside.begins } in
    let new = c.discard_each.new in
    let by = c.discard_each.ensures in
    same-kept (without_drafts texts) new.declarations new.blocks new.begins by.declarations by.blocks by.begins (discarded-kept texts c.self.invariant)
