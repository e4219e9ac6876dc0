-- The drafts are in the places of their lists.
use Rattle.idl_kept.proofs.Drafts.{committed-kept, same-kept}
use Rattle.idl_kept.specs.Drafts.{committed_texts}
use Rattle.idl_kept.specs.Texts.{Texts}
use Rattle.idl_kept.proofs.texts.KeptTexts.commit.Goals as goal

pub invariant_of-self : goal.invariant_of-self
invariant_of-self c =
    let texts : Texts = record { declarations = c.self.inside.declarations; blocks = c.self.inside.blocks; begins = c.self.inside.begins } in
    same-kept (committed_texts texts) c.commit.new.self c.commit-2.new.self c.commit-3.new.self c.commit.ensures c.commit-2.ensures c.commit-3.ensures (committed-kept texts c.self.invariant)
