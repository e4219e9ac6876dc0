-- A draft more of each.
use Rattle.idl_kept.proofs.Drafts.{begun-kept, same-kept}
use Rattle.idl_kept.specs.Drafts.{begun_texts}
use Rattle.idl_kept.specs.Texts.{Texts}
use Rattle.idl_kept.proofs.texts.KeptTexts.begin.Goals as goal

pub invariant_of-self : goal.invariant_of-self
invariant_of-self c =
    let texts : Texts = record { declarations = c.self.inside.declarations; blocks = c.self.inside.blocks; begins = c.self.inside.begins } in
    let new = c.begin_each.new in
    let by = c.in-Ok.ensures in
    same-kept (begun_texts texts c.args.root) new.declarations new.blocks new.begins by.declarations by.blocks by.begins (begun-kept texts c.args.root c.self.invariant)
