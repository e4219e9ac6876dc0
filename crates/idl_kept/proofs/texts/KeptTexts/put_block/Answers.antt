-- A block that is left comes.
use Rattle.std.proofs.Common.{◌∙◌, ◌∷◌, [], refl, subst, sym}
use Rattle.idl_kept.proofs.Drafts.{discarded-kept, same-kept}
use Rattle.idl_kept.proofs.Putting.{put-kept}
use Rattle.idl_kept.specs.Texts.{IsLast, Texts, with_blocks, without_drafts}
use Rattle.idl_kept.proofs.texts.KeptTexts.put_block.Goals as goal

pub invariant_of-self : goal.invariant_of-self
invariant_of-self c =
    let texts : Texts = record { declarations = c.self.inside.declarations; blocks = c.self.inside.blocks; begins = c.self.inside.begins } in
    let new = c.put_each.new in
    let by = c.in-Ok.ensures in
    let kept = c.args.kept.value in
    let begin = c.args.begin in
    let last : IsLast texts begin c.requires.0 c.requires.1 = subst (λ (t : Texts). IsLast t begin c.requires.0 c.requires.1) (sym c.self.view_is) c.requires.2.1.0 in
    same-kept (with_blocks texts (kept ∷ []) (begin ∷ [])) texts.declarations new.blocks new.begins refl by.blocks by.begins
    (put-kept texts c.self.invariant kept begin c.requires.0 c.requires.1 c.requires.2.0 last c.requires.2.1.1)

pub invariant_of-self-in-Err : goal.invariant_of-self-in-Err
invariant_of-self-in-Err c =
    let texts : Texts = record { declarations = c.self.inside.declarations; blocks = c.self.inside.blocks; begins = c.self.inside.begins } in
    let new = c.discard_each.new in
    let by = c.discard_each.ensures in
    same-kept (without_drafts texts) new.declarations new.blocks new.begins by.declarations (by.blocks ∙ c.in-Err.ensures.blocks_left) (by.begins ∙ c.in-Err.ensures.begins_left)
    (discarded-kept texts c.self.invariant)
