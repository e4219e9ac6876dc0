-- A block comes as it stood elsewhere; and so it stands here.
use Rattle.std.proofs.Common.{◌≡◌, ◌∙◌, Some, ap, subst, sym}
use Rattle.std.proofs.lemmas.Option.{same_Some}
use Rattle.idl_kept.proofs.Drafts.{discarded-kept, same-kept}
use Rattle.idl_kept.proofs.Putting.{SameResults, has-part, is-taken, taken-kept, units-here, whole-here}
use Rattle.idl_kept.specs.Texts.{BlockResult, DeclarationResult, IsTaken, Texts, without_drafts}
use Rattle.idl_root_blocks.specs.Blocks.{cut}
use Rattle.idl_root_blocks.specs.Finding.{blocks_in, texts_in}
use Rattle.idl_root_blocks.specs.Places.{block_at, block_result}
use Rattle.idl_store.specs.Spots.{result_on}
use Rattle.idl_store.specs.Stored.{Stored}
use Rattle.idl_store.specs.declared.numbers.Spot.{Spot}
use Rattle.idl_kept.proofs.texts.KeptTexts.take_block.Goals as goal

pub take_each-requires : goal.take_each-requires
take_each-requires c =
    let texts : Texts = record { declarations = c.self.inside.declarations; blocks = c.self.inside.blocks; begins = c.self.inside.begins } in
    let there : result_on texts.blocks c.args.spot ≡ Some c.requires.kept = ap (λ (t : Texts). result_on t.blocks c.args.spot) c.self.view_is ∙ c.requires.there in
    has-part texts c.self.invariant c.args.spot c.requires.kept there c.args.units c.args.inner c.requires.units c.requires.inner

pub invariant_of-self : goal.invariant_of-self
invariant_of-self c =
    let texts : Texts = record { declarations = c.self.inside.declarations; blocks = c.self.inside.blocks; begins = c.self.inside.begins } in
    let there : result_on texts.blocks c.args.spot ≡ Some c.requires.kept = ap (λ (t : Texts). result_on t.blocks c.args.spot) c.self.view_is ∙ c.requires.there in
    let new = c.take_each.new in
    let by = c.in-Ok.ensures in
    taken-kept texts c.self.invariant c.args.spot c.requires.kept there c.args.units c.args.inner c.requires.units c.requires.inner
    new.declarations new.blocks new.begins c.in-Ok.place by.begin by.declarations (by.blocks c.requires.kept there) by.begins

pub invariant_of-self-in-Err : goal.invariant_of-self-in-Err
invariant_of-self-in-Err c =
    let texts : Texts = record { declarations = c.self.inside.declarations; blocks = c.self.inside.blocks; begins = c.self.inside.begins } in
    let new = c.discard_each.new in
    let by = c.discard_each.ensures in
    let left = c.in-Err.ensures in
    same-kept (without_drafts texts) new.declarations new.blocks new.begins (by.declarations ∙ left.units_left) (by.blocks ∙ left.blocks_left) (by.begins ∙ left.begins_left)
    (discarded-kept texts c.self.invariant)

pub returns-in-Ok-clause-taken : goal.returns-in-Ok-clause-taken
returns-in-Ok-clause-taken c = λ kept there_now.
    let texts : Texts = record { declarations = c.self.inside.declarations; blocks = c.self.inside.blocks; begins = c.self.inside.begins } in
    let there : result_on texts.blocks c.args.spot ≡ Some kept = ap (λ (t : Texts). result_on t.blocks c.args.spot) c.self.view_is ∙ there_now in
    let same : c.requires.kept ≡ kept = same_Some c.requires.kept kept (sym c.requires.there ∙ there_now) in
    let own = c.requires.units ∙ ap (λ (k : BlockResult). texts_in k.text) same in
    let nested = c.requires.inner ∙ ap (λ (k : BlockResult). blocks_in (cut k.text)) same in
    let new = c.take_each.new in
    let by = c.in-Ok.ensures in
    let after : Texts = record { declarations = new.declarations; blocks = new.blocks; begins = new.begins } in
    let from : Spot = record { is_draft = c.args.spot.is_draft; list = c.args.spot.list; place = c.in-Ok.place } in
    subst (λ (t : Texts). IsTaken t after kept from) c.self.view_is
    (is-taken texts c.self.invariant c.args.spot kept there c.args.units c.args.inner own nested new.declarations new.blocks new.begins c.in-Ok.place by.begin by.declarations (by.blocks kept there) by.begins)

pub returns-in-Ok-clause-ok : goal.returns-in-Ok-clause-ok
returns-in-Ok-clause-ok c = λ before inside placed there.
    let new = c.take_each.new in
    let after : Texts = record { declarations = new.declarations; blocks = new.blocks; begins = new.begins } in
    let from : Spot = record { is_draft = c.args.spot.is_draft; list = c.args.spot.list; place = c.in-Ok.place } in
    let same : SameResults = λ place here pieces placed_there placed_here one. (c.alike_at.ensures.units place here pieces placed_there placed_here one, c.alike_at.ensures.inner place here pieces placed_there placed_here one) in
    whole-here same c.args.self.now after from before inside placed (returns-in-Ok-clause-taken c (block_result (block_at before inside)) there)

pub returns-in-Ok-clause-units : goal.returns-in-Ok-clause-units
returns-in-Ok-clause-units c = λ before inside placed there.
    let new = c.take_each.new in
    let after : Texts = record { declarations = new.declarations; blocks = new.blocks; begins = new.begins } in
    let from : Spot = record { is_draft = c.args.spot.is_draft; list = c.args.spot.list; place = c.in-Ok.place } in
    let same : SameResults = λ place here pieces placed_there placed_here one. (c.alike_at.ensures.units place here pieces placed_there placed_here one, c.alike_at.ensures.inner place here pieces placed_there placed_here one) in
    units-here same c.args.self.now after from before inside placed (returns-in-Ok-clause-taken c (block_result (block_at before inside)) there)

pub returns-in-Ok-clause-lists : goal.returns-in-Ok-clause-lists
returns-in-Ok-clause-lists c =
    let texts : Texts = record { declarations = c.self.inside.declarations; blocks = c.self.inside.blocks; begins = c.self.inside.begins } in
    let there : result_on texts.blocks c.args.spot ≡ Some c.requires.kept = ap (λ (t : Texts). result_on t.blocks c.args.spot) c.self.view_is ∙ c.requires.there in
    let by = c.in-Ok.ensures in
    record {
      declarations = ap (λ (s : Stored DeclarationResult). s.lists) by.declarations ∙ ap (λ (t : Texts). t.declarations.lists) c.self.view_is;
      blocks = ap (λ (s : Stored BlockResult). s.lists) (by.blocks c.requires.kept there) ∙ ap (λ (t : Texts). t.blocks.lists) c.self.view_is;
      begins = ap (λ (s : Stored _). s.lists) by.begins ∙ ap (λ (t : Texts). t.begins.lists) c.self.view_is;
    }
