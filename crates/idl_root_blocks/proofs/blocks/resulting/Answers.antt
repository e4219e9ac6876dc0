use Rattle.std.proofs.Common.{◌≡◌, ◌∙◌, ◌∷◌, [], List, append-nil, map, subst, sym, ap}
use Rattle.std.specs.Option.{option_eq}
use Rattle.idl_block.proofs.ResultLaws.{results-alike}
use Rattle.idl_block.specs.Blocks.{unit_places}
use Rattle.idl_root_blocks.specs.verdicts.Standing.{AreStanding, block_end}
use Rattle.idl_env.specs.Facts.{answers, boundary}
use Rattle.idl_env.specs.SameAnswer.{answer_eq}
use Rattle.idl_env.specs.declared.additions.addition.Step.TheVariants.{Enters}
use Rattle.idl_env.specs.keys.Key.{key_eq}
use Rattle.idl_memo.proofs.FreshTasks.{is_alike-means}
use Rattle.idl_memo.proofs.QueryLaws.{outcome-agree}
use Rattle.idl_root_blocks.proofs.Comes.{of-block}
use Rattle.idl_root_blocks.proofs.Fronts.{ended}
use Rattle.idl_root_blocks.proofs.Insides.{results-inside}
use Rattle.idl_root_blocks.proofs.Likes.{like-equiv, like-parts, like-query}
use Rattle.idl_root_blocks.proofs.Results.{outer-agree, placed}
use Rattle.idl_root_blocks.specs.Blocks.{parts_of, text_in}
use Rattle.idl_root_blocks.specs.Met.{block_text_eq}
use Rattle.idl_root_blocks.specs.Places.{BlockEnd, block_at, block_query, block_result, blocks_over, declaration_result, declarations_over, unit_ways, with_entering}
use Rattle.idl_root_blocks.proofs.blocks.resulting.Goals as goal

pub returns-clause-units : goal.returns-clause-units
returns-clause-units c = λ before other text there b standing standing_there is.
    let parts = parts_of text in
    let entered = boundary Enters ∷ [] in
    let means =
    (is_alike-means block_text_eq (like-equiv c.exact.ensures.equal) (option_eq answer_eq) c.exact-2.ensures.equal.refl c.exact-2.ensures.same
    block_query (like-query c.exact.ensures.same) (there, answers other) (text, answers before)).0 is in
    let again : block_end (answers other) parts ≡ block_end (answers before) parts = outcome-agree (block_query text) (answers before) (answers other) means.1 in
    let own : AreStanding other (block_end (answers other) parts).1 = subst (λ (e : BlockEnd). AreStanding other e.1) (sym again) standing_there in
    let asks = c.enough.ensures before parts (of-block text b) standing in
    let asks_there = c.enough.ensures other parts (of-block text b) own in
    let known = c.knowing.ensures.known (answers before) parts asks in
    let same =
    results-alike unit_ways key_eq answers before other parts entered known (outer-agree text (answers before) (answers other) known means.1)
    (c.knowing.ensures.over before parts asks) (c.knowing.ensures.over other parts asks_there) in
    ap (map declaration_result) (placed there (with_entering other))
    ∙ ap (λ ps. map declaration_result (unit_places unit_ways answers ps (with_entering other))) (like-parts c.exact.ensures.same there text means.0)
    ∙ same
    ∙ ap (map declaration_result) (sym (placed text (with_entering before)))

pub returns-clause-blocks : goal.returns-clause-blocks
returns-clause-blocks c = λ before other inside b are_cut standing standing_there is.
    let text = text_in inside in
    let means =
    (is_alike-means block_text_eq (like-equiv c.exact.ensures.equal) (option_eq answer_eq) c.exact-2.ensures.equal.refl c.exact-2.ensures.same
    block_query (like-query c.exact.ensures.same) (block_at other inside) (block_at before inside)).0 is in
    let again : block_end (answers other) (parts_of text) ≡ block_end (answers before) (parts_of text) = outcome-agree (block_query text) (answers before) (answers other) means.1 in
    let own : AreStanding other (ended other text) = subst (λ (e : BlockEnd). AreStanding other e.1) (sym again) standing_there in
    results-inside c.enough.ensures c.walked.ensures c.more_turns.ensures c.nested.ensures before other text (of-block text b) standing own means.1 inside [] [] (sym (append-nil text)) are_cut
