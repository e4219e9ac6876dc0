use Rattle.std.proofs.Common.{◌≡◌, ◌∙◌, ap, subst, sym}
use Rattle.std.proofs.lemmas.Option.{same_Some}
use Rattle.idl_env.specs.Facts.{answers}
use Rattle.idl_kept.specs.Texts.{BlockResult}
use Rattle.idl_memo.specs.Query.{HoldsIn}
use Rattle.idl_root.proofs.WholeLemmas.{block-holds}
use Rattle.idl_root_blocks.specs.Places.{block_result}
use Rattle.idl_root_blocks.specs.Units.{text_of}
use Rattle.idl_store.specs.Spots.{result_on}
use Rattle.idl_root.proofs.kept.keeping.Keeping.take_block.Goals as goal

pub ask_block-requires-clause-held : goal.ask_block-requires-clause-held
ask_block-requires-clause-held c =
    let env = c.args.env.now in
    let text = text_of c.args.units.now in
    let here : BlockResult = block_result (text, answers env) in
    let same : c.in-Some.block.now.value ≡ here = same_Some c.in-Some.block.now.value here (c.in-Some.ensures ∙ ap (λ s. result_on s c.args.spot) c.blocks-2.ensures ∙ c.requires.found) in
    subst (λ fs. HoldsIn (answers fs) c.deref.result.now.log) (sym c.get.ensures)
    (subst (λ (r : BlockResult). HoldsIn (answers env) r.log) (sym (c.deref.ensures ∙ same)) (block-holds text env))
