use Rattle.std.proofs.Common.{◌≡◌, ◌∙◌, ◌&&◌, [], refl, subst, sym, ap}
use Rattle.std.specs.Cmp.Lexicographic.{pointwise}
use Rattle.std.specs.List.{list_all}
use Rattle.std.specs.Option.{option_eq}
use Rattle.idl_root_blocks.specs.verdicts.Standing.{AreStanding, IsBlockFront, block_end}
use Rattle.idl_env.specs.Facts.{answers}
use Rattle.idl_env.specs.SameAnswer.{answer_eq}
use Rattle.idl_env.specs.SameKey.{same_key}
use Rattle.idl_env.specs.keys.Digested.{key_equiv}
use Rattle.idl_env.specs.keys.Key.{key_eq}
use Rattle.idl_memo.proofs.FreshTasks.{is_alike-class, is_alike-means}
use Rattle.idl_memo.proofs.QueryLaws.{Agree-from_log, IsLogOf-run, outcome-agree}
use Rattle.idl_memo.specs.Fresh.{log_at}
use Rattle.idl_memo.specs.Query.{HoldsIn, asked, noted_all}
use Rattle.idl_root_blocks.proofs.Comes.{of-block}
use Rattle.idl_root_blocks.proofs.Likes.{like-equiv, like-parts, like-query}
use Rattle.idl_root_blocks.proofs.Results.{asks-block}
use Rattle.idl_root_blocks.specs.Blocks.{parts_of, plain_text}
use Rattle.idl_root_blocks.specs.Met.{block_text_eq}
use Rattle.idl_root_blocks.specs.Places.{BlockEnd, ComesTo, block_query}
use Rattle.idl_root_blocks.specs.contracts.text.BlockPartPartialEq.TheImpl.{ghosts as parts}
use Rattle.idl_root_blocks.proofs.blocks.taking.Goals as goal

pub returns-clause-parts : goal.returns-clause-parts
returns-clause-parts c = λ text b. of-block text b

pub returns-clause-here : goal.returns-clause-here
returns-clause-here c = λ before text b standing.
    (c.alike.ensures before before (parts_of text) (of-block text b) standing standing (λ k d below. refl)).0

pub returns-clause-agreed : goal.returns-clause-agreed
returns-clause-agreed c = λ before other text b standing there agree.
    c.alike.ensures before other (parts_of text) (of-block text b) standing there agree

pub returns-clause-alike : goal.returns-clause-alike
returns-clause-alike c = λ before other text there b standing standing_there is.
    let end : BlockEnd = block_end (answers before) (parts_of text) in
    let means =
    (is_alike-means block_text_eq (like-equiv c.exact.ensures.equal) (option_eq answer_eq) c.exact-2.ensures.equal.refl c.exact-2.ensures.same
    block_query (like-query c.exact.ensures.same) (there, answers other) (text, answers before)).0 is in
    let same_parts : parts_of there ≡ parts_of text = like-parts c.exact.ensures.same there text means.0 in
    let again : block_end (answers other) (parts_of text) ≡ end = outcome-agree (block_query text) (answers before) (answers other) means.1 in
    let same : block_end (answers other) (parts_of there) ≡ end = ap (λ ps. block_end (answers other) ps) same_parts ∙ again in
    let own : AreStanding other (block_end (answers other) (parts_of there)).1 = subst (λ (e : BlockEnd). AreStanding other e.1) (sym same) standing_there in
    let block : IsBlockFront (parts_of there) = subst IsBlockFront (sym same_parts) (of-block text b) in (
      (c.alike.ensures before before (parts_of text) (of-block text b) standing standing (λ k d below. refl)).0,
      subst (ComesTo other there) same (c.alike.ensures other other (parts_of there) block own own (λ k d below. refl)).0,
    )

pub returns-clause-asks : goal.returns-clause-asks
returns-clause-asks c = λ here task. (
  ap (λ keys. block_text_eq here.0 task.0 && list_all (λ k. option_eq answer_eq (here.1 k) (task.1 k)) keys) (asks-block task.0 task.1),
  ap (noted_all key_eq here.1 []) (asks-block here.0 here.1),
)

pub returns-clause-kept : goal.returns-clause-kept
returns-clause-kept c = λ here task.
    let log = ap (noted_all key_eq task.1 []) (asks-block task.0 task.1) in (
      λ one. (is_alike-means block_text_eq (like-equiv c.exact.ensures.equal) (option_eq answer_eq) c.exact-2.ensures.equal.refl c.exact-2.ensures.same
          block_query (like-query c.exact.ensures.same) here task).1 (
            ap (pointwise parts.eq (plain_text here.0)) one.text_is ∙ c.exact.ensures.equal.refl (plain_text here.0),
            Agree-from_log (asked (block_query task.0) task.1) task.1 here.1 (log_at key_eq block_query task)
                (IsLogOf-run key_eq key_equiv.refl same_key (block_query task.0) task.1) (subst (HoldsIn here.1) log one.answers),
          ),
      λ is. (let class =
          (is_alike-class block_text_eq (like-equiv c.exact.ensures.equal) (option_eq answer_eq) c.exact-2.ensures.equal.refl c.exact-2.ensures.same
          block_query (like-query c.exact.ensures.same) key_eq key_equiv.refl same_key here task).0 is in
          record {
            text_is = sym (c.exact.ensures.same (plain_text here.0) (plain_text task.0) class.0);
            answers = subst (HoldsIn here.1) (class.1 ∙ sym log) (IsLogOf-run key_eq key_equiv.refl same_key (block_query here.0) here.1).answers;
          }),
    )
