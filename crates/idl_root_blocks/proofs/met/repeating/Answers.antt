use Rattle.std.proofs.Common.{ap, refl}
use Rattle.std.specs.Option.{option_eq}
use Rattle.idl_root_blocks.specs.verdicts.Standing.{unit_asks}
use Rattle.idl_env.specs.SameAnswer.{answer_eq}
use Rattle.idl_env.specs.keys.Key.{key_eq}
use Rattle.idl_memo.proofs.FreshTasks.{is_alike-class}
use Rattle.idl_root_blocks.proofs.Likes.{like-equiv, like-query}
use Rattle.idl_root_blocks.proofs.Repeats.{compared-known, known-itself}
use Rattle.idl_root_blocks.specs.Blocks.{plain_text}
use Rattle.idl_root_blocks.specs.Met.{block_text_eq, unit_text_eq}
use Rattle.idl_root_blocks.specs.Places.{block_query}
use Rattle.idl_root_blocks.proofs.met.repeating.Goals as goal

pub returns-clause-all : goal.returns-clause-all
returns-clause-all c = λ known facts pieces h. compared-known pieces known facts h

pub returns-clause-itself : goal.returns-clause-itself
returns-clause-itself c = known-itself
    (λ here. (is_alike-class unit_text_eq c.exact.ensures.equal (option_eq answer_eq) c.exact-3.ensures.equal.refl c.exact-3.ensures.same unit_asks (λ x y is. ap unit_asks (c.exact.ensures.same x y is))
    key_eq c.exact-4.ensures.equal.refl c.exact-4.ensures.same here here).1 (c.exact.ensures.equal.refl here.0, refl))
    (λ here. (is_alike-class block_text_eq (like-equiv c.exact-2.ensures.equal) (option_eq answer_eq) c.exact-3.ensures.equal.refl c.exact-3.ensures.same block_query (like-query c.exact-2.ensures.same)
    key_eq c.exact-4.ensures.equal.refl c.exact-4.ensures.same here here).1 (c.exact-2.ensures.equal.refl (plain_text here.0), refl))
