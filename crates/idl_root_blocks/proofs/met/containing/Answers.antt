use Rattle.std.proofs.Common.{◌≡◌, ◌∙◌, Option, subst, sym, ap}
use Rattle.std.specs.Option.{option_eq}
use Rattle.std.specs.Prelude.{true}
use Rattle.idl_check_laws.specs.idl_check.declared.walk.verdict.Verdict.{Verdict}
use Rattle.idl_root_blocks.specs.verdicts.Standing.{AreStanding, block_end, unit_asks}
use Rattle.idl_env.specs.Facts.{answers}
use Rattle.idl_env.specs.SameAnswer.{answer_eq}
use Rattle.idl_env.specs.declared.answering.answer.Answer.{Answer}
use Rattle.idl_env.specs.declared.keys.key.Key.{Key}
use Rattle.idl_env.specs.keys.Key.{key_eq}
use Rattle.idl_memo.proofs.FreshTasks.{is_alike-class, is_alike-means}
use Rattle.idl_memo.proofs.QueryLaws.{outcome-agree}
use Rattle.idl_memo.specs.Kept.{Kept}
use Rattle.idl_root_blocks.proofs.Likes.{like-equiv, like-parts, like-query}
use Rattle.idl_root_blocks.proofs.Wholes.{each-passes, passing, pieces-block, pieces-loose, pieces-none, stand-over, whole-with}
use Rattle.idl_root_blocks.specs.Blocks.{parts_of, text_in}
use Rattle.idl_root_blocks.specs.Met.{IsKnownWhole, alike_block, alike_unit, block_text_eq, unit_text_eq}
use Rattle.idl_root_blocks.specs.Places.{BlockEnd, DeclarationPlace, block_at, block_query, declaration_result, declarations_over, with_entering}
use Rattle.idl_unit.specs.declared.unit.UnitText.{UnitText}
use Rattle.idl_root_blocks.proofs.met.containing.Goals as goal

pub returns-clause-known : goal.returns-clause-known
returns-clause-known c = λ known facts inside whole b standing is.
    let found = passing (IsKnownWhole known) (alike_block (block_at facts inside)) known.blocks whole is in
    let w = found.1.0 in
    let alike : alike_block (block_at facts inside) (block_at w.before w.inside) ≡ true = ap (alike_block (block_at facts inside)) (sym w.stood) ∙ found.1.1 in
    let means =
    (is_alike-means block_text_eq (like-equiv c.exact-2.ensures.equal) (option_eq answer_eq) c.exact-3.ensures.equal.refl c.exact-3.ensures.same
    block_query (like-query c.exact-2.ensures.same) (block_at facts inside) (block_at w.before w.inside)).0 alike in
    let same : block_end (answers facts) (parts_of (text_in inside)) ≡ block_end (answers w.before) (parts_of (text_in w.inside)) =
    ap (λ ps. block_end (answers facts) ps) (like-parts c.exact-2.ensures.same (text_in inside) (text_in w.inside) means.0) ∙ outcome-agree (block_query (text_in w.inside)) (answers w.before) (answers facts) means.1 in
    let there : AreStanding facts (block_end (answers w.before) (parts_of (text_in w.inside))).1 = subst (λ (e : BlockEnd). AreStanding facts e.1) same standing in
    let units : (x y : DeclarationPlace) → declaration_result x ≡ declaration_result y → alike_unit x y ≡ true =
    λ x y same. (is_alike-class unit_text_eq c.exact.ensures.equal (option_eq answer_eq) c.exact-3.ensures.equal.refl c.exact-3.ensures.same unit_asks (λ x y is. ap unit_asks (c.exact.ensures.same x y is))
    key_eq c.exact-4.ensures.equal.refl c.exact-4.ensures.same x y).1
    (ap (λ (k : Kept Key (Option Answer) UnitText Verdict). unit_text_eq k.text y.0) same ∙ c.exact.ensures.equal.refl y.0, ap (λ (k : Kept Key (Option Answer) UnitText Verdict). k.log) same) in
    each-passes declaration_result alike_unit known.declarations units (declarations_over (with_entering facts) (text_in inside)) (declarations_over (with_entering w.before) (text_in w.inside))
    (c.resulting.ensures.units w.before facts (text_in w.inside) (text_in inside) w.is_block w.standing there alike) w.units

pub returns-clause-pieces : goal.returns-clause-pieces
returns-clause-pieces c = λ known facts pieces whole cut told turns count.
    whole-with known facts pieces whole cut (stand-over c.walked.ensures c.more_turns.ensures pieces facts cut told (record { turns = turns; count = count }))

pub returns-clause-none : goal.returns-clause-none
returns-clause-none c = pieces-none

pub returns-clause-loose : goal.returns-clause-loose
returns-clause-loose c = pieces-loose

pub returns-clause-block : goal.returns-clause-block
returns-clause-block c = pieces-block
