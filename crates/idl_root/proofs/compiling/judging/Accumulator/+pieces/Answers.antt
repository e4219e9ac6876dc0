use Rattle.std.proofs.Common.{rules, ℕ, ◌≡◌, ◌<◌, ◌≤◌, ◌^◌, ◌∙◌, ◌∷◌, ◌++◌, [], false, arith, List, ap, length, subst, sym, if◌then◌else◌}
use Rattle.std.proofs.lemmas.List.{nil_from_length}
use Rattle.std.specs.Prelude.{All, Any}
use Rattle.idl_root_blocks.proofs.VerdictLaws.Told.{files-told}
use Rattle.idl_root_blocks.specs.idl_check_laws.Closing.{AreTold}
use Rattle.idl_env.specs.Facts.{UnitFacts, answers, boundary, count_in}
use Rattle.idl_env.specs.Turns.{most_turns, turns_for}
use Rattle.idl_env.specs.declared.additions.addition.Step.TheVariants.{Enters as EntersFile}
use Rattle.idl_env.specs.declared.keys.key.Key.TheVariants.{Nameless}
use Rattle.idl_kept.specs.Texts.{Texts}
use Rattle.idl_memo.specs.Meter.{compared_after}
use Rattle.idl_memo.specs.declared.meter.Meter.{Meter}
use Rattle.idl_root.proofs.ComeLemmas.{come-block, come-facts, come-gathered}
use Rattle.idl_root.proofs.FrontLemmas.{cut-none, front-block, front-text, has-passed, lists-more, over-unit, passed-scratch, told-block, told-unit}
use Rattle.idl_root.proofs.JudgingLemmas.{to_come-more}
use Rattle.idl_root.proofs.LeftBlocks.{around, asked-left, block, innermost, keys-left, left, may-be-left, whole-left}
use Rattle.idl_root.proofs.PassedBlocks.{compares-entered, is-known, is-new, passed-block}
use Rattle.idl_root.proofs.PassedLemmas.{compares-none}
use Rattle.idl_root.proofs.PiecesLemmas.{facts-inside}
use Rattle.idl_root.proofs.TextLaws.{facts-text}
use Rattle.idl_root.specs.Added.{told_by}
use Rattle.idl_root.specs.Followed.{IsFollowing, IsKeeping, added_by}
use Rattle.idl_root_blocks.specs.Asking.{AreNoted as HaveNoted}
use Rattle.idl_root.specs.Held.{to_come, with_gathered, with_units}
use Rattle.idl_root.specs.Judged.{facts_after, judged_after, judged_at}
use Rattle.idl_root_blocks.specs.idl_check.walk.Verdict.{added}
use Rattle.idl_root.specs.Passed.{AllGoOn, ArePassed, Compares, MayBeLeft}
use Rattle.idl_root.specs.Results.{ChecksOnly, IsDeclarationPass, marks_in}
use Rattle.idl_root.specs.declared.kept.keeping.Keeping.{Keeping}
use Rattle.idl_root.specs.declared.kept.marks.Mark.{Mark}
use Rattle.idl_root.specs.declared.kept.marks.Mark.TheVariants.{Entered, Left}
use Rattle.idl_root_blocks.proofs.Cuts.{cut-whole}
use Rattle.idl_root_blocks.specs.Blocks.{Block, Nothing, Pieces, cut, text_in}
use Rattle.idl_root_blocks.specs.Finding.{in_front}
use Rattle.idl_root_blocks.specs.Met.{IsLike}
use Rattle.idl_root_blocks.specs.Places.{declarations_over, facts_over, with_entering}
use Rattle.idl_root_blocks.specs.Units.{parts_of_unit, text_of}
use Rattle.idl_root_blocks.specs.declared.text.BlockPart.TheVariants.{Enters, Leaves}
use Rattle.idl_store.specs.Stored.{results_in}
use Rattle.idl_root.proofs.compiling.judging.Accumulator.+pieces.Goals as goal

pub add_all-add_block-requires : goal.add_all-add_block-requires
add_all-add_block-requires t c =
    let here : c.units.left.now ≡ c.in-Some.unit.now ∷ c.in-Some.behind.now = search rules in
    let long = ap (λ l. length l) here in (
      omega (arith, c.units.invariant.0, c.in-Some-block_at.ensures.fewer, long),
      (
        front-block _ (text_of c.in-Some-block_at.inside.now) _ c.in-Some-block_at.ensures.some,
        (c.units.invariant.4, (c.units.invariant.5, c.units.invariant.6)),
      ),
    )

pub add_all-units-preserved-in-Some-block_at : goal.add_all-units-preserved-in-Some-block_at
add_all-units-preserved-in-Some-block_at t c =
    let env = c.units.env in
    let after = c.in_ok-env-in-Some-block_at.env in
    let unit = c.in-Some.unit.now in
    let units = c.in-Some.behind.now in
    let inside = c.in-Some-block_at.inside.now in
    let others = c.in-Some-block_at.others.now in
    let kept = c.units.kept in
    let next = c.add_block.new.kept in
    let keeping = c.units.keeping in
    let now = c.add_block.new.keeping in
    let own = cut (text_of inside) in
    let rest = cut (text_of others) in
    let is = c.in_ok-env-in-Some-block_at.ensures in
    let inv = c.units.invariant in
    let here : c.units.left.now ≡ unit ∷ units = search rules in
    let long = ap (λ l. length l) here in
    let pieces : cut (text_of c.units.left.now) ≡ Block own rest = ap (λ us. cut (text_of us)) here ∙ c.in-Some-block_at.ensures.some in
    let turns = subst (λ (fs : List UnitFacts). turns_for fs ≤ most_turns) c.get.ensures c.bounds_turns.ensures in (
      omega (arith, inv.0, c.in-Some-block_at.ensures.fewer, long),
      come-block env unit units inside others c.in-Some-block_at.ensures.units after c.units.self c.add_block.new.self is.env is.gathered ∙ ap (to_come (with_gathered env c.units.self)) (sym here) ∙ inv.1,
      lists-more c.args.kept.now kept next inv.2 is.lists,
      is.earlier ∙ inv.3,
      subst (λ ls. IsKeeping ls now after) (sym is.lists.declarations) (subst (IsKeeping kept.declarations.lists now) (facts-inside own Nothing env ∙ sym is.env) is.passed.keeping_is),
      told-block c.more_turns.ensures env after own is.env turns inv.5,
      has-passed env (Block own Nothing) kept next keeping now is.passed inv.6,
      λ new behind later. inv.7 new behind
          (subst (λ (p : Pieces). ArePassed env p kept keeping new behind) (sym pieces)
          (c.joining.ensures.block env own rest kept next new keeping now behind inv.6 is.passed (subst (λ (fs : List UnitFacts). ArePassed fs rest next now new behind) is.env later))),
      λ new later. inv.8 new
          (subst (λ (p : Pieces). Compares env p kept keeping.meter new) (sym pieces)
          (c.joining.ensures.compares_block env own rest kept next keeping.meter now.meter new inv.6 is.passed.kept_is is.compared
          (subst (λ (fs : List UnitFacts). Compares fs rest next now.meter new) is.env later))),
    )

pub add_all-units-preserved : goal.add_all-units-preserved
add_all-units-preserved t c =
    let env = c.units.env in
    let after = c.in_ok-env-in-None.env in
    let unit = c.in-Some.unit.now in
    let units = c.in-Some.behind.now in
    let parts = parts_of_unit unit in
    let kept = c.units.kept in
    let next = c.add_kept.new.kept in
    let keeping = c.units.keeping in
    let between = c.add_kept.new.keeping in
    let now = c.behind_added.new.keeping in
    let rest = cut (text_of units) in
    let is = c.in_ok-added-in-None.ensures in
    let inv = c.units.invariant in
    let same : c.get-in-None.result.now ≡ env = c.get-in-None.ensures in
    let here : c.units.left.now ≡ unit ∷ units = search rules in
    let long = ap (λ l. length l) here in
    let pieces : cut (text_of c.units.left.now) ≡ in_front parts rest = ap (λ us. cut (text_of us)) here ∙ c.in-None.ensures.none in
    let adds : after ≡ env ++ told_by c.in_ok-added-in-None.added = c.in_ok-env-in-None.ensures.env in
    let told : told_by c.in_ok-added-in-None.added ≡ added env unit = is.added ∙ ap (λ (fs : List UnitFacts). added fs unit) same in
    let over : after ≡ facts_over env parts = adds ∙ ap (λ l. env ++ l) told ∙ over-unit env unit in
    let turns = subst (λ (fs : List UnitFacts). turns_for fs ≤ most_turns) c.get-in-None-2.ensures c.bounds_turns-in-None.ensures in
    let passed : ArePassed env (in_front parts Nothing) kept keeping next now =
    passed-scratch env (in_front parts Nothing) kept next keeping between now c.in_ok-env-in-None.ensures.keeping
    (subst (λ (fs : List UnitFacts). ArePassed fs (in_front parts Nothing) kept keeping next between) same is.passed) in
    let compares : Compares env (in_front parts Nothing) kept keeping.meter now.meter =
    subst (λ (k : Keeping). Compares env (in_front parts Nothing) kept keeping.meter k.meter) (sym c.in_ok-env-in-None.ensures.keeping)
    (subst (λ (fs : List UnitFacts). Compares fs (in_front parts Nothing) kept keeping.meter between.meter) same is.compared) in (
      omega (arith, inv.0, long),
      to_come-more env (told_by c.in_ok-added-in-None.added) after c.units.self c.add_kept.new.self unit units told adds
          (λ fs. is.gathered fs ∙ ap (λ (gs : List UnitFacts). with_units (with_gathered fs c.units.self) (judged_at gs unit)) same)
          ∙ ap (to_come (with_gathered env c.units.self)) (sym here) ∙ inv.1,
      lists-more c.args.kept.now kept next inv.2 is.lists,
      passed.earlier ∙ inv.3,
      subst (λ ls. IsKeeping ls now after) (sym is.lists.declarations) (subst (IsKeeping kept.declarations.lists now) (ap (facts_over env) (front-text parts) ∙ sym over) passed.keeping_is),
      told-unit c.more_turns.ensures env after unit over turns inv.5,
      has-passed env (in_front parts Nothing) kept next keeping now passed inv.6,
      λ new behind later. inv.7 new behind
          (subst (λ (p : Pieces). ArePassed env p kept keeping new behind) (sym pieces)
          (c.joining.ensures.front env parts rest kept next new keeping now behind inv.6 passed (subst (λ (fs : List UnitFacts). ArePassed fs rest next now new behind) over later))),
      λ new later. inv.8 new
          (subst (λ (p : Pieces). Compares env p kept keeping.meter new) (sym pieces)
          (c.joining.ensures.compares_front env parts rest kept next keeping.meter now.meter new inv.6 passed.kept_is compares
          (subst (λ (fs : List UnitFacts). Compares fs rest next now.meter new) over later))),
    )

pub add_all-returns-clause-env : goal.add_all-returns-clause-env
add_all-returns-clause-env t c =
    let none = nil_from_length c.units.left.now c.in_default.ensures.cases in
    come-facts c.args.env c.units.env c.args.self.now c.units.self c.units.left.now c.args.units.now none c.units.invariant.1

pub add_all-returns-clause-gathered : goal.add_all-returns-clause-gathered
add_all-returns-clause-gathered t c =
    let none = nil_from_length c.units.left.now c.in_default.ensures.cases in
    come-gathered c.args.env c.units.env c.args.self.now c.units.self c.units.left.now c.args.units.now none c.units.invariant.1

pub add_all-returns-clause-passed : goal.add_all-returns-clause-passed
add_all-returns-clause-passed t c =
    let none = nil_from_length c.units.left.now c.in_default.ensures.cases in
    let env = c.units.env in
    let kept = c.units.kept in
    let keeping = c.units.keeping in
    c.units.invariant.7 kept keeping
    (subst (λ (p : Pieces). ArePassed env p kept keeping kept keeping) (sym (cut-none c.units.left.now none)) (c.joining.ensures.none env kept keeping c.units.invariant.4))

pub add_all-returns-clause-compared : goal.add_all-returns-clause-compared
add_all-returns-clause-compared t c =
    let none = nil_from_length c.units.left.now c.in_default.ensures.cases in
    let env = c.units.env in
    let kept = c.units.kept in
    let meter = c.units.keeping.meter in
    c.units.invariant.8 meter (subst (λ (p : Pieces). Compares env p kept meter meter) (sym (cut-none c.units.left.now none)) (compares-none env kept meter))

pub add_block-enter-requires : goal.add_block-enter-requires
add_block-enter-requires t c = (
  c.args.env,
  boundary EntersFile,
  c.get-2.ensures ∙ c.in_ok-env.ensures.env,
  subst (λ (k : Keeping). HaveNoted c.args.env k.blocks) (sym c.in_ok-env.ensures.rest) c.requires.keeping.noted,
)

pub add_block-add_all-requires : goal.add_block-add_all-requires
add_block-add_all-requires t c =
    let kept = c.args.kept.now in
    let lists = kept.declarations.lists in
    let env = c.in_ok-env.env in
    let own = c.in_ok-env.ensures.keeping lists c.requires.keeping in (
      omega arith,
      (
        record {
          follows = subst (λ (k : Keeping). IsFollowing lists k env) (sym c.in_ok-enter.ensures.rest) own.follows;
          noted = subst (λ (fs : List UnitFacts). HaveNoted fs c.enter.new.self.blocks) c.get-2.ensures c.in_ok-enter.ensures.noted;
        },
        (subst AreTold (sym c.in_ok-env.ensures.env) (files-told c.args.env EntersFile tt c.requires.told), c.requires.drafts),
      ),
    )

pub add_block-leave-requires : goal.add_block-leave-requires
add_block-leave-requires t c =
    let facts = c.args.env in
    let units = c.args.units.now in
    let text = text_of units in
    let kept = c.args.kept.now in
    let between = c.add_all.new.kept in
    let old = c.args.keeping.now in
    let first = c.beyond.new.keeping in
    let inside = c.enter.new.self in
    let later = c.add_all.new.keeping in
    let start : c.in_ok-env.env ≡ with_entering facts = c.in_ok-env.ensures.env in
    let enters : inside.blocks.blocks ≡ first.blocks.blocks ++ record { text = text; start = length (with_entering facts); log = [] } ∷ [] =
    c.in_ok-enter.ensures.blocks ∙ (λ i. first.blocks.blocks ++ record { text = c.in_ok-text_of.ensures i; start = length ((c.get-2.ensures ∙ start) i); log = [] } ∷ []) in
    let passed : ArePassed (with_entering facts) (cut text) kept inside between later = subst (λ (fs : List UnitFacts). ArePassed fs (cut text) kept inside between later) start c.in_ok-env-2.ensures.passed in
    let end : c.in_ok-env-2.env ≡ facts_over (with_entering facts) text =
    c.in_ok-env-2.ensures.env ∙ ap (λ (fs : List UnitFacts). facts_after fs units) start ∙ facts-text units (with_entering facts) in
    let turns = subst (λ (fs : List UnitFacts). turns_for fs ≤ most_turns) (c.get-3.ensures ∙ end) c.bound.ensures.turns in
    let count = subst (λ (fs : List UnitFacts). count_in (answers fs Nameless) < 2 ^ 64) (c.get-3.ensures ∙ end) c.bound.ensures.count in
    let stands = c.standing.ensures.here facts text (c.taking.ensures.parts text c.requires.block) c.requires.told turns count in (
      facts,
      cut text,
      left facts text c.requires.block c.taking.ensures.parts kept between old first inside later c.requires.drafts c.in_ok-env.ensures.rest enters c.in_ok-enter.ensures.rest passed,
      subst (λ n. MayBeLeft between n facts (cut text) (left facts text c.requires.block c.taking.ensures.parts kept between old first inside later c.requires.drafts c.in_ok-env.ensures.rest enters c.in_ok-enter.ensures.rest passed) later.blocks.blocks) (sym c.drafted-begin.ensures) (may-be-left facts text c.requires.block c.taking.ensures.parts kept between old first inside later c.requires.drafts c.in_ok-env.ensures.rest enters c.in_ok-enter.ensures.rest passed stands c.noting.ensures.left),
    )

pub add_block-returns-clause-env : goal.add_block-returns-clause-env
add_block-returns-clause-env t c =
    let facts = c.args.env in
    let units = c.args.units.now in
    let end : c.in_ok-env-2.env ≡ facts_over (with_entering facts) (text_of units) =
    c.in_ok-env-2.ensures.env ∙ ap (λ (fs : List UnitFacts). facts_after fs units) c.in_ok-env.ensures.env ∙ facts-text units (with_entering facts) in
    c.in_ok-env-3.ensures.env ∙ ap (λ (fs : List UnitFacts). fs ++ added_by (Left false ∷ []) []) (end ∙ ap (facts_over (with_entering facts)) (sym (cut-whole (text_of units))))

pub add_block-returns-clause-gathered : goal.add_block-returns-clause-gathered
add_block-returns-clause-gathered t c = λ more.
    c.in_ok-env-2.ensures.gathered more ∙ ap (λ (fs : List UnitFacts). with_units (with_gathered more c.args.self.now) (judged_after fs c.args.units.now)) c.in_ok-env.ensures.env

pub add_block-returns-clause-passed : goal.add_block-returns-clause-passed
add_block-returns-clause-passed t c =
    let facts = c.args.env in
    let units = c.args.units.now in
    let text = text_of units in
    let kept = c.args.kept.now in
    let between = c.add_all.new.kept in
    let old = c.args.keeping.now in
    let first = c.beyond.new.keeping in
    let inside = c.enter.new.self in
    let later = c.add_all.new.keeping in
    let start : c.in_ok-env.env ≡ with_entering facts = c.in_ok-env.ensures.env in
    let enters : inside.blocks.blocks ≡ first.blocks.blocks ++ record { text = text; start = length (with_entering facts); log = [] } ∷ [] =
    c.in_ok-enter.ensures.blocks ∙ (λ i. first.blocks.blocks ++ record { text = c.in_ok-text_of.ensures i; start = length ((c.get-2.ensures ∙ start) i); log = [] } ∷ []) in
    let passed : ArePassed (with_entering facts) (cut text) kept inside between later = subst (λ (fs : List UnitFacts). ArePassed fs (cut text) kept inside between later) start c.in_ok-env-2.ensures.passed in
    let end : c.in_ok-env-2.env ≡ facts_over (with_entering facts) text =
    c.in_ok-env-2.ensures.env ∙ ap (λ (fs : List UnitFacts). facts_after fs units) start ∙ facts-text units (with_entering facts) in
    let turns = subst (λ (fs : List UnitFacts). turns_for fs ≤ most_turns) (c.get-3.ensures ∙ end) c.bound.ensures.turns in
    let count = subst (λ (fs : List UnitFacts). count_in (answers fs Nameless) < 2 ^ 64) (c.get-3.ensures ∙ end) c.bound.ensures.count in
    let stands = c.standing.ensures.here facts text (c.taking.ensures.parts text c.requires.block) c.requires.told turns count in
    let new = c.leave.new.kept in
    let counted = c.compare_block.new.self in
    let after = c.beyond-2.new.keeping in
    let lists = kept.declarations.lists in
    let whole : c.in_ok-env-2.env ≡ facts_over (with_entering facts) (text_in (cut text)) = end ∙ ap (facts_over (with_entering facts)) (sym (cut-whole text)) in
    let behind = c.in_ok-env-3.ensures.env ∙ ap (λ (fs : List UnitFacts). fs ++ added_by (Left false ∷ []) []) whole in
    let others = left facts text c.requires.block c.taking.ensures.parts kept between old first inside later c.requires.drafts c.in_ok-env.ensures.rest enters c.in_ok-enter.ensures.rest passed in
    let own = block facts text c.requires.block c.taking.ensures.parts kept between old first inside later c.requires.drafts c.in_ok-env.ensures.rest enters c.in_ok-enter.ensures.rest passed in
    let in-front = innermost facts text c.requires.block c.taking.ensures.parts kept between old first inside later c.requires.drafts c.in_ok-env.ensures.rest enters c.in_ok-enter.ensures.rest passed in
    let puts = c.in_ok-keys.ensures.kept others own in-front in
    let marks : after.marks.items ≡ ((old.marks.items ++ Entered false ∷ []) ++ marks_in text) ++ Left false ∷ [] =
    c.in_ok-env-3.ensures.marks
    ∙ ap (λ (ms : List Mark). ms ++ Left false ∷ [])
    (ap (λ (k : Keeping). k.marks.items) c.compare_block.ensures
    ∙ ap (λ (k : Keeping). k.marks.items) c.in_ok-keys.ensures.rest
    ∙ passed.marks
    ∙ (λ i. (ap (λ (k : Keeping). k.marks.items) c.in_ok-enter.ensures.rest ∙ c.in_ok-env.ensures.marks) i ++ marks_in (cut-whole text i))) in
    let walks-on : IsKeeping lists counted c.in_ok-env-2.env =
    (let there : IsKeeping lists later c.in_ok-env-2.env = subst (IsKeeping lists later) (sym whole) passed.keeping_is in record {
      follows = subst (λ (k : Keeping). IsFollowing lists k c.in_ok-env-2.env) (sym c.compare_block.ensures) (subst (λ (k : Keeping). IsFollowing lists k c.in_ok-env-2.env) (sym c.in_ok-keys.ensures.rest) there.follows);
      noted = subst (λ (k : Keeping). HaveNoted c.in_ok-env-2.env k.blocks) (sym c.compare_block.ensures) (c.in_ok-keys.ensures.noted c.in_ok-env-2.env there.noted);
    }) in
    let into : inside.meter ≡ old.meter = ap (λ (k : Keeping). k.meter) c.in_ok-enter.ensures.rest ∙ ap (λ (k : Keeping). k.meter) c.in_ok-env.ensures.rest in
    let all : ℕ = if c.has_like-is_like.result then compared_after old.meter.compared c.in_ok-keys.keys else later.meter.compared in
    let out : after.meter ≡ record later.meter { compared = all } =
    ap (λ (k : Keeping). k.meter) c.in_ok-env-3.ensures.rest ∙ ap (λ (k : Keeping). k.meter) c.compare_block.ensures
    ∙ ap (λ (k : Keeping). record k.meter { compared = if c.has_like-is_like.result then compared_after old.meter.compared c.in_ok-keys.keys else k.meter.compared }) c.in_ok-keys.ensures.rest in
    let earlier : after.earlier ≡ old.earlier =
    ap (λ (k : Keeping). k.earlier) c.in_ok-env-3.ensures.rest ∙ ap (λ (k : Keeping). k.earlier) c.compare_block.ensures ∙ ap (λ (k : Keeping). k.earlier) c.in_ok-keys.ensures.rest ∙ passed.earlier
    ∙ ap (λ (k : Keeping). k.earlier) c.in_ok-enter.ensures.rest ∙ ap (λ (k : Keeping). k.earlier) c.in_ok-env.ensures.rest in
    let places = declarations_over (with_entering facts) (text_in (cut text)) in
    passed-block (λ here. (c.taking.ensures.asks here here).1) facts text kept new old after
    (whole-left facts text c.requires.block c.taking.ensures.parts kept between old first inside later c.requires.drafts c.in_ok-env.ensures.rest enters c.in_ok-enter.ensures.rest passed stands c.noting.ensures.left new c.drafted-begin.result c.drafted-begin.ensures puts) marks
    (subst (IsKeeping lists after) behind (c.in_ok-env-3.ensures.keeping lists walks-on)) earlier
    (subst (λ (t : Texts). IsDeclarationPass places (results_in kept.declarations) (results_in t.declarations) old.meter.checked after.meter.checked) (sym puts)
    (subst (λ (m : Meter). IsDeclarationPass places (results_in kept.declarations) (results_in between.declarations) old.meter.checked m.checked) (sym out)
    (subst (λ (m : Meter). IsDeclarationPass places (results_in kept.declarations) (results_in between.declarations) m.checked later.meter.checked) into passed.counts)))
    (subst (λ (m : Meter). ChecksOnly old.meter m) (sym out) (ap (λ (m : Meter). record m { compared = all }) (subst (λ (m : Meter). ChecksOnly m later.meter) into passed.others)))
    (subst (AllGoOn facts (Enters false ∷ (text ++ Leaves false ∷ [])) old.blocks.blocks)
    (sym (ap (λ (k : Keeping). k.blocks.blocks) c.in_ok-env-3.ensures.rest ∙ ap (λ (k : Keeping). k.blocks.blocks) c.compare_block.ensures ∙ c.in_ok-keys.ensures.blocks others own in-front)) (around facts text c.requires.block c.taking.ensures.parts kept between old first inside later c.requires.drafts c.in_ok-env.ensures.rest enters c.in_ok-enter.ensures.rest passed c.noting.ensures.boundary c.noting.ensures.more))
    (λ within. keys-left facts text c.requires.block c.taking.ensures.parts kept between old first inside later c.requires.drafts c.in_ok-env.ensures.rest enters c.in_ok-enter.ensures.rest passed stands c.noting.ensures.left after.keys (ap (λ (k : Keeping). k.keys) c.in_ok-env-3.ensures.rest ∙ ap (λ (k : Keeping). k.keys) c.compare_block.ensures ∙ c.in_ok-keys.ensures.keys others own in-front) within)

pub add_block-returns-clause-compared : goal.add_block-returns-clause-compared
add_block-returns-clause-compared t c = λ known are within.
    let facts = c.args.env in
    let units = c.args.units.now in
    let text = text_of units in
    let kept = c.args.kept.now in
    let between = c.add_all.new.kept in
    let old = c.args.keeping.now in
    let first = c.beyond.new.keeping in
    let inside = c.enter.new.self in
    let later = c.add_all.new.keeping in
    let after = c.beyond-2.new.keeping in
    let start : c.in_ok-env.env ≡ with_entering facts = c.in_ok-env.ensures.env in
    let enters : inside.blocks.blocks ≡ first.blocks.blocks ++ record { text = text; start = length (with_entering facts); log = [] } ∷ [] =
    c.in_ok-enter.ensures.blocks ∙ (λ i. first.blocks.blocks ++ record { text = c.in_ok-text_of.ensures i; start = length ((c.get-2.ensures ∙ start) i); log = [] } ∷ []) in
    let passed : ArePassed (with_entering facts) (cut text) kept inside between later = subst (λ (fs : List UnitFacts). ArePassed fs (cut text) kept inside between later) start c.in_ok-env-2.ensures.passed in
    let end : c.in_ok-env-2.env ≡ facts_over (with_entering facts) text =
    c.in_ok-env-2.ensures.env ∙ ap (λ (fs : List UnitFacts). facts_after fs units) start ∙ facts-text units (with_entering facts) in
    let turns = subst (λ (fs : List UnitFacts). turns_for fs ≤ most_turns) (c.get-3.ensures ∙ end) c.bound.ensures.turns in
    let count = subst (λ (fs : List UnitFacts). count_in (answers fs Nameless) < 2 ^ 64) (c.get-3.ensures ∙ end) c.bound.ensures.count in
    let stands = c.standing.ensures.here facts text (c.taking.ensures.parts text c.requires.block) c.requires.told turns count in
    let others = left facts text c.requires.block c.taking.ensures.parts kept between old first inside later c.requires.drafts c.in_ok-env.ensures.rest enters c.in_ok-enter.ensures.rest passed in
    let own = block facts text c.requires.block c.taking.ensures.parts kept between old first inside later c.requires.drafts c.in_ok-env.ensures.rest enters c.in_ok-enter.ensures.rest passed in
    let in-front = innermost facts text c.requires.block c.taking.ensures.parts kept between old first inside later c.requires.drafts c.in_ok-env.ensures.rest enters c.in_ok-enter.ensures.rest passed in
    let asked = c.in_ok-keys.ensures.asked others own in-front
    ∙ asked-left facts text c.requires.block c.taking.ensures.parts kept between old first inside later c.requires.drafts c.in_ok-env.ensures.rest enters c.in_ok-enter.ensures.rest passed stands c.noting.ensures.left in
    let into : inside.meter ≡ old.meter = ap (λ (k : Keeping). k.meter) c.in_ok-enter.ensures.rest ∙ ap (λ (k : Keeping). k.meter) c.in_ok-env.ensures.rest in
    let counts : after.meter.compared ≡ (if c.has_like-is_like.result then compared_after old.meter.compared c.in_ok-keys.keys else later.meter.compared) =
    ap (λ (k : Keeping). k.meter.compared) c.in_ok-env-3.ensures.rest ∙ ap (λ (k : Keeping). k.meter.compared) c.compare_block.ensures
    ∙ ap (λ (k : Keeping). if c.has_like-is_like.result then compared_after old.meter.compared c.in_ok-keys.keys else k.meter.compared) c.in_ok-keys.ensures.rest in
    let within-block : Compares (with_entering facts) (cut text) kept old.meter later.meter =
    subst (λ (m : Meter). Compares (with_entering facts) (cut text) kept m later.meter) into
    (subst (λ (fs : List UnitFacts). Compares fs (cut text) kept inside.meter later.meter) start c.in_ok-env-2.ensures.compared) in
    compares-entered (λ here. (c.taking.ensures.asks here here).1) facts text known old.meter after.meter c.has_like-is_like.result later.meter.compared c.in_ok-keys.keys
    (λ is. is-known c.taking.ensures.kept known.blocks (text, answers facts)
    (subst (λ rs. Any (IsLike (text, answers facts)) rs) are.blocks
    (subst (λ u. Any (IsLike (u, answers facts)) (results_in kept.blocks)) c.in_ok-text_of.ensures (c.has_like-is_like.ensures.some is))))
    (λ is. is-new c.taking.ensures.kept known.blocks (text, answers facts)
    (subst (λ rs. All (λ kept. ¬ IsLike (text, answers facts) kept) rs) are.blocks
    (subst (λ u. All (λ kept. ¬ IsLike (u, answers facts) kept) (results_in kept.blocks)) c.in_ok-text_of.ensures (c.has_like-is_like.ensures.none is c.in_default.ensures.none))))
    asked (within-block known are within) counts
