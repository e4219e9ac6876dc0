use Rattle.std.proofs.Common.{false, ◌≡◌, ◌≤◌, ◌<◌, ◌^◌, ◌∙◌, ◌∷◌, ◌++◌, [], List, ap, map, refl, subst, sym}
use Rattle.std.specs.Prelude.{Any}
use Rattle.idl_env.specs.Facts.{UnitFacts, answers, count_in}
use Rattle.idl_env.specs.Turns.{most_turns, turns_for}
use Rattle.idl_env.specs.declared.keys.key.Key.TheVariants.{Nameless}
use Rattle.idl_memo.specs.declared.meter.Meter.{Meter}
use Rattle.idl_root.proofs.PassedBlocks.{compares-taken, is-known, passed-block, some-on}
use Rattle.idl_root.proofs.TakenWhole.{facts-are, judged-are, kept-are, none-run, same}
use Rattle.idl_root.specs.AsBefore.{judged_beside}
use Rattle.idl_root.specs.Followed.{IsFollowing, IsKeeping, added_by}
use Rattle.idl_root.specs.Held.{with_gathered, with_units}
use Rattle.idl_root.specs.Passed.{AllGoOn, known_results}
use Rattle.idl_root.specs.Results.{IsDeclarationPass, marks_in, marks_of}
use Rattle.idl_root.specs.declared.kept.keeping.Keeping.{Keeping}
use Rattle.idl_root.specs.declared.kept.marks.Mark.{Mark}
use Rattle.idl_root.specs.declared.kept.marks.Mark.TheVariants.{Entered, Left}
use Rattle.idl_root_blocks.specs.Blocks.{cut, text_in}
use Rattle.idl_root_blocks.specs.Finding.{texts_in}
use Rattle.idl_root_blocks.specs.Places.{block_result, declarations_over, facts_behind, with_entering}
use Rattle.idl_root_blocks.specs.Units.{text_of}
use Rattle.idl_root_blocks.specs.declared.text.BlockPart.TheVariants.{Enters, Leaves}
use Rattle.idl_root_blocks.proofs.Cuts.{cut-whole}
use Rattle.idl_root_blocks.specs.Met.{IsLike, is_known}
use Rattle.idl_store.specs.Spots.{results_from}
use Rattle.idl_store.specs.Stored.{results_in}
use Rattle.idl_root.proofs.compiling.judging.Accumulator.add_taken.Goals as goal

pub add_known-requires : goal.add_known-requires
add_known-requires c =
    let facts = c.args.env in
    let kept = c.args.kept.now in
    let first = c.take_block.new.self in
    let lists = kept.declarations.lists in
    let taken : IsKeeping lists first facts = record {
      follows = subst (λ (k : Keeping). IsFollowing lists k facts) (sym c.in_ok-first.ensures.rest) c.requires.keeping.follows;
      noted = c.in_ok-first.ensures.noted;
    } in
    subst (λ ls. IsKeeping ls c.beyond.new.keeping c.in_ok-env.env)
    (sym (ap (λ s. s.lists) (c.new-known.ensures.declarations ∙ c.declarations.ensures) ∙ c.take_block.ensures.lists.declarations)) (c.in_ok-env.ensures.keeping lists taken)

pub returns-clause-env : goal.returns-clause-env
returns-clause-env c =
    let facts = c.args.env in
    let units = c.args.block.0.now in
    let text = text_of units in
    let kept = c.args.kept.now in
    let new = c.take_block.new.kept in
    let from = c.in_ok-first.first in
    let behind = c.in_ok-env-2.env in
    let known : known_results c.new-known.result (texts_in text) ≡ results_from new.declarations from (texts_in text) =
    λ i. results_from ((c.new-known.ensures.declarations ∙ c.declarations.ensures) i) (c.new-known.ensures.spot i) (texts_in text) in
    let is : behind ≡ with_entering facts ++ added_by (marks_of units) (results_from new.declarations from (texts_in text)) =
    c.in_ok-env-2.ensures.env ∙ (λ i. c.in_ok-env.ensures.env i ++ added_by (marks_of units) (known i)) in
    let turns = subst (λ (fs : List UnitFacts). turns_for fs ≤ most_turns) c.get.ensures c.bound.ensures.turns in
    let count = subst (λ (fs : List UnitFacts). count_in (answers fs Nameless) < 2 ^ 64) c.get.ensures c.bound.ensures.count in
    c.in_ok-env-3.ensures.env ∙ ap (λ (fs : List UnitFacts). fs ++ added_by (Left false ∷ []) []) (facts-are c.repeated.ensures facts units kept new from c.in_ok-first.ensures.taken c.requires.block c.requires.told behind is turns count)

pub returns-clause-gathered : goal.returns-clause-gathered
returns-clause-gathered c = λ more.
    let facts = c.args.env in
    let units = c.args.block.0.now in
    let text = text_of units in
    let kept = c.args.kept.now in
    let new = c.take_block.new.kept in
    let from = c.in_ok-first.first in
    let behind = c.in_ok-env-2.env in
    let known : known_results c.new-known.result (texts_in text) ≡ results_from new.declarations from (texts_in text) =
    λ i. results_from ((c.new-known.ensures.declarations ∙ c.declarations.ensures) i) (c.new-known.ensures.spot i) (texts_in text) in
    let is : behind ≡ with_entering facts ++ added_by (marks_of units) (results_from new.declarations from (texts_in text)) =
    c.in_ok-env-2.ensures.env ∙ (λ i. c.in_ok-env.ensures.env i ++ added_by (marks_of units) (known i)) in
    let turns = subst (λ (fs : List UnitFacts). turns_for fs ≤ most_turns) c.get.ensures c.bound.ensures.turns in
    let count = subst (λ (fs : List UnitFacts). count_in (answers fs Nameless) < 2 ^ 64) c.get.ensures c.bound.ensures.count in
    c.in_ok-env-2.ensures.gathered more
    ∙ ap (λ js. with_units (with_gathered more c.args.self.now) js) (ap (judged_beside units) known ∙ judged-are c.repeated.ensures facts units kept new from c.in_ok-first.ensures.taken c.requires.block c.requires.told behind is turns count)

pub returns-clause-passed : goal.returns-clause-passed
returns-clause-passed c =
    let facts = c.args.env in
    let units = c.args.block.0.now in
    let text = text_of units in
    let kept = c.args.kept.now in
    let new = c.take_block.new.kept in
    let from = c.in_ok-first.first in
    let behind = c.in_ok-env-2.env in
    let known : known_results c.new-known.result (texts_in text) ≡ results_from new.declarations from (texts_in text) =
    λ i. results_from ((c.new-known.ensures.declarations ∙ c.declarations.ensures) i) (c.new-known.ensures.spot i) (texts_in text) in
    let is : behind ≡ with_entering facts ++ added_by (marks_of units) (results_from new.declarations from (texts_in text)) =
    c.in_ok-env-2.ensures.env ∙ (λ i. c.in_ok-env.ensures.env i ++ added_by (marks_of units) (known i)) in
    let turns = subst (λ (fs : List UnitFacts). turns_for fs ≤ most_turns) c.get.ensures c.bound.ensures.turns in
    let count = subst (λ (fs : List UnitFacts). count_in (answers fs Nameless) < 2 ^ 64) c.get.ensures c.bound.ensures.count in
    let old = c.args.keeping.now in
    let first = c.take_block.new.self in
    let after = c.beyond-2.new.keeping in
    let lists : new.declarations.lists ≡ kept.declarations.lists = c.take_block.ensures.lists.declarations in
    let end : c.in_ok-env-3.env ≡ facts_behind facts (cut text) = c.in_ok-env-3.ensures.env ∙ ap (λ (fs : List UnitFacts). fs ++ added_by (Left false ∷ []) []) (facts-are c.repeated.ensures facts units kept new from c.in_ok-first.ensures.taken c.requires.block c.requires.told behind is turns count) in
    let marks : after.marks.items ≡ ((old.marks.items ++ Entered false ∷ []) ++ marks_in text) ++ Left false ∷ [] =
    c.in_ok-env-3.ensures.marks
    ∙ ap (λ (ms : List Mark). ms ++ Left false ∷ [])
    (c.in_ok-env-2.ensures.marks
    ∙ (λ i. (c.in_ok-env.ensures.marks ∙ ap (λ (k : Keeping). k.marks.items ++ Entered false ∷ []) c.in_ok-first.ensures.rest) i ++ marks_in text)) in
    let own : IsKeeping kept.declarations.lists c.add_known.new.keeping behind =
    subst (λ ls. IsKeeping ls c.add_known.new.keeping behind) (ap (λ s. s.lists) (c.new-known.ensures.declarations ∙ c.declarations.ensures) ∙ lists) c.in_ok-env-2.ensures.keeping in
    let walks : IsKeeping kept.declarations.lists after (facts_behind facts (cut text)) = subst (IsKeeping kept.declarations.lists after) end (c.in_ok-env-3.ensures.keeping kept.declarations.lists own) in
    let meter : after.meter ≡ first.meter = ap (λ (k : Keeping). k.meter) c.in_ok-env-3.ensures.rest ∙ ap (λ (k : Keeping). k.meter) c.in_ok-env-2.ensures.rest ∙ ap (λ (k : Keeping). k.meter) c.in_ok-env.ensures.rest in
    let count-is = meter ∙ c.in_ok-first.ensures.meter in
    let earlier : after.earlier ≡ old.earlier =
    ap (λ (k : Keeping). k.earlier) c.in_ok-env-3.ensures.rest ∙ ap (λ (k : Keeping). k.earlier) c.in_ok-env-2.ensures.rest ∙ ap (λ (k : Keeping). k.earlier) c.in_ok-env.ensures.rest
    ∙ ap (λ (k : Keeping). k.earlier) c.in_ok-first.ensures.rest in
    let blocks = ap (λ (k : Keeping). k.blocks.blocks) c.in_ok-env-3.ensures.rest ∙ ap (λ (k : Keeping). k.blocks.blocks) c.in_ok-env-2.ensures.rest ∙ ap (λ (k : Keeping). k.blocks.blocks) c.in_ok-env.ensures.rest ∙ c.in_ok-first.ensures.blocks in
    let keys = ap (λ (k : Keeping). k.keys) c.in_ok-env-3.ensures.rest ∙ ap (λ (k : Keeping). k.keys) c.in_ok-env-2.ensures.rest ∙ ap (λ (k : Keeping). k.keys) c.in_ok-env.ensures.rest ∙ c.in_ok-first.ensures.keys in
    let stands = (same c.repeated.ensures facts units kept new from c.in_ok-first.ensures.taken c.requires.block c.requires.told behind is turns count).stands in
    passed-block (λ here. (c.taking.ensures.asks here here).1) facts text kept new old after (kept-are c.repeated.ensures facts units kept new from c.in_ok-first.ensures.taken c.requires.block c.requires.told behind is turns count) marks walks earlier
    (subst (λ n. IsDeclarationPass (declarations_over (with_entering facts) (text_in (cut text))) (results_in kept.declarations) (results_in new.declarations) old.meter.checked n) (sym (ap (λ (m : Meter). m.checked) count-is)) (none-run c.repeated.ensures facts units kept new from c.in_ok-first.ensures.taken c.requires.block c.requires.told behind is turns count c.passing.ensures.none c.passing.ensures.one c.passing.ensures.both c.requires.drafts.declarations old.meter.checked))
    (subst (λ (m : Meter). m ≡ record old.meter { checked = m.checked; compared = m.compared }) (sym count-is) refl)
    (subst (AllGoOn facts (Enters false ∷ (text ++ Leaves false ∷ [])) old.blocks.blocks) (sym blocks) (c.noting.ensures.block facts text old.blocks.blocks c.requires.block stands))
    (λ within. keys)

pub returns-clause-compared : goal.returns-clause-compared
returns-clause-compared c = λ known are within.
    let facts = c.args.env in
    let text = text_of c.args.block.0.now in
    let meter = ap (λ (k : Keeping). k.meter.compared) c.in_ok-env-3.ensures.rest ∙ ap (λ (k : Keeping). k.meter.compared) c.in_ok-env-2.ensures.rest ∙ ap (λ (k : Keeping). k.meter.compared) c.in_ok-env.ensures.rest ∙ ap (λ (m : Meter). m.compared) c.in_ok-first.ensures.meter in
    let some : Any (IsLike (text, answers facts)) (map block_result known.blocks) = subst (Any (IsLike (text, answers facts))) are.blocks (some-on c.args.kept.now c.args.block.1 facts text c.requires.found) in
    let one = is-known c.taking.ensures.kept known.blocks (text, answers facts) some in
    compares-taken (λ here. (c.taking.ensures.asks here here).1) facts text known c.args.keeping.now.meter c.beyond-2.new.keeping.meter
    (ap (λ t. is_known known.blocks (t, answers facts)) (cut-whole text) ∙ one) meter
