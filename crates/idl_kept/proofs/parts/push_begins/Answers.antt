-- One number more.
use Rattle.std.proofs.Common.{◌≡◌, ◌∙◌, arith, get_or, map, refl, subst, sym, take}
use Rattle.std.proofs.lemmas.Option.{same_Some}
use Rattle.std.specs.Prelude.{IsSome}
use Rattle.idl_kept.proofs.Putting.{number-is, numbers-next}
use Rattle.idl_kept.specs.Parts.{inner_from}
use Rattle.idl_kept.specs.Texts.{moved}
use Rattle.idl_store.proofs.Reading.{grown-nothing}
use Rattle.idl_kept.proofs.parts.push_begins.Goals as goal

pub loop-nth-init : goal.loop-nth-init
loop-nth-init c = sym (grown-nothing c.args.begins.now)

pub unwrap-begin-requires : goal.unwrap-begin-requires
unwrap-begin-requires c =
    let numbers = inner_from c.args.begins.now c.args.part in
    let so_far = map (moved c.args.from c.args.to) (take c.loop-nth.nth numbers) in
    let there = number-is c.args.begins.now c.args.part c.requires.after c.requires.long c.loop-nth.nth c.loop-nth-test.true so_far c.loop-nth.begins c.at.result c.loop-nth.invariant c.at.ensures in
    subst IsSome (sym there) refl

pub overflow_sub-begin : goal.overflow_sub-begin
overflow_sub-begin c =
    let numbers = inner_from c.args.begins.now c.args.part in
    let nth = c.loop-nth.nth in
    let so_far = map (moved c.args.from c.args.to) (take nth numbers) in
    let there = number-is c.args.begins.now c.args.part c.requires.after c.requires.long nth c.loop-nth-test.true so_far c.loop-nth.begins c.at.result c.loop-nth.invariant c.at.ensures in
    let is : c.unwrap-begin.result ≡ get_or numbers nth 0 = same_Some c.unwrap-begin.result (get_or numbers nth 0) (sym c.unwrap-begin.ensures ∙ there) in
    let within = c.requires.within nth 0 (omega (arith, c.loop-nth-test.true, c.requires.long)) in
    omega (arith, is, within.0)

pub overflow_add-begin : goal.overflow_add-begin
overflow_add-begin c =
    let numbers = inner_from c.args.begins.now c.args.part in
    let nth = c.loop-nth.nth in
    let so_far = map (moved c.args.from c.args.to) (take nth numbers) in
    let there = number-is c.args.begins.now c.args.part c.requires.after c.requires.long nth c.loop-nth-test.true so_far c.loop-nth.begins c.at.result c.loop-nth.invariant c.at.ensures in
    let is : c.unwrap-begin.result ≡ get_or numbers nth 0 = same_Some c.unwrap-begin.result (get_or numbers nth 0) (sym c.unwrap-begin.ensures ∙ there) in
    let within = c.requires.within nth 0 (omega (arith, c.loop-nth-test.true, c.requires.long)) in
    omega (arith, is, within.0, within.1, c.requires.fits)

pub loop-nth-preserved : goal.loop-nth-preserved
loop-nth-preserved c =
    numbers-next c.args.begins.now c.args.part c.requires.after c.requires.long c.loop-nth.nth c.loop-nth-test.true (moved c.args.from c.args.to) c.loop-nth.begins c.push.new.self c.unwrap-begin.result
    c.loop-nth.invariant (sym c.at.ensures ∙ c.unwrap-begin.ensures) c.in_ok-push.ensures.ok
