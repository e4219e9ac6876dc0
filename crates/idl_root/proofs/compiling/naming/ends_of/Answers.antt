use Rattle.std.proofs.Common.{◌≡◌, ◌<◌, ◌+◌, ◌-◌, ◌∙◌, ap, arith, drop, length, map, refl, reverse, subst, sym}
use Rattle.std.proofs.lemmas.Option.{slice_get_read}
use Rattle.idl_root.specs.Named.{AreNumbersIn, closings_from, closings_in, end_before, ends_of, named_as}
use Rattle.idl_root.specs.declared.compiling.naming.NamedUnit.{NamedUnit as HeldNamedUnit}
use Rattle.idl_root.proofs.NamingLemmas.{closings-back, ends-back, get-mapped}
use Rattle.idl_root.proofs.compiling.naming.ends_of.Goals as goal

pub back-preserved : goal.back-preserved
back-preserved c =
    let units = c.args.units.now in
    let all = map named_as units in
    let i = c.back.index - 1 in
    let unit = c.index-units-index.result in
    let inv = c.back.invariant in
    let within : i < length units = omega (arith, c.back-test.true, inv.within) in
    let here = get-mapped named_as units i unit (slice_get_read units (length units) i unit refl within c.index-units-index.is) in
    let next : c.back.index ≡ i + 1 = omega (arith, c.back-test.true) in
    let closings = reverse c.back.closings.items in
    let closed = subst (λ k. AreNumbersIn all closings (closings_in (drop k all))) next inv.closings in
    let ends = subst (λ k. AreNumbersIn all (reverse c.back.ends.items) (ends_of (drop k all))) next inv.ends in
    let same = sym c.index-units-index.is in
    let end = c.end_before.ensures ∙ ap (λ (u : HeldNamedUnit). end_before u.step i (reverse c.deref.result.now)) same ∙ ap (λ cs. end_before unit.step i (reverse cs)) c.deref.ensures.value in
    record {
      within = omega (arith, inv.within);
      ends = ends-back all i (named_as unit) here closings closed c.back.ends.items c.push.new.self.items c.end_before.result ends end c.in_ok-push.ensures.items;
      closings = closings-back all i (named_as unit) here closings closed (reverse c.note_step.new.closings.items) (c.in_ok-note_step.ensures ∙ ap (λ (u : HeldNamedUnit). closings_from u.step i closings) same);
    }

pub returns : goal.returns
returns c =
    let all = map named_as c.args.units.now in
    let over : c.back.index ≡ 0 = omega (arith, c.back-test.false) in
    let ends = subst (λ k. AreNumbersIn all (reverse c.back.ends.items) (ends_of (drop k all))) over c.back.invariant.ends in
    subst (λ ns. AreNumbersIn all ns (ends_of all)) (sym c.reverse.ensures.items) ends
