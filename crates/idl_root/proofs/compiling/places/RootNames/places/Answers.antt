use Rattle.std.proofs.Common.{◌≡◌, ◌∙◌, ◌∷◌, ◌++◌, [], Some, ap, arith, filter, get_or, length, refl, slice_get, subst, sym}
use Rattle.std.proofs.lemmas.Option.{slice_get-get_or, slice_get_read, slice_get_within}
use Rattle.idl_root.specs.Named.{AreNumbersIn}
use Rattle.idl_root.specs.NamePlaces.{is_at}
use Rattle.idl_root.proofs.NamingLemmas.{item-at, place-more}
use Rattle.idl_root.proofs.compiling.places.RootNames.places.Goals as goal

pub prove-unreachable-requires : goal.prove-unreachable-requires
prove-unreachable-requires c =
    let names = c.args.self.now.declared.items in
    let path = c.args.path.now in
    let own = filter (is_at path) names in
    let numbers = c.deref-number-items.result.now in
    let i = c.loop-number.number-index in
    let told = c.deref-number-items.ensures.value ∙ c.in_ok-numbers.ensures ∙ c.in_ok-numbers_at.ensures in
    let are = subst (λ ns. AreNumbersIn names ns own) (sym told) (c.requires path) in
    let item = item-at names own numbers i (get_or numbers i 0) are (slice_get-get_or numbers i 0 c.loop-number-test.true) in
    absurd (omega (arith, c.if-prove.true, slice_get_within names (get_or numbers i 0) item.0 item.1.0, ap length c.as_slice-declared.ensures.value))

pub loop-number-preserved : goal.loop-number-preserved
loop-number-preserved c =
    let names = c.args.self.now.declared.items in
    let path = c.args.path.now in
    let own = filter (is_at path) names in
    let numbers = c.deref-number-items.result.now in
    let i = c.loop-number.number-index in
    let number = get_or numbers i 0 in
    let told = c.deref-number-items.ensures.value ∙ c.in_ok-numbers.ensures ∙ c.in_ok-numbers_at.ensures in
    let are = subst (λ ns. AreNumbersIn names ns own) (sym told) (c.requires path) in
    let declared = c.as_slice-declared.result.now in
    let name = c.index-declared-number.result in
    let there = c.loop-number.places.items in
    let found : slice_get names number ≡ Some name =
    ap (λ l. slice_get l number) (sym c.as_slice-declared.ensures.value) ∙ slice_get_read declared (length declared) number name refl c.if-prove.false c.index-declared-number.is in
    let place = c.in_ok-copied.ensures ∙ ap (λ n. n.place) (sym c.index-declared-number.is) in
    place-more names own numbers i number name there c.push.new.self.items are (slice_get-get_or numbers i 0 c.loop-number-test.true) found (c.in_ok-push.ensures.items ∙ ap (λ p. there ++ p ∷ []) place)
    ∙ c.loop-number.invariant
