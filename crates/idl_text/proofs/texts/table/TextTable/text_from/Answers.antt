use Rattle.std.proofs.Common.{◌≡◌, ◌<◌, length, get_or, ap, sym, ◌∙◌, rules}
use Rattle.std.proofs.lemmas.Cmp.{ranked}
use Rattle.std.proofs.lemmas.List.Sorted.{answers_always}
use Rattle.std.specs.List.{HoldsAt}
use Rattle.std.specs.Ordering.{nat_cmp}
use Rattle.std.specs.declared.cmp.Ordering.TheVariants.{Equal}
use Rattle.idl_text.specs.declared.texts.table.TextSpan.{TextSpan}
use Rattle.idl_text.proofs.texts.table.TextTable.text_from.Goals as goal

pub returns-in-Ok : goal.returns-in-Ok
returns-in-Ok c =
    let texts = c.args.self.now.texts.items in
    let place = c.in-Ok.place in
    let text = c.index.result.now in
    let found : HoldsAt (λ (s : TextSpan). nat_cmp s.from c.args.from ≡ Equal) texts place =
    rw c.deref.ensures.value at (c.in-Ok.ensures.position (λ (s : TextSpan). s.from) (answers_always _ _ _ (λ f a r g called. search rules))) in
    let within : place < length texts = rw c.deref.ensures.value at c.in-Ok.ensures.bound in
    let first : (get_or texts place text).from ≡ c.args.from = ranked (get_or texts place text).from c.args.from Equal (sym (found text)) in
    ((place, within, sym c.index.ensures), ap (λ (s : TextSpan). s.from) c.index.ensures ∙ first)
