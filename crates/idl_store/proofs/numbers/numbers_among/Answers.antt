-- A draft has its numbers.
use Rattle.std.proofs.Common.{◌≡◌, ◌∙◌, Some, ap, length, refl, slice_get, sym, arith}
use Rattle.std.proofs.lemmas.Bool.{ltb-true}
use Rattle.std.proofs.lemmas.Option.{slice_get_read}
use Rattle.idl_store.specs.Numbers.{numbers_of}
use Rattle.idl_store.specs.Spots.{lists_among}
use Rattle.idl_store.specs.Stored.{list_at}
use Rattle.idl_store.proofs.Reading.{list_at-draft}
use Rattle.std.proofs.lemmas.Grind.{common_steps}
use Rattle.idl_store.proofs.numbers.numbers_among.Goals as goal

pub returns-in-Some : goal.returns-in-Some
returns-in-Some c =
    let drafts = c.args.drafts.now in
    let list = c.args.list in
    let draft = c.in-Some.draft.now in
    let there : slice_get drafts list ≡ Some draft = slice_get_read drafts (length drafts) list draft refl (ltb-true list (length drafts) (sym c.in-Some.ensures.lookup.0)) c.in-Some.ensures.lookup.1 in
    c.deref.ensures.value
    ∙ sym (ap (λ b. list_at (lists_among (numbers_of c.args.lists.now drafts) b) list) c.if-is_draft.true ∙ list_at-draft drafts list (Some draft) there)

pub returns-in-None : goal.returns-in-None
returns-in-None c = grind (arith, common_steps)

pub returns-in-Some-get : goal.returns-in-Some-get
returns-in-Some-get c = grind (arith, common_steps)

pub returns-in-None-get : goal.returns-in-None-get
returns-in-None-get c = grind (arith, common_steps)
