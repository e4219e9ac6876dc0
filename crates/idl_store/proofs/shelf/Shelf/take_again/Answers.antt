-- The number there goes into the last draft.
use Rattle.std.proofs.Common.{◌∷◌, ◌∙◌, [], ℕ, List, ap, arith, subst, sym}
use Rattle.std.specs.Option.{option_to_list}
use Rattle.idl_store.specs.Numbers.{AreMore, drafts_of, lists_of, numbers_of, result_of, shown}
use Rattle.idl_store.specs.Stored.{grown, item_at, result_at, results_of_drafts}
use Rattle.idl_store.proofs.Changing.{stored-used}
use Rattle.idl_store.proofs.Reading.{grown-nothing, result-at_none, result-at_number, shown-again, taken-read}
use Rattle.idl_store.proofs.shelf.Shelf.take_again.Goals as goal

pub use_again-requires : goal.use_again-requires
use_again-requires g c =
    let at = sym (c.in-Some.ensures ∙ ap (λ ls. item_at (lists_of ls) c.args.list c.args.place) c.deref.ensures.value) in
    taken-read c.self.invariant.0 c.args.list c.args.place c.in-Some.number at

pub invariant_of-self-in-Some : goal.invariant_of-self-in-Some
invariant_of-self-in-Some g c =
    let numbers = numbers_of c.self.inside.lists.items c.self.inside.drafts.items in (
      stored-used c.self.invariant.0 c.use_again.new.used c.use_again.result (c.in-Some.number ∷ []) (drafts_of c.use_again.new.drafts.items) c.use_again.ensures.drafts c.use_again.ensures.uses c.use_again.ensures.err,
      omega (arith, c.self.invariant.1, c.use_again.ensures.count),
    )

pub returns-in_ok-use_again-in-Some-clause-found : goal.returns-in_ok-use_again-in-Some-clause-found
returns-in_ok-use_again-in-Some-clause-found g c =
    let at = sym (c.in-Some.ensures ∙ ap (λ ls. item_at (lists_of ls) c.args.list c.args.place) c.deref.ensures.value) in
    sym c.in_ok-use_again-in-Some.ensures.kept ∙ sym (result-at_number c.self.invariant.0 c.args.list c.args.place c.in-Some.number at) ∙ ap (λ s. result_at s.stored c.args.list c.args.place) c.self.view_is

pub returns-in_ok-use_again-in-Some-clause-ok : goal.returns-in_ok-use_again-in-Some-clause-ok
returns-in_ok-use_again-in-Some-clause-ok g c =
    let numbers = numbers_of c.self.inside.lists.items c.self.inside.drafts.items in
    let at = sym (c.in-Some.ensures ∙ ap (λ ls. item_at (lists_of ls) c.args.list c.args.place) c.deref.ensures.value) in
    let new = c.use_again.new.used in
    let more = subst (λ (ds : List (ℕ × List ℕ)). AreMore c.self.inside.used new (results_of_drafts numbers.drafts) (results_of_drafts ds)) c.in_ok-use_again-in-Some.ensures.drafts c.in_ok-use_again-in-Some.ensures.uses in
    ap (λ (ds : List (ℕ × List ℕ)). shown (result_of new) (record { lists = lists_of c.self.inside.lists.items; drafts = ds })) c.in_ok-use_again-in-Some.ensures.drafts
    ∙ shown-again c.self.invariant.0 c.args.list c.args.place c.in-Some.number c.in_ok-use_again-in-Some.field-0 new at c.in_ok-use_again-in-Some.ensures.kept more
    ∙ ap (λ s. grown s.stored (option_to_list (result_at s.stored c.args.list c.args.place))) c.self.view_is

pub returns-in-None-clause-found : goal.returns-in-None-clause-found
returns-in-None-clause-found g c =
    let at = sym (c.in-None.ensures ∙ ap (λ ls. item_at (lists_of ls) c.args.list c.args.place) c.deref.ensures.value) in
    sym (result-at_none c.self.invariant.0 c.args.list c.args.place at) ∙ ap (λ s. result_at s.stored c.args.list c.args.place) c.self.view_is

pub returns-in-None-clause-ok : goal.returns-in-None-clause-ok
returns-in-None-clause-ok g c =
    let at = sym (c.in-None.ensures ∙ ap (λ ls. item_at (lists_of ls) c.args.list c.args.place) c.deref.ensures.value) in
    let is = sym (ap (λ s. result_at s.stored c.args.list c.args.place) c.self.view_is) ∙ result-at_none c.self.invariant.0 c.args.list c.args.place at in
    sym (grown-nothing c.args.self.now.stored) ∙ ap (λ o. grown c.args.self.now.stored (option_to_list o)) (sym is)
