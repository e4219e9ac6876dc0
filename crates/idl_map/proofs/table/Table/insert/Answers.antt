use Rattle.std.proofs.lemmas.Result.{on_ok_weaker}
use Rattle.std.proofs.Common.{◌≡◌, ◌<◌, None, Some, is_some, true≢false, length, slice_get, refl, sym, ap, ◌∙◌, subst, arith}
use Rattle.std.specs.Prelude.{slice_set}
use Rattle.std.specs.Map.{keys_of, lookup}
use Rattle.std.proofs.lemmas.Map.Entries.{length-keys_of}
use Rattle.std.proofs.lemmas.Option.{none-some, same_Some, slice_get_within}
use Rattle.idl_map.specs.Table.{IsIndexed, places_behind}
use Rattle.idl_base.proofs.Exactness.{Decides-eq}
use Rattle.idl_map.proofs.TableLemmas.{insert_entry-at, insert_entry-new, key-at, keys_of-slice_set, lookup-at, lookup-nowhere}
use Rattle.idl_map.proofs.table.Table.insert.Goals as goal

pub index_mut-entry-requires : goal.index_mut-entry-requires
index_mut-entry-requires g c =
    let at : slice_get (keys_of c.args.self.now) c.in-Some.place ≡ Some c.args.key = (c.in-Some.ensures c.in-Some.place).0 refl in
    let within : c.in-Some.place < length (keys_of c.args.self.now) = slice_get_within (keys_of c.args.self.now) c.in-Some.place c.args.key at in
    omega (arith, ap length c.self.view_is, length-keys_of c.args.self.now)

pub invariant_of-self : goal.invariant_of-self
invariant_of-self g c =
    let es = c.self.inside.entries.items in
    let at : slice_get (keys_of es) c.in-Some.place ≡ Some c.args.key = ap (λ fs. slice_get (keys_of fs) c.in-Some.place) c.self.view_is ∙ (c.in-Some.ensures c.in-Some.place).0 refl in
    let own : c.index_mut-entry.result.now.0 ≡ c.args.key = ap (λ e. e.0) c.index_mut-entry.ensures.value ∙ key-at es c.in-Some.place c.args.key c.index_mut-entry.result.now at in
    subst (IsIndexed (places_behind g.K.PartialEq.eq c.self.inside.index)) (sym (keys_of-slice_set es c.in-Some.place c.index_mut-entry.result.now.0 c.args.value (at ∙ ap Some (sym own)))) c.self.invariant

pub returns-in-Some-clause-entries : goal.returns-in-Some-clause-entries
returns-in-Some-clause-entries g c =
    let es = c.self.inside.entries.items in
    let place = c.in-Some.place in
    let at : slice_get (keys_of es) place ≡ Some c.args.key = ap (λ fs. slice_get (keys_of fs) place) c.self.view_is ∙ (c.in-Some.ensures place).0 refl in
    let own : c.index_mut-entry.result.now.0 ≡ c.args.key = ap (λ e. e.0) c.index_mut-entry.ensures.value ∙ key-at es place c.args.key c.index_mut-entry.result.now at in
    (λ i. slice_set (c.self.view_is i) place (own i, c.args.value))
    ∙ sym (insert_entry-at g.K.PartialEq.eq (Decides-eq g.K.PartialEq.eq g.met.K.Eq.laws g.met.K.Datum.same) c.args.self.now c.args.key c.args.value place
    (λ j h. sym (same_Some place j ((c.in-Some.ensures j).1 h))) ((c.in-Some.ensures place).0 refl))

pub returns-in-Some-clause-new_key : goal.returns-in-Some-clause-new_key
returns-in-Some-clause-new_key g c absent =
    let place = c.in-Some.place in
    let d = c.index_mut-entry.result.now in
    let there = lookup-at g.K.PartialEq.eq (Decides-eq g.K.PartialEq.eq g.met.K.Eq.laws g.met.K.Datum.same) c.args.self.now c.args.key place d
    (λ j h. sym (same_Some place j ((c.in-Some.ensures j).1 h))) ((c.in-Some.ensures place).0 refl) in
    absurd (true≢false (sym (ap is_some there) ∙ absent))

pub push-requires : goal.push-requires
push-requires g c =
    let exact = Decides-eq g.K.PartialEq.eq g.met.K.Eq.laws g.met.K.Datum.same in
    ap is_some (lookup-nowhere g.K.PartialEq.eq exact c.args.self.now c.args.key (λ j h. none-some j ((c.in_default.ensures j).1 h)))

pub returns-clause-entries : goal.returns-clause-entries
returns-clause-entries g c =
    let exact = Decides-eq g.K.PartialEq.eq g.met.K.Eq.laws g.met.K.Datum.same in
    let es = c.args.self.now in
    let absent : lookup (g.K.PartialEq.eq c.args.key) es ≡ None = lookup-nowhere g.K.PartialEq.eq exact es c.args.key (λ j h. none-some j ((c.in_default.ensures j).1 h)) in
    on_ok_weaker c.push.result (λ put. put ∙ sym (insert_entry-new g.K.PartialEq.eq exact es c.args.key c.args.value absent)) c.push.ensures.entries

pub returns-clause-new_key : goal.returns-clause-new_key
returns-clause-new_key g c = on_ok_weaker c.push.result (λ put absent. put) c.push.ensures.entries
