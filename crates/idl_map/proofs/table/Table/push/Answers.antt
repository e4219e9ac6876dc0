use Rattle.std.proofs.Common.{◌≡◌, ◌++◌, [], ◌∷◌, ℕ, List, cond, Option, None, Some, IfSome, length, sym, ap, ◌∙◌, subst, arith}
use Rattle.std.specs.Map.{keys_of, lookup}
use Rattle.std.specs.Global.{Box}
use Rattle.std.proofs.lemmas.Map.Entries.{length-keys_of}
use Rattle.idl_map.specs.Table.{AreDistinct, IsIndexOf, IsIndexed, places_behind, places_in}
use Rattle.idl_base.proofs.Exactness.{Decides-eq}
use Rattle.idl_map.proofs.TableLemmas.{AreDistinct-push, IsIndexOf-front, IsIndexOf-push, keys_of-push, nothing, nowhere-lookup}
use Rattle.idl_map.proofs.PlaceLemmas.{Decides-eq_of}
use Rattle.std.proofs.lemmas.Grind.{common_steps}
use Rattle.idl_map.proofs.table.Table.push.Goals as goal
use Rattle.idl_map.proofs.table.Table.push.Goals.{in-Some+in_ok-clone+in_ok-insert, in_default}

-- on want of memory the index may know the place of one key more, which stands nowhere
pub invariant_of-self-in_err-push : goal.invariant_of-self-in_err-push
invariant_of-self-in_err-push g c =
    let eq = g.K.PartialEq.eq in
    let key = c.args.key in
    let es = c.self.inside.entries.items in
    let absent : lookup (eq key) es ≡ None = ap (lookup (eq key)) (c.self.view_is ∙ c.index_many.ensures) ∙ nothing _ c.requires in
    let nowhere = nowhere-lookup eq (Decides-eq eq g.met.K.Eq.laws g.met.K.Datum.same) es key absent in
    let room : c.match-self.self-inside.entries.items ≡ es =
    elim c.match-self.branch [ in-Some+in_ok-clone+in_ok-insert w ↦ ap (λ t. t.entries.items) w.self-inside-is | in_default w ↦ ap (λ t. t.entries.items) w.self-inside-is ] in
    let keys : keys_of c.push.new.self.items ≡ keys_of es = ap keys_of (c.in_err-push.ensures.items ∙ room) in
    let distinct : AreDistinct (keys_of c.push.new.self.items) = subst AreDistinct (sym keys) c.self.invariant.distinct in
    let held = λ (o : Option (Box (List (g.row.K.Denot × ℕ)))). IfSome (places_behind eq o) (λ places. IsIndexOf places (keys_of es)) in
    elim c.match-self.branch [
      | in-Some+in_ok-clone+in_ok-insert w ↦ (
          let copy = w.in_ok-clone.field-0 in
          let own : copy ≡ key = g.met.K.Datum.copy key copy w.in_ok-clone.ensures.cases in
          let places = places_in eq w.deref_mut.result.now in
          let new = places_in eq w.insert.new.self in
          let index : IsIndexOf places (keys_of es) = subst (λ map. IsIndexOf (places_in eq map) (keys_of es)) (sym w.deref_mut.ensures.value) (subst held w.in-Some.is c.self.invariant.places) in
          let ends : c.len-place.result ≡ length (keys_of es) = omega (arith, length-keys_of es, c.len-place.ensures) in
          let more = IsIndexOf-push (λ k. eq k copy) copy
          (Decides-eq_of eq g.met.K.Eq.laws g.met.K.Datum.same copy)
          places new (keys_of es) index
          (λ i h. nowhere i (h ∙ ap Some own))
          (λ q. w.in_ok-insert.ensures.each_key q ∙ ap (λ n. cond (eq q copy) (Some n) (places q)) ends) in
          subst (λ t. IsIndexed (places_behind eq t.index) (keys_of c.push.new.self.items)) (sym w.self-inside-is) record {
            distinct = distinct;
            places = subst (IsIndexOf new) (sym keys) (IsIndexOf-front new (keys_of es) copy more);
          }
          )
      | in_default w ↦ subst (λ t. IsIndexed (places_behind eq t.index) (keys_of c.push.new.self.items)) (sym w.self-inside-is) record {
        distinct = distinct;
        places = subst (λ o. IfSome (places_behind eq o) (λ places. IsIndexOf places (keys_of c.push.new.self.items))) (sym w.in_default.is) tt;
      }
    ]

pub invariant_of-self-2 : goal.invariant_of-self-2
invariant_of-self-2 g c =
    let eq = g.K.PartialEq.eq in
    let key = c.args.key in
    let es = c.self.inside.entries.items in
    let absent : lookup (eq key) es ≡ None = ap (lookup (eq key)) (c.self.view_is ∙ c.index_many.ensures) ∙ nothing _ c.requires in
    let nowhere = nowhere-lookup eq (Decides-eq eq g.met.K.Eq.laws g.met.K.Datum.same) es key absent in
    let room : c.match-self.self-inside.entries.items ≡ es =
    elim c.match-self.branch [ in-Some+in_ok-clone+in_ok-insert w ↦ ap (λ t. t.entries.items) w.self-inside-is | in_default w ↦ ap (λ t. t.entries.items) w.self-inside-is ] in
    let grown : c.push.new.self.items ≡ es ++ (key, c.args.value) ∷ [] = c.in_ok-push.ensures.items ∙ ap (λ fs. fs ++ (key, c.args.value) ∷ []) room in
    let keys : keys_of c.push.new.self.items ≡ keys_of es ++ key ∷ [] = ap keys_of grown ∙ keys_of-push es key c.args.value in
    let distinct : AreDistinct (keys_of c.push.new.self.items) = subst AreDistinct (sym keys) (AreDistinct-push (keys_of es) key c.self.invariant.distinct nowhere) in
    let held = λ (o : Option (Box (List (g.row.K.Denot × ℕ)))). IfSome (places_behind eq o) (λ places. IsIndexOf places (keys_of es)) in
    elim c.match-self.branch [
      | in-Some+in_ok-clone+in_ok-insert w ↦ (
          let copy = w.in_ok-clone.field-0 in
          let own : copy ≡ key = g.met.K.Datum.copy key copy w.in_ok-clone.ensures.cases in
          let places = places_in eq w.deref_mut.result.now in
          let index : IsIndexOf places (keys_of es) = subst (λ map. IsIndexOf (places_in eq map) (keys_of es)) (sym w.deref_mut.ensures.value) (subst held w.in-Some.is c.self.invariant.places) in
          let ends : c.len-place.result ≡ length (keys_of es) = omega (arith, length-keys_of es, c.len-place.ensures) in
          let more = IsIndexOf-push (λ k. eq k copy) copy
          (Decides-eq_of eq g.met.K.Eq.laws g.met.K.Datum.same copy)
          places (places_in eq w.insert.new.self) (keys_of es) index
          (λ i h. nowhere i (h ∙ ap Some own))
          (λ q. w.in_ok-insert.ensures.each_key q ∙ ap (λ n. cond (eq q copy) (Some n) (places q)) ends) in
          subst (λ t. IsIndexed (places_behind eq t.index) (keys_of c.push.new.self.items)) (sym w.self-inside-is) record {
            distinct = distinct;
            places = subst (IsIndexOf (places_in eq w.insert.new.self)) (ap (λ k. keys_of es ++ k ∷ []) own ∙ sym keys) more;
          }
          )
      | in_default w ↦ subst (λ t. IsIndexed (places_behind eq t.index) (keys_of c.push.new.self.items)) (sym w.self-inside-is) record {
        distinct = distinct;
        places = subst (λ o. IfSome (places_behind eq o) (λ places. IsIndexOf places (keys_of c.push.new.self.items))) (sym w.in_default.is) tt;
      }
    ]

pub invariant_of-self : goal.invariant_of-self
invariant_of-self g c = grind (arith, common_steps)

pub returns-in_err-index_many-clause-err : goal.returns-in_err-index_many-clause-err
returns-in_err-index_many-clause-err g c = grind (arith, common_steps)

pub returns-in_err-clone-clause-err : goal.returns-in_err-clone-clause-err
returns-in_err-clone-clause-err g c = grind (arith, common_steps)

pub returns-in_err-insert-clause-err : goal.returns-in_err-insert-clause-err
returns-in_err-insert-clause-err g c = grind (arith, common_steps)

pub returns-in_err-push-clause-err : goal.returns-in_err-push-clause-err
returns-in_err-push-clause-err g c = grind (arith, common_steps)

pub returns-clause-entries : goal.returns-clause-entries
returns-clause-entries g c = grind (arith, common_steps)

pub returns-clause-err : goal.returns-clause-err
returns-clause-err g c = grind (arith, common_steps)
