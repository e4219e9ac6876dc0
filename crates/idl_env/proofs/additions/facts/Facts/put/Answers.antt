use Rattle.std.proofs.Common.{◌≡◌, ◌++◌, [], suc, refl, cond, false, true, length, is_some, sym, ap, ◌∙◌, ◌∷◌, length-append, map, arith}
use Rattle.std.specs.List.{position}
use Rattle.std.proofs.lemmas.List.{length-set}
use Rattle.std.specs.Map.{lookup}
use Rattle.idl_map.specs.Marks.{is_marked}
use Rattle.idl_map.specs.Table.{insert_entry}
use Rattle.idl_env.specs.Facts.{UnitFacts, key_of, with_addition}
use Rattle.idl_env.specs.Held.{HaveOwnKeys}
use Rattle.idl_env.specs.keys.Key.{key_eq}
use Rattle.idl_env.proofs.AnswerLaws.AnswerLemmas.{HaveOwnKeys-insert_entry, additions-insert_entry}
use Rattle.idl_env.proofs.FirstLemmas.{absent, length-insert_entry, with_addition-at, with_addition-behind, with_addition-last}
use Rattle.idl_env.proofs.MarkLemmas.{AreMarked-with_addition}
use Rattle.idl_env.proofs.additions.facts.Facts.put.Goals as goal

pub invariant_of-self : goal.invariant_of-self
invariant_of-self c =
    let first = c.self.inside.first.items in
    let more = map (λ e. e.1) c.self.inside.others in
    let a = c.args.addition in
    let there = ap (position (λ b. key_eq (key_of a) (key_of b))) (sym c.as_slice.ensures.value) ∙ sym c.in-Some-place_among.ensures in
    let marked = ap (is_marked c.mark.new.self) (sym c.digest.ensures) ∙ c.mark.ensures.marked in (
      c.self.invariant.0,
      (
        omega (arith, c.self.invariant.1.0, length-set first c.in-Some-place_among.place a),
        AreMarked-with_addition c.self.inside.marks c.mark.new.self (first ++ more) _ a c.mark.ensures.kept marked (sym (with_addition-at first more a c.in-Some-place_among.place there)) c.self.invariant.1.1,
      ),
    )

pub invariant_of-self-then-has_room : goal.invariant_of-self-then-has_room
invariant_of-self-then-has_room c =
    let first = c.self.inside.first.items in
    let more = map (λ e. e.1) c.self.inside.others in
    let a = c.args.addition in
    let nowhere = ap (position (λ b. key_eq (key_of a) (key_of b))) (sym c.as_slice.ensures.value) ∙ sym c.in_default-place_among.ensures in
    let none : c.self.inside.others ≡ [] = c.if-has_room.ensures.none refl in
    let put = ap (λ l. l ++ more) c.in_ok-push.ensures.items ∙ with_addition-last first more a (ap (map (λ e. e.1)) none) (absent (key_of a) first nowhere) in
    let marked = ap (is_marked c.mark.new.self) (sym c.digest.ensures) ∙ c.mark.ensures.marked in (
      c.self.invariant.0,
      (
        omega (arith, c.self.invariant.1.0, c.in-Some.ensures, ap length c.in_ok-push.ensures.items, length-append first (a ∷ [])),
        AreMarked-with_addition c.self.inside.marks c.mark.new.self (first ++ more) _ a c.mark.ensures.kept marked put c.self.invariant.1.1,
      ),
    )

pub returns-in-Some-place_among : goal.returns-in-Some-place_among
returns-in-Some-place_among c =
    let first = c.self.inside.first.items in
    let more = map (λ e. e.1) c.self.inside.others in
    let a = c.args.addition in
    let there = ap (position (λ b. key_eq (key_of a) (key_of b))) (sym c.as_slice.ensures.value) ∙ sym c.in-Some-place_among.ensures in
    (λ i. record { additions = sym (with_addition-at first more a c.in-Some-place_among.place there) i; step = c.self.inside.step })
    ∙ ap (λ (f : UnitFacts). record f { additions = with_addition f.additions a }) c.self.view_is

pub returns-then-has_room : goal.returns-then-has_room
returns-then-has_room c =
    let first = c.self.inside.first.items in
    let more = map (λ e. e.1) c.self.inside.others in
    let a = c.args.addition in
    let nowhere = ap (position (λ b. key_eq (key_of a) (key_of b))) (sym c.as_slice.ensures.value) ∙ sym c.in_default-place_among.ensures in
    let none : c.self.inside.others ≡ [] = c.if-has_room.ensures.none refl in
    (λ i. record { additions = c.in_ok-push.ensures.items i ++ more; step = c.self.inside.step })
    ∙ (λ i. record { additions = with_addition-last first more a (ap (map (λ e. e.1)) none) (absent (key_of a) first nowhere) i; step = c.self.inside.step })
    ∙ ap (λ (f : UnitFacts). record f { additions = with_addition f.additions a }) c.self.view_is

pub invariant_of-self-then-is_new : goal.invariant_of-self-then-is_new
invariant_of-self-then-is_new c =
    let first = c.self.inside.first.items in
    let entries = c.self.inside.others in
    let a = c.args.addition in
    let nowhere = ap (position (λ b. key_eq (key_of a) (key_of b))) (sym c.as_slice.ensures.value) ∙ sym c.in_default-place_among.ensures in
    let put = c.in_ok-insert.ensures.entries ∙ ap (λ k. insert_entry key_eq entries k a) c.in_ok-key.ensures in
    let grown = ap (λ l. first ++ l) (ap (map (λ e. e.1)) put ∙ additions-insert_entry entries a c.self.invariant.0) ∙ sym (with_addition-behind first (map (λ e. e.1) entries) a (absent (key_of a) first nowhere)) in
    let own : HaveOwnKeys c.insert.new.self = rw put (HaveOwnKeys-insert_entry entries a c.self.invariant.0) in
    let new : is_some (lookup (key_eq c.in_ok-key.key) entries) ≡ false = sym c.contains-is_new.ensures ∙ c.if-is_new.true in
    let count = length-insert_entry entries c.in_ok-key.key a ∙ ap (λ b. cond b (length entries) (suc (length entries))) new in (
      own,
      (
        omega (arith, c.self.invariant.1.0, c.in-Some.ensures, ap length c.in_ok-insert.ensures.entries, count),
        AreMarked-with_addition c.self.inside.marks c.mark.new.self (first ++ map (λ e. e.1) entries) _ a c.mark.ensures.kept (ap (is_marked c.mark.new.self) (sym c.digest.ensures) ∙ c.mark.ensures.marked) grown c.self.invariant.1.1,
      ),
    )

pub invariant_of-self-else-is_new : goal.invariant_of-self-else-is_new
invariant_of-self-else-is_new c =
    let first = c.self.inside.first.items in
    let entries = c.self.inside.others in
    let a = c.args.addition in
    let nowhere = ap (position (λ b. key_eq (key_of a) (key_of b))) (sym c.as_slice.ensures.value) ∙ sym c.in_default-place_among.ensures in
    let put = c.in_ok-insert.ensures.entries ∙ ap (λ k. insert_entry key_eq entries k a) c.in_ok-key.ensures in
    let grown = ap (λ l. first ++ l) (ap (map (λ e. e.1)) put ∙ additions-insert_entry entries a c.self.invariant.0) ∙ sym (with_addition-behind first (map (λ e. e.1) entries) a (absent (key_of a) first nowhere)) in
    let own : HaveOwnKeys c.insert.new.self = rw put (HaveOwnKeys-insert_entry entries a c.self.invariant.0) in
    let old : is_some (lookup (key_eq c.in_ok-key.key) entries) ≡ true = sym c.contains-is_new.ensures ∙ c.if-is_new.false in
    let count = length-insert_entry entries c.in_ok-key.key a ∙ ap (λ b. cond b (length entries) (suc (length entries))) old in (
      own,
      (
        omega (arith, c.self.invariant.1.0, ap length c.in_ok-insert.ensures.entries, count),
        AreMarked-with_addition c.self.inside.marks c.mark.new.self (first ++ map (λ e. e.1) entries) _ a c.mark.ensures.kept (ap (is_marked c.mark.new.self) (sym c.digest.ensures) ∙ c.mark.ensures.marked) grown c.self.invariant.1.1,
      ),
    )

pub returns-then-is_new : goal.returns-then-is_new
returns-then-is_new c =
    let first = c.self.inside.first.items in
    let entries = c.self.inside.others in
    let a = c.args.addition in
    let nowhere = ap (position (λ b. key_eq (key_of a) (key_of b))) (sym c.as_slice.ensures.value) ∙ sym c.in_default-place_among.ensures in
    let put = c.in_ok-insert.ensures.entries ∙ ap (λ k. insert_entry key_eq entries k a) c.in_ok-key.ensures in
    let more = ap (map (λ e. e.1)) put ∙ additions-insert_entry entries a c.self.invariant.0 in
    (λ i. record { additions = first ++ more i; step = c.self.inside.step })
    ∙ (λ i. record { additions = sym (with_addition-behind first (map (λ e. e.1) entries) a (absent (key_of a) first nowhere)) i; step = c.self.inside.step })
    ∙ ap (λ (f : UnitFacts). record f { additions = with_addition f.additions a }) c.self.view_is

pub returns-else-is_new : goal.returns-else-is_new
returns-else-is_new c =
    let first = c.self.inside.first.items in
    let entries = c.self.inside.others in
    let a = c.args.addition in
    let nowhere = ap (position (λ b. key_eq (key_of a) (key_of b))) (sym c.as_slice.ensures.value) ∙ sym c.in_default-place_among.ensures in
    let put = c.in_ok-insert.ensures.entries ∙ ap (λ k. insert_entry key_eq entries k a) c.in_ok-key.ensures in
    let more = ap (map (λ e. e.1)) put ∙ additions-insert_entry entries a c.self.invariant.0 in
    (λ i. record { additions = first ++ more i; step = c.self.inside.step })
    ∙ (λ i. record { additions = sym (with_addition-behind first (map (λ e. e.1) entries) a (absent (key_of a) first nowhere)) i; step = c.self.inside.step })
    ∙ ap (λ (f : UnitFacts). record f { additions = with_addition f.additions a }) c.self.view_is
