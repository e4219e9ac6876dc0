use Rattle.std.proofs.Common.{◌≡◌, ◌++◌, ◌∷◌, [], None, refl, sym, ap, ◌∙◌, map, length, length-append, arith}
use Rattle.std.proofs.lemmas.List.{append-nil}
use Rattle.idl_map.specs.Marks.{is_marked}
use Rattle.idl_env.specs.Facts.{UnitFacts, addition_at, key_of, with_addition}
use Rattle.idl_env.specs.keys.Key.{key_digest}
use Rattle.idl_env.proofs.FirstLemmas.{with_addition-last}
use Rattle.idl_env.proofs.MarkLemmas.{AreMarked-with_addition}
use Rattle.idl_env.proofs.additions.facts.Facts.add.Goals as goal

pub may_be_among-requires : goal.may_be_among-requires
may_be_among-requires c k unmarked =
    let first = c.self.inside.first.items in
    let none : c.self.inside.others ≡ [] = c.if-not-has_room.ensures.none refl in
    let all = c.as_slice.ensures.value ∙ sym (append-nil first) ∙ ap (λ es. first ++ map (λ e. e.1) es) (sym none) in
    ap (λ l. addition_at l k) all ∙ c.self.invariant.1.1 k unmarked

pub returns : goal.returns
returns c =
    let first = c.self.inside.first.items in
    let more = map (λ e. e.1) c.self.inside.others in
    let a = c.args.addition in
    let none : c.self.inside.others ≡ [] = c.if-not-has_room.ensures.none refl in
    let others : addition_at first (key_of a) ≡ None =
    (λ i. addition_at (sym c.as_slice.ensures.value i) (key_of (sym c.of-addition.ensures i))) ∙ c.if-may_be_among.ensures refl in
    (λ i. record { additions = c.in_ok-push.ensures.items i ++ more; step = c.self.inside.step })
    ∙ (λ i. record { additions = (first ++ c.of-addition.ensures i ∷ []) ++ more; step = c.self.inside.step })
    ∙ (λ i. record { additions = with_addition-last first more a (ap (map (λ e. e.1)) none) others i; step = c.self.inside.step })
    ∙ ap (λ (f : UnitFacts). record f { additions = with_addition f.additions a }) c.self.view_is

pub invariant_of-self-2 : goal.invariant_of-self-2
invariant_of-self-2 c =
    let first = c.self.inside.first.items in
    let more = map (λ e. e.1) c.self.inside.others in
    let a = c.args.addition in
    let none : c.self.inside.others ≡ [] = c.if-not-has_room.ensures.none refl in
    let others : addition_at first (key_of a) ≡ None =
    (λ i. addition_at (sym c.as_slice.ensures.value i) (key_of (sym c.of-addition.ensures i))) ∙ c.if-may_be_among.ensures refl in
    let put = ap (λ l. l ++ more) (c.in_ok-push.ensures.items ∙ ap (λ b. first ++ b ∷ []) c.of-addition.ensures) ∙ with_addition-last first more a (ap (map (λ e. e.1)) none) others in
    let digest : c.digest-digest.result ≡ key_digest (key_of a) = c.digest-digest.ensures ∙ ap (λ b. key_digest (key_of b)) c.of-addition.ensures in (
      c.self.invariant.0,
      (
        omega (arith, c.self.invariant.1.0, ap length c.in_ok-push.ensures.items, length-append first (c.of-addition.result ∷ [])),
        AreMarked-with_addition c.self.inside.marks c.mark.new.self (first ++ more) _ a c.mark.ensures.kept (ap (is_marked c.mark.new.self) (sym digest) ∙ c.mark.ensures.marked) put c.self.invariant.1.1,
      ),
    )
