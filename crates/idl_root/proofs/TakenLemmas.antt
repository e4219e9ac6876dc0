-- Results of lists that go into the last draft too.
use Rattle.std.proofs.Common.{◌≡◌, ℕ, List, [], ◌∷◌, Option, None, Some, ap, inl, length, refl, subst, sym, ◌∙◌}
use Rattle.std.specs.Option.{option_map}
use Rattle.std.specs.Prelude.{IfNone, IfOk, IfSome, OnErr, OnOk, Result, Ok, Err, option_to_list}
use Rattle.std.proofs.lemmas.Option.{same_Some}
use Rattle.idl_kept.specs.Texts.{DeclarationResult, Texts, with_units}
use Rattle.idl_memo.specs.Fresh.{Place}
use Rattle.idl_memo.specs.Kept.{Kept}
use Rattle.idl_memo.specs.Meter.{compared_after}
use Rattle.idl_memo.specs.declared.meter.Meter.{Meter}
use Rattle.idl_memo.specs.declared.task.TaskKind.{TaskKind}
use Rattle.idl_store.specs.Stored.{Stored}
use Rattle.idl_root.specs.Followed.{IsObtainedLast, IsTakenAgain, UnitsOnly}
use Rattle.idl_root.proofs.StoredLemmas.{grown-none}

-- what is kept grows by some results
module _ {X R E S : Type 0} (value : R → X) (grow : List X → S) (new : S) where
  -- where there is none, nothing happens
  pub none-taken : (old : S) → grow [] ≡ old → (result : Result (Option R) E) (at : Option X) → IfOk result (λ found. option_map value found ≡ at) → OnOk result (new ≡ grow (option_to_list at))
      → IfOk result (λ found. IfNone found (new ≡ old))
  none-taken old none (Ok None) at is grows = grows ∙ ap (λ a. grow (option_to_list a)) (sym is) ∙ none
  none-taken old none (Ok (Some r)) at is grows = tt
  none-taken old none (Err e) at is grows = tt

  -- where there is one, it goes there
  pub some-taken : (result : Result (Option R) E) (at : Option X) (k : X) → at ≡ Some k → IfOk result (λ found. option_map value found ≡ at) → OnOk result (new ≡ grow (option_to_list at))
      → IfOk result (λ found. IfSome found (λ r. (value r ≡ k) × (new ≡ grow (k ∷ []))))
  some-taken (Ok None) at k one is grows = tt
  some-taken (Ok (Some r)) at k one is grows = (same_Some (value r) k (is ∙ one), grows ∙ ap (λ a. grow (option_to_list a)) one)
  some-taken (Err e) at k one is grows = tt

-- nothing is taken of units
pub units-none : (old : Texts) → with_units old [] ≡ old
units-none old = ap (λ (s : Stored DeclarationResult). record old { declarations = s }) (grown-none old.declarations)

-- where units are taken or obtained, nothing else differs
pub units-only : {T E : Type 0} (result : Result T E) (old new : Texts) (more : List DeclarationResult) → OnOk result (new ≡ with_units old more) → OnErr result (new ≡ old) → UnitsOnly old new
units-only (Ok t) old new more ok err = subst (λ n. UnitsOnly old n) (sym ok) refl
units-only (Err e) old new more ok err = subst (λ n. UnitsOnly old n) (sym err) refl

-- of what is found
pub found-weaker : {R E : Type 0} (result : Result (Option R) E) (P Q : R → Type 0) → ((r : R) → P r → Q r) → IfOk result (λ found. IfSome found P) → IfOk result (λ found. IfSome found Q)
found-weaker (Ok None) P Q more is = tt
found-weaker (Ok (Some r)) P Q more is = more r is
found-weaker (Err e) P Q more is = tt

pub some-weaker : {R : Type 0} (found : Option R) (P Q : R → Type 0) → ((r : R) → P r → Q r) → IfSome found P → IfSome found Q
some-weaker None P Q more is = tt
some-weaker (Some r) P Q more is = more r is

-- of what isn't found
pub none-weaker : {R P Q : Type 0} (found : Option R) → (P → Q) → IfNone found P → IfNone found Q
none-weaker None more is = more is
none-weaker (Some r) more is = tt

-- where that can't be, one is found
pub some-there : {R : Type 0} (found : Option R) (P : R → Type 0) → IfNone found ⊥ → IfSome found P → (r : R) × P r
some-there None P none some = absurd none
some-there (Some r) P none some = (r, some)

-- of what holds whatever is found
pub some-holds : {R : Type 0} (found : Option R) (P : R → Type 0) → ((r : R) → P r) → IfSome found P
some-holds None P all = tt
some-holds (Some r) P all = all r

pub none-holds : {R P : Type 0} (found : Option R) → P → IfNone found P
none-holds None all = all
none-holds (Some r) all = tt

-- of the one that is found, and where none is
pub at-some : {R : Type 0} (found : Option R) (r : R) (P : R → Type 0) → found ≡ Some r → IfSome found P → P r
at-some found r P is h = subst (λ o. IfSome o P) is h

pub at-none : {R : Type 0} (found : Option R) (P : Type 0) → found ≡ None → IfNone found P → P
at-none found P is h = subst (λ o. IfNone o P) is h

-- what is taken again goes last into what is made of a root, and its keys are compared
pub taken-last : {K V T O : Type 0} (kind : TaskKind) (place : Place K V T) (here : Kept K V T O) {old new : Stored (Kept K V T O)} {result : Kept K V T O} (before after : Meter) (keys : ℕ)
    → keys ≡ length here.log → after ≡ record before { compared = compared_after before.compared keys } → IsTakenAgain place here old new result → IsObtainedLast kind place here old new before after result
taken-last kind place here before after keys all counts taken = record {
  result_is = taken.result_is;
  new_is = taken.new_is;
  obtained = inl (taken.alike, counts ∙ ap (λ n. record before { compared = compared_after before.compared n }) all);
}
