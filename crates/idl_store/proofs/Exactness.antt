-- Orders and tests that find equal what is one.
use Rattle.std.proofs.Common.{◌≡◌, Bool, true, Option, Some, None, refl, ap, ◌∙◌}
use Rattle.std.specs.Cmp.{IsTotalOrder}
use Rattle.std.specs.Cmp.Lexicographic.{options_total}
use Rattle.std.specs.Option.{option_cmp}
use Rattle.std.specs.Ordering.{eq_by_cmp, is_eq}
use Rattle.std.specs.declared.cmp.Ordering.{Ordering}
use Rattle.std.specs.declared.cmp.Ordering.TheVariants.{Equal}

-- of exact data
exact_by : {X : Type 0} (cmp : X → X → Ordering) (eq : X → X → Bool) → ((x y : X) → eq x y ≡ eq_by_cmp cmp x y) → ((x y : X) → eq x y ≡ true → x ≡ y) → (x y : X) → cmp x y ≡ Equal → x ≡ y
exact_by cmp eq ties same x y h = same x y (ties x y ∙ ap is_eq h)

-- and of what may be absent
exact_options : {X : Type 0} (cmp : X → X → Ordering) → ((x y : X) → cmp x y ≡ Equal → x ≡ y) → (p q : Option X) → option_cmp cmp p q ≡ Equal → p ≡ q
exact_options cmp exact None None h = refl
exact_options cmp exact None (Some y) h = absurd (cc)
exact_options cmp exact (Some x) None h = absurd (cc)
exact_options cmp exact (Some x) (Some y) h = ap Some (exact x y h)

-- texts and answers are in orders that find equal what is one, and so are keys by a test
pub record IsExact {K V T : Type 0} (text_cmp : T → T → Ordering) (answer_cmp : V → V → Ordering) (key_eq : K → K → Bool) : Type 0 where
  pub texts : IsTotalOrder text_cmp
  pub answers : IsTotalOrder answer_cmp
  pub text_is : (t u : T) → text_cmp t u ≡ Equal → t ≡ u
  pub answer_is : (v w : V) → answer_cmp v w ≡ Equal → v ≡ w
  pub key_itself : (k : K) → key_eq k k ≡ true
  pub key_is : (k l : K) → key_eq k l ≡ true → k ≡ l

-- those of a task are
pub exact_task : {K V T : Type 0} (text_cmp : T → T → Ordering) (text_eq : T → T → Bool) (answer_cmp : V → V → Ordering) (answer_eq : V → V → Bool) (key_eq : K → K → Bool)
    → IsTotalOrder text_cmp → ((t u : T) → text_eq t u ≡ eq_by_cmp text_cmp t u) → ((t u : T) → text_eq t u ≡ true → t ≡ u)
    → IsTotalOrder answer_cmp → ((v w : V) → answer_eq v w ≡ eq_by_cmp answer_cmp v w) → ((v w : V) → answer_eq v w ≡ true → v ≡ w)
    → ((k : K) → key_eq k k ≡ true) → ((k l : K) → key_eq k l ≡ true → k ≡ l)
    → IsExact text_cmp (option_cmp answer_cmp) key_eq
exact_task text_cmp text_eq answer_cmp answer_eq key_eq texts text_ties text_same answers answer_ties answer_same itself same = record {
  texts = texts;
  answers = options_total answers;
  text_is = exact_by text_cmp text_eq text_ties text_same;
  answer_is = exact_options answer_cmp (exact_by answer_cmp answer_eq answer_ties answer_same);
  key_itself = itself;
  key_is = same;
}
