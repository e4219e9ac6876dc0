-- How a log stands to a bank, by the first of its answers that isn't the bank's.
use Rattle.std.proofs.Common.{◌≡◌, Bool, Bor, true, false, List, [], ◌∷◌, Option, None, Some, refl, sym, ◌∙◌}
use Rattle.std.specs.Option.{option_cmp, option_copied, option_eq}
use Rattle.std.specs.Ordering.{eq_by_cmp, is_eq, ordering_then}
use Rattle.std.specs.declared.cmp.Ordering.{Ordering}
use Rattle.std.specs.declared.cmp.Ordering.TheVariants.{Less, Equal, Greater}
use Rattle.idl_memo.specs.Runs.{first_other}
use Rattle.idl_store.specs.Order.{bank_cmp}

-- an order that tells, whatever comes then
told : (o rest : Ordering) → is_eq o ≡ false → ordering_then o rest ≡ o
told Less rest h = refl
told Equal rest h = absurd (cc)
told Greater rest h = refl

-- and one that doesn't
passed : (o rest : Ordering) → is_eq o ≡ true → ordering_then o rest ≡ rest
passed Less rest h = absurd (cc)
passed Equal rest h = refl
passed Greater rest h = absurd (cc)

-- the order of an answer to the bank's, if there is one that isn't the bank's
abbrev pub order_told : {V : Type 0} → (V → V → Ordering) → Option (Option V × Option V) → Ordering
order_told cmp None = Equal
order_told cmp (Some p) = option_cmp cmp p.0 p.1

-- answers that are lent stand to each other as they do by themselves
pub lent-cmp : {V : Type 0} (cmp : V → V → Ordering) (p q : Option (Bor V)) → option_cmp (λ (x y : Bor V). cmp x.now y.now) p q ≡ option_cmp cmp (option_copied p) (option_copied q)
lent-cmp cmp None None = refl
lent-cmp cmp None (Some w) = refl
lent-cmp cmp (Some v) None = refl
lent-cmp cmp (Some v) (Some w) = refl

module _ {K V : Type 0} (cmp : V → V → Ordering) (eq : V → V → Bool) (ties : (v w : V) → eq v w ≡ eq_by_cmp cmp v w) (bank : K → Option V) where
  -- answers are told apart where they aren't one
  option_ties : (p q : Option V) → option_eq eq p q ≡ is_eq (option_cmp cmp p q)
  option_ties None None = refl
  option_ties None (Some w) = refl
  option_ties (Some v) None = refl
  option_ties (Some v) (Some w) = ties v w

  pub first-tells : (log : List (K × Option V)) → bank_cmp (option_cmp cmp) log bank ≡ order_told cmp (first_other eq bank log)
  first-tells [] = refl
  first-tells (e ∷ log) = by (option_eq eq e.1 (bank e.0)) refl (first-tells log)
    where
      by : (b : Bool) → option_eq eq e.1 (bank e.0) ≡ b → bank_cmp (option_cmp cmp) log bank ≡ order_told cmp (first_other eq bank log)
          → bank_cmp (option_cmp cmp) (e ∷ log) bank ≡ order_told cmp (first_other eq bank (e ∷ log))
      by true h rest = rw h (passed (option_cmp cmp e.1 (bank e.0)) (bank_cmp (option_cmp cmp) log bank) (sym (option_ties e.1 (bank e.0)) ∙ h) ∙ rest)
      by false h rest = rw h (told (option_cmp cmp e.1 (bank e.0)) (bank_cmp (option_cmp cmp) log bank) (sym (option_ties e.1 (bank e.0)) ∙ h))
