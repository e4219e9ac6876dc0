-- When two types of which there are no constants are one.
use Rattle.std.specs.Prelude.{◌≡◌, ℕ, Bool, true, ◌==◌, if◌then◌else◌, nat_eq, refl}
use Rattle.std.proofs.Common.{ap, sym, ◌∙◌}
use Rattle.idl_base.specs.Exact.{same_number}
use Rattle.idl_entity.specs.declared.unvalued.Unvalued.{Unvalued}
use Rattle.idl_entity.specs.declared.unvalued.Unvalued.TheVariants.{Float, Double, LongDouble, Any, Object}

-- a number for each
abbrev pub unvalued_number : Unvalued → ℕ
unvalued_number Float = 0
unvalued_number Double = 1
unvalued_number LongDouble = 2
unvalued_number Any = 3
unvalued_number Object = 4

-- the one with a number
abbrev pub unvalued_of : ℕ → Unvalued
unvalued_of n =
    if n == 0 then Float
    else if n == 1 then Double
    else if n == 2 then LongDouble
    else if n == 3 then Any
    else Object

unvalued_of-number : (x : Unvalued) → unvalued_of (unvalued_number x) ≡ x
unvalued_of-number Float = refl
unvalued_of-number Double = refl
unvalued_of-number LongDouble = refl
unvalued_of-number Any = refl
unvalued_of-number Object = refl

-- whether two are one
abbrev pub unvalued_eq : Unvalued → Unvalued → Bool
unvalued_eq x y = nat_eq (unvalued_number x) (unvalued_number y)

pub same_unvalued : (x y : Unvalued) → unvalued_eq x y ≡ true → x ≡ y
same_unvalued x y h =
    sym (unvalued_of-number x)
    ∙ ap unvalued_of (same_number (unvalued_number x) (unvalued_number y) h)
    ∙ unvalued_of-number y
