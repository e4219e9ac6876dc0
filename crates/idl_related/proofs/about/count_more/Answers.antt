use Rattle.std.proofs.Common.{◌≡◌, ◌-◌, ◌∷◌, ℕ, zero, suc, List, [], None, Option, Some, arith, length, refl, set}
use Rattle.std.specs.List.{last_or}
use Rattle.std.specs.Option.{IfSome}
use Rattle.idl_related.specs.Told.{TellsMore}
use Rattle.idl_related.specs.declared.second.Second.{Second}
use Rattle.idl_related.proofs.about.count_more.Goals as goal

-- the last of these places tells it
last-told : (more : ℕ) (before : Option Second) (seconds : List Second) (at : ℕ) (s : Second) → suc at ≡ length seconds
    → IfSome (last_or before (set seconds at (record s { more = more }))) (λ last. last.more ≡ more)
last-told more before [] at s count = absurd (omega (arith, count))
last-told more before (x ∷ []) zero s count = refl
last-told more before (x ∷ []) (suc at) s count = absurd (omega (arith, count))
last-told more before (x ∷ y ∷ seconds) zero s count = absurd (omega (arith, count))
last-told more before (x ∷ y ∷ seconds) (suc at) s count = last-told more (Some x) (y ∷ seconds) at s (omega (arith, count))

-- where there are none, none tells it
none-told : (more : ℕ) (seconds : List Second) → length seconds ≡ 0 → TellsMore more seconds
none-told more [] none = tt
none-told more (x ∷ seconds) none = absurd (omega (arith, none))

pub returns-in-Some-clause-more : goal.returns-in-Some-clause-more
returns-in-Some-clause-more c =
    let seconds = c.args.seconds.now in
    last-told c.args.more None seconds.items (seconds.len - 1) c.in-Some.last.now (omega (arith, c.in-Some.ensures.variant.0 refl, seconds.ok.0))
