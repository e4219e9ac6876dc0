use Rattle.std.proofs.Common.{◌≡◌, ◌%◌, ◌^◌, ℕ, Bool, false, not, eqb, length, get_or, replicate, sym, ap, subst, arith, w8}
use Rattle.std.specs.Int.{bit_at}
use Rattle.std.specs.Simd.Lanes.{mask_l}
use Rattle.std.proofs.lemmas.Bool.{ne_eqb}
use Rattle.std.proofs.lemmas.Simd.{tops_compared}
use Rattle.idl_map.proofs.LaneLemmas.{set_in}
use Rattle.idl_map.proofs.buckets.lanes_above.Goals as goal

abbrev differs : ℕ → ℕ → Bool
differs a b = not (eqb a b)

pub returns : goal.returns
returns c slot within some =
    let tags = c.args.tags in
    let long : length tags ≡ 16 = c.fits-tags.0 in
    let other : eqb (get_or tags slot 0) 0 ≡ false = ne_eqb (get_or tags slot 0) 0 (λ e. omega (arith, e, some)) in
    subst (λ bs. bit_at (mask_l bs % 2 ^ 64) slot ≡ 1) (sym (tops_compared w8 differs tags (replicate 16 0))) (set_in differs tags 0 long slot within (ap not other))
