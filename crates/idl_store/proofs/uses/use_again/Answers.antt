-- The number is taken.
use Rattle.std.proofs.Common.{[], ℕ, arith}
use Rattle.std.specs.Prelude.{IsSome}
use Rattle.std.proofs.lemmas.List.Elements.{All-cons, All-nil}
use Rattle.slab.specs.Slab.{get}
use Rattle.std.proofs.lemmas.Grind.{common_steps}
use Rattle.idl_store.proofs.uses.use_again.Goals as goal

pub use_all_again-requires : goal.use_all_again-requires
use_all_again-requires g c =
    let P : ℕ → Type 0 = λ n. IsSome (get c.args.used.now n) in
    All-cons P c.args.number [] c.requires (All-nil P)

pub returns : goal.returns
returns g c = grind (arith, common_steps)

pub returns-in_err-kept-clause-err : goal.returns-in_err-kept-clause-err
returns-in_err-kept-clause-err g c = grind (arith, common_steps)
