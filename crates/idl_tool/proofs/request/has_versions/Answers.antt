use Rattle.std.proofs.Common.{Bor, ◌≡◌, ◌∙◌, ◌||◌, Bool, ℕ, List, None, Option, Some, ap, false, is_some, length, nat_eq, refl, sym, true}
use Rattle.std.specs.Option.{option_map}
use Rattle.clap.specs.Words.{found_of, rows_of}
use Rattle.idl_tool.specs.Words.{below_in, files_in}
use Rattle.idl_tool.proofs.request.has_versions.Goals as goal

mapped : (o : Option (Bor (List ℕ))) → is_some o ≡ is_some (option_map (λ (w : Bor (List ℕ)). w.now) o)
mapped None = refl
mapped (Some w) = refl

pub returns-then-is_some : goal.returns-then-is_some
returns-then-is_some c =
    let rows = rows_of (found_of c.args.matches.now) in
    let known : is_some (below_in rows) ≡ true = sym (ap is_some c.below_of.ensures) ∙ sym (mapped c.below_of.result) ∙ sym c.is_some.ensures ∙ c.if-is_some.true in
    c.if-is_some.true ∙ sym (ap (λ (b : Bool). b || nat_eq (length (files_in rows)) 2) known)

pub returns-else-is_some : goal.returns-else-is_some
returns-else-is_some c =
    let rows = rows_of (found_of c.args.matches.now) in
    let known : is_some (below_in rows) ≡ false = sym (ap is_some c.below_of.ensures) ∙ sym (mapped c.below_of.result) ∙ sym c.is_some.ensures ∙ c.if-is_some.false in
    ap (λ (n : ℕ). nat_eq n 2) c.files_count-has_two.ensures ∙ sym (ap (λ (b : Bool). b || nat_eq (length (files_in rows)) 2) known)
