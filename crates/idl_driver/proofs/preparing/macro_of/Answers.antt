use Rattle.std.proofs.Common.{◌≡◌, ◌∷◌, [], ℕ, List, Option, Bor, MatchOption, nat_eq, subst}
use Rattle.std.specs.List.{slice_split}
use Rattle.idl_driver.proofs.WordLemmas.{part-more, part-one}
use Rattle.idl_driver.proofs.preparing.macro_of.Goals as goal

pub returns-in-Some : goal.returns-in-Some
returns-in-Some c =
    let word = c.args.word.now in
    let first = c.first_part.result.0.now in
    let split = slice_split (λ b. nat_eq b 61) in
    let parts = part-more word first c.in-Some.value.now
    (subst (λ (o : Option (Bor (List ℕ))). MatchOption o (split word ≡ first ∷ []) (λ rest. split word ≡ first ∷ split rest.now)) c.in-Some.is c.first_part.ensures.parts) in
    record { name = parts.0; body = parts.1 }

pub returns-in-None : goal.returns-in-None
returns-in-None c =
    let word = c.args.word.now in
    let first = c.first_part.result.0.now in
    let split = slice_split (λ b. nat_eq b 61) in
    let parts = part-one word first
    (subst (λ (o : Option (Bor (List ℕ))). MatchOption o (split word ≡ first ∷ []) (λ rest. split word ≡ first ∷ split rest.now)) c.in-None.is c.first_part.ensures.parts) in
    record { name = parts.0; body = parts.1 }
