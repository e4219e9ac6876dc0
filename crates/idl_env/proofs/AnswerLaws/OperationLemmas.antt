-- The operations and attributes that are declared from a place among additions on.
use Rattle.std.proofs.Common.{◌≡◌, ℕ, ◌+◌, List, [], ◌∷◌, ◌++◌, Some, drop, ap, ◌∙◌}
use Rattle.std.specs.Prelude.{slice_get}
use Rattle.idl_env.specs.Facts.{operations_among}
use Rattle.idl_env.specs.declared.additions.addition.Addition.{Addition}
use Rattle.idl_env.proofs.AnswerLaws.PlaceLemmas.{drop-at1}
use Rattle.idl_env.proofs.AnswerLaws.StateLemmas.{operations_among-cons}

-- what the addition there declares, and those behind it
pub operations_among-at : (additions : List Addition) (place : ℕ) (a : Addition) (own : List (List (List ℕ))) → slice_get additions place ≡ Some a → operations_among (a ∷ []) ≡ own
    → operations_among (drop place additions) ≡ own ++ operations_among (drop (place + 1) additions)
operations_among-at additions place a own here is =
    ap operations_among (drop-at1 additions place a here)
    ∙ operations_among-cons a (drop (place + 1) additions)
    ∙ ap (λ l. l ++ operations_among (drop (place + 1) additions)) is
