-- What is asked for typeprefixes, scope after scope, and what comes of it.
use Rattle.std.proofs.Common.{◌≡◌, ◌∙◌, ℕ, List, [], ◌∷◌, Option, Some, None, ap, arith, length, map, refl}
use Rattle.idl_memo.specs.Query.{Done, asked, noted, outcome}
use Rattle.idl_env.specs.Facts.{typeprefix_in}
use Rattle.idl_env.specs.answering.Walked.{entries_outward}
use Rattle.idl_env.specs.keys.Key.{key_eq}
use Rattle.idl_env.specs.declared.additions.addition.Addition.{Addition}
use Rattle.idl_env.specs.declared.answering.answer.Answer.{Answer}
use Rattle.idl_env.specs.declared.keys.key.Key.{Key}
use Rattle.idl_env.specs.declared.keys.key.Key.TheVariants.{Typeprefix}
use Rattle.idl_scope.specs.Known.{typeprefix_around}
use Rattle.idl_scope.specs.Lookup.{Lookup}
use Rattle.idl_scope.proofs.LookupLaws.RunLemmas.{runs, seen_at}

module _ (own : List Addition) (bank : Key → Option Answer) (name : List ℕ) (scope : List (List ℕ)) (log : List (Key × Option Answer)) where
  abbrev here : Key
  here = Typeprefix (name ∷ scope)

  abbrev by : Option (List ℕ) → Option (List ℕ) × List (Key × Option Answer)
  by o = runs own bank (elim o as (λ _. Lookup (Option (List ℕ))) [ None ↦ typeprefix_around scope | Some text ↦ Done (Some text) ]) (noted key_eq bank log here)

  -- the innermost scope has one
  pub typeprefix_found : (text : List ℕ) → typeprefix_in (seen_at own bank here) ≡ Some text → runs own bank (typeprefix_around (name ∷ scope)) log ≡ (Some text, noted key_eq bank log here)
  typeprefix_found text h = ap by h

  -- and has none
  pub typeprefix_on : typeprefix_in (seen_at own bank here) ≡ None → runs own bank (typeprefix_around (name ∷ scope)) log ≡ runs own bank (typeprefix_around scope) (noted key_eq bank log here)
  typeprefix_on h = ap by h

-- where no scope has one, none is found
pub typeprefix_none : (bank : Key → Option Answer) → ((path : List (List ℕ)) → bank (Typeprefix path) ≡ None) → (path : List (List ℕ)) → outcome (typeprefix_around path) bank ≡ None
typeprefix_none bank none [] = refl
typeprefix_none bank none (name ∷ scope) =
    ap (λ answer. outcome (elim (typeprefix_in answer) as (λ _. Lookup (Option (List ℕ))) [ None ↦ typeprefix_around scope | Some text ↦ Done (Some text) ]) bank) (none (name ∷ scope))
    ∙ typeprefix_none bank none scope

module _ (bank : Key → Option Answer) (none : (path : List (List ℕ)) → bank (Typeprefix path) ≡ None) where
  -- and all are asked
  pub typeprefix_asked : (name : List ℕ) (scope : List (List ℕ)) → asked (typeprefix_around (name ∷ scope)) bank ≡ Typeprefix (name ∷ scope) ∷ asked (typeprefix_around scope) bank
  typeprefix_asked name scope =
      ap (λ answer. Typeprefix (name ∷ scope) ∷ asked (elim (typeprefix_in answer) as (λ _. Lookup (Option (List ℕ))) [ None ↦ typeprefix_around scope | Some text ↦ Done (Some text) ]) bank) (none (name ∷ scope))

  -- one for each name of the path
  pub outward_long : (path : List (List ℕ)) → length (asked (typeprefix_around path) bank) ≡ length path
  outward_long [] = refl
  outward_long (name ∷ scope) = omega (arith, ap length (typeprefix_asked name scope), outward_long scope)

  -- each with no answer
  pub outward_entries : (path : List (List ℕ)) → map (λ k. (k, bank k)) (asked (typeprefix_around path) bank) ≡ entries_outward path
  outward_entries [] = refl
  outward_entries (name ∷ scope) =
      ap (map (λ k. (k, bank k))) (typeprefix_asked name scope)
      ∙ (λ i. (Typeprefix (name ∷ scope), none (name ∷ scope) i) ∷ outward_entries scope i)
