-- What is known of the ids of declared names: one look-up for verdicts, pragmas and listing.
use Rattle.std.specs.Prelude.{ℕ, List, [], ◌∷◌, Option, None, Some}
use Rattle.std.specs.Option.{option_map}
use Rattle.idl_memo.specs.Query.{Done, Ask, and_then}
use Rattle.idl_env.specs.Facts.{UnitFacts, identity_in, typeprefix_in}
use Rattle.idl_entity.specs.Identity.{told}
use Rattle.idl_entity.specs.declared.identity.Fixed.{Fixed}
use Rattle.idl_entity.specs.declared.identity.Identity.{Identity}
use Rattle.idl_env.specs.declared.additions.addition.Addition.{Addition}
use Rattle.idl_env.specs.declared.answering.answer.Answer.{Answer}
use Rattle.idl_env.specs.declared.keys.key.Key.TheVariants.{IdOf, Typeprefix}
use Rattle.idl_scope.specs.Lookup.{Lookup}

-- the typeprefix of the innermost scope that has one, of what is declared at a path and the scopes
-- around it but the global one
abbrev pub typeprefix_around : List (List ℕ) → Lookup (Option (List ℕ))
typeprefix_around [] = Done None
typeprefix_around (name ∷ scope) =
    Ask (Typeprefix (name ∷ scope)) (λ answer. elim (typeprefix_in answer)
    [ None ↦ typeprefix_around scope | Some text ↦ Done (Some text) ])

-- what identifies what is declared at a path: the typeprefixes are asked whatever is answered of its id
abbrev pub known : List (List ℕ) → Lookup (Option Identity)
known path =
    Ask (IdOf path) (λ answer. and_then (typeprefix_around path)
    (λ typeprefix. Done (identity_in typeprefix answer)))

-- the id of the name at a path that is identified so, and nothing where it isn't
abbrev pub told_of : List (List ℕ) → Option Identity → List ℕ
told_of path d = elim d [ None ↦ [] | Some d ↦ told path d ]

-- the id of what is declared at a path
abbrev pub id_of : List (List ℕ) → Lookup (List ℕ)
id_of path = and_then (known path) (λ d. Done (told_of path d))

-- what an answer tells of the id of the name at a path: the id as no typeprefix changes it, the text of
-- its prefix, and what was fixed
abbrev pub told_at : List (List ℕ) → Option Answer → Option (List ℕ × (List ℕ × Option Fixed))
told_at path answer =
    option_map (λ d. (told path d, (d.prefix.text, d.fixed))) (identity_in None answer)

-- what the earlier tokens of a unit add, where any are looked at
abbrev pub added_by : Option UnitFacts → List Addition
added_by None = []
added_by (Some facts) = facts.additions
