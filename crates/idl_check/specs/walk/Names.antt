-- The names of a unit, in the order of its tokens, and the path of what each of them denotes.
use Rattle.std.specs.Prelude.{ℕ, List, [], ◌∷◌, ◌++◌, Option, Ok, Err, flat_map, if◌then◌else◌, length, map, option_to_list, slice_get}
use Rattle.std.specs.Option.{option_map}
use Rattle.idl_check.specs.walk.Held.{visited}
use Rattle.idl_check.specs.walk.Verdict.{placed_walk, unit_tree}
use Rattle.idl_check.specs.walk.Walk.{Walk, is_over}
use Rattle.idl_check.specs.declared.walk.names.NamedSite.{NamedSite}
use Rattle.idl_check.specs.declared.walk.names.NameRole.{NameRole}
use Rattle.idl_check.specs.declared.walk.names.NameRole.TheVariants.{Declared, Used}
use Rattle.idl_lex.specs.tokens.Tokens.{Token}
use Rattle.idl_memo.specs.Query.{outcome}
use Rattle.idl_env.specs.Facts.{scopes_in}
use Rattle.idl_env.specs.declared.answering.answer.Answer.{Answer}
use Rattle.idl_env.specs.declared.answering.answer.Scope.{Scope}
use Rattle.idl_env.specs.declared.keys.key.Key.{Key}
use Rattle.idl_env.specs.declared.keys.key.Key.TheVariants.{Cursor}
use Rattle.idl_parts.specs.Item.{Item, items}
use Rattle.idl_parts.specs.Part.{Part as item}
use Rattle.idl_parts.specs.UnitParts.{unit_parts}
use Rattle.idl_tree.specs.NameParts.{last_at}
use Rattle.idl_tree.specs.declared.unit.Tree.{Tree}
use Rattle.idl_unit.specs.declared.unit.UnitText.{UnitText}
use Rattle.idl_unit.specs.declared.unit.UnitText.TheVariants as unit

-- a name whose last token has this number, if it denotes what is at a path
abbrev pub named : NameRole → ℕ → Option (List (List ℕ)) → List NamedSite
named role index path =
    map (λ path. record { index = index; role = role; path = path }) (option_to_list path)

-- the paths of what these declare, and of what they use
abbrev pub declared_as : NameRole → List (List ℕ) → List (List (List ℕ))
declared_as Declared path = path ∷ []
declared_as Used path = []

abbrev pub used_as : NameRole → List (List ℕ) → List (List (List ℕ))
used_as Declared path = []
used_as Used path = path ∷ []

abbrev pub declared_paths : List NamedSite → List (List (List ℕ))
declared_paths names = flat_map (λ n. declared_as n.role n.path) names

abbrev pub used_paths : List NamedSite → List (List (List ℕ))
used_paths names = flat_map (λ n. used_as n.role n.path) names

-- The name at a site, by the walk before it and the one behind it. A declared name denotes what is
-- declared there. A used name denotes what is found there, if anything is.
abbrev pub names_at : Item → Walk → Walk → List NamedSite
names_at (item.Declares way name) before after =
    named Declared before.at (option_map (λ e. e.path) after.last)
names_at (item.Uses way name) before after =
    named Used (last_at before.at name) (slice_get after.found (length before.found))
names_at other before after = []

-- the names at the sites that a walk comes to: it ends behind the token of a fault
unfoldable pub site_names : ℕ → (Key → Option Answer) → List Item → Walk → List NamedSite
site_names turns answers [] w = []
site_names turns answers (site ∷ sites) w =
    if is_over w then []
    else let after = outcome (visited turns site w) answers in
    names_at site w after ++ site_names turns answers sites after

-- the names of a unit that has this tree, in these scopes
abbrev pub tree_names : ℕ → (Key → Option Answer) → List Scope → Tree → List NamedSite
tree_names turns answers scopes tree =
    site_names turns answers (items (unit_parts tree)) (placed_walk scopes tree)

-- those of a unit of tokens: it has none where it is refused before its names are looked at
abbrev pub token_names : ℕ → (Key → Option Answer) → List Token → List Scope → List NamedSite
token_names turns answers tokens scopes =
    elim (unit_tree tokens scopes)
    [ Err fault ↦ [] | Ok tree ↦ tree_names turns answers scopes tree ]

-- those of a unit; a pragma has none
abbrev pub unit_names : ℕ → (Key → Option Answer) → UnitText → List NamedSite
unit_names turns answers (unit.Tokens tokens) =
    token_names turns answers tokens (scopes_in (answers Cursor))
unit_names turns answers (unit.Pragma tokens inside) = []
