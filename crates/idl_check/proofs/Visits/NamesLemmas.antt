-- The names of a unit, by the steps in which they are found.
use Rattle.std.proofs.Common.{◌≡◌, ℕ, true, false, Bor, slice_get, length, cond, List, [], ◌∷◌, ◌++◌, Option, None, Some, Result, Ok, Err, refl, sym, ap, ◌∙◌}
use Rattle.std.proofs.lemmas.Option.{slice_get_past, slice_get_read}
use Rattle.std.specs.Option.{option_copied}
use Rattle.std.specs.Slice.{IsItemAt}
use Rattle.idl_check.specs.walk.Held.{visited}
use Rattle.idl_check.specs.walk.Names.{names_at, site_names, token_names, tree_names}
use Rattle.idl_check.specs.walk.Verdict.{unit_tree}
use Rattle.idl_check.specs.walk.Walk.{Walk, is_over}
use Rattle.idl_check.specs.declared.walk.names.NamedSite.{NamedSite}
use Rattle.idl_env.specs.declared.answering.answer.Answer.{Answer}
use Rattle.idl_env.specs.declared.answering.answer.Scope.{Scope}
use Rattle.idl_env.specs.declared.keys.key.Key.{Key}
use Rattle.idl_lex.specs.tokens.Tokens.{Token}
use Rattle.idl_memo.specs.Query.{outcome}
use Rattle.idl_parts.specs.Item.{Item}
use Rattle.idl_tree.specs.declared.unit.Tree.{Tree}
use Rattle.idl_unit.specs.declared.fault.Fault.{Fault}

-- what `get` lends
pub copied-get : {X : Type 0} (xs : List X) (i : ℕ) (r : Option (Bor X)) → IsItemAt xs i r → option_copied r ≡ slice_get xs i
copied-get xs i None at = sym (slice_get_past xs i at.3)
copied-get xs i (Some x) at = sym (slice_get_read xs (length xs) i x.now refl at.3.0 at.1)

module _ (turns : ℕ) (bank : Key → Option Answer) where
  -- behind a walk that is over, and behind the last site, is no name
  pub names-over : (sites : List Item) (w : Walk) → is_over w ≡ true → site_names turns bank sites w ≡ []
  unfolding site_names
  names-over [] w h = refl
  names-over (site ∷ sites) w h =
      ap (λ b. cond b [] (names_at site w (outcome (visited turns site w) bank) ++ site_names turns bank sites (outcome (visited turns site w) bank))) h

  pub names-end : (w : Walk) → site_names turns bank [] w ≡ []
  unfolding site_names
  names-end w = refl

  -- the name at a site stands before the others
  pub names-on : (site : Item) (sites : List Item) (w next : Walk) → is_over w ≡ false → next ≡ outcome (visited turns site w) bank
      → names_at site w next ++ site_names turns bank sites next ≡ site_names turns bank (site ∷ sites) w
  unfolding site_names
  names-on site sites w next h gives =
      ap (λ v. names_at site w v ++ site_names turns bank sites v) gives
      ∙ ap (λ b. cond b [] (names_at site w (outcome (visited turns site w) bank) ++ site_names turns bank sites (outcome (visited turns site w) bank))) (sym h)

  module _ (tokens : List Token) (scopes : List Scope) where
    abbrev by_tree : Result Tree Fault → List NamedSite
    by_tree r = elim r [ Err fault ↦ [] | Ok tree ↦ tree_names turns bank scopes tree ]

    -- a unit that the first two steps refuse has none
    pub names-refused : (fault : Fault) → unit_tree tokens scopes ≡ Err fault → token_names turns bank tokens scopes ≡ []
    names-refused fault h = ap by_tree h

    -- those of one with a tree
    pub names-treed : (tree : Tree) → unit_tree tokens scopes ≡ Ok tree → token_names turns bank tokens scopes ≡ tree_names turns bank scopes tree
    names-treed tree h = ap by_tree h
