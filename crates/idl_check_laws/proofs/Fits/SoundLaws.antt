-- What a unit without fault adds fits the facts before it.
use Rattle.std.proofs.Common.{◌≡◌, ◌∙◌, ℕ, Bool, true, false, List, [], ◌∷◌, ◌++◌, Option, Some, None, flat_map, refl, sym, subst, arith, inl, inr}
use Rattle.idl_check_laws.proofs.Fits.ClosingLaws.{IsFitting, IsSettled, StepFits}
use Rattle.idl_check_laws.proofs.NamedTokens.{token-named}
use Rattle.idl_check_laws.proofs.Fits.OpeningLaws.{AreRest, opening-fits}
use Rattle.idl_check_laws.proofs.Fits.LoneLaws.{ahead-lone, module-lone}
use Rattle.idl_check_laws.proofs.Fits.SettledLaws.{is_nameless}
use Rattle.idl_check_laws.proofs.Fits.WalkedLaws.{sited-fits}
use Rattle.idl_check_laws.proofs.Nests.Scenes.{ArePlaced, IsPlaced, Scene, scene_after}
use Rattle.idl_check_laws.proofs.Nests.UnitNesting.{is_plain, scene, unit-whole}
use Rattle.idl_check_laws.proofs.Fits.WalkingLaws.{AreSited, IsSited}
use Rattle.idl_check.proofs.Visits.WholeLaws.{whole-none}
use Rattle.idl_check.specs.walk.AllFaults.{site_faults}
use Rattle.idl_check.specs.walk.Judging.{IsSound, walked}
use Rattle.idl_check.specs.walk.Placing.{step_of}
use Rattle.idl_check.specs.walk.Verdict.{sound}
use Rattle.idl_check.specs.walk.Walk.{first_walk}
use Rattle.idl_check.specs.declared.walk.verdict.Verdict.{Verdict}
use Rattle.idl_lex.specs.tokens.Tokens.{Token}
use Rattle.idl_lex.specs.declared.kinds.mark.Mark.TheVariants as mark
use Rattle.idl_env.proofs.Membership.{IsIn, IsIn-left, IsIn-right}
use Rattle.idl_env.specs.Facts.{UnitFacts, World, answers, path_around, scopes_in, world}
use Rattle.idl_env.specs.Turns.{turns_for}
use Rattle.idl_env.specs.declared.answering.answer.Scope.{Scope}
use Rattle.idl_env.specs.declared.keys.key.Key.TheVariants.{Cursor}
use Rattle.idl_parts.specs.Item.{item_of, items}
use Rattle.idl_parts.specs.Part.{Part, Parts, Declares, Uses, if_some, punctuation, spell_part, spell_parts}
use Rattle.idl_parts.specs.UnitParts.{bases_parts, unit_parts}
use Rattle.idl_parts.proofs.UnitSpelling.{unit_spells}
use Rattle.idl_parts.specs.declared.part.Declaration.{Declaration}
use Rattle.idl_parts.specs.declared.part.Declaration.TheVariants as declaration
use Rattle.idl_parts.specs.declared.part.Use.TheVariants.{AsBase}
use Rattle.idl_tree.specs.Lexeme.{Lexemes, Identifier, lexemes}
use Rattle.idl_tree.specs.Unit.{spell}
use Rattle.idl_tree.specs.declared.declarations.interface.Forward.{Forward}
use Rattle.idl_tree.specs.declared.declarations.interface.Forward.TheVariants as forward
use Rattle.idl_tree.specs.declared.declarations.interface.Interface.{Interface}
use Rattle.idl_tree.specs.declared.name.ScopedName.{ScopedName}
use Rattle.idl_tree.specs.declared.several.Several.{Several}
use Rattle.idl_tree.specs.declared.unit.Tree.{Tree}
use Rattle.idl_tree.specs.declared.unit.Tree.TheVariants as tree

-- ---- by the grammar

in-lexemes : (tokens : List Token) (name : List ℕ) → IsIn (Identifier name) (lexemes tokens) → is_nameless name ≡ false
in-lexemes [] name i = absurd i
in-lexemes (t ∷ tokens) name (inl same) = token-named t name same
in-lexemes (t ∷ tokens) name (inr i) = in-lexemes tokens name i

in-spelling : (parts : Parts) (way : Declaration) (name : List ℕ) → IsIn (Declares way name) parts → IsIn (Identifier name) (spell_parts parts)
in-spelling [] way name i = absurd i
in-spelling (p ∷ parts) way name (inl same) =
    IsIn-left (Identifier name) (spell_part p) (spell_parts parts) (subst (λ q. IsIn (Identifier name) (spell_part q)) (sym same) (inl refl))
in-spelling (p ∷ parts) way name (inr i) = IsIn-right (Identifier name) (spell_part p) (spell_parts parts) (in-spelling parts way name i)

-- and so no name that a unit declares
pub declared-named : (tokens : List Token) (t : Tree) → lexemes tokens ≡ spell t → (way : Declaration) (name : List ℕ) → IsIn (Declares way name) (unit_parts t) → is_nameless name ≡ false
declared-named tokens t spelled way name i =
    in-lexemes tokens name (subst (IsIn (Identifier name)) (unit_spells t ∙ sym spelled) (in-spelling (unit_parts t) way name i))

abbrev IsNamed : Parts → Type 0
IsNamed parts = (way : Declaration) (name : List ℕ) → IsIn (Declares way name) parts → is_nameless name ≡ false

site-sited : (p : Part Lexemes) (parts : Parts) (s : Scene) → IsNamed (p ∷ parts) → IsPlaced (item_of p) s → IsSited (item_of p) s
site-sited (Part.Declares way name) parts s named h = (h.0, (named way name (inl refl), h.1))
site-sited Part.ScopeEnds parts s named h = h
site-sited (Part.ScopeBegins way n) parts s named h = h
site-sited other parts s named h = tt

parts-sited : (parts : Parts) (s : Scene) → IsNamed parts → ArePlaced (items parts) s → AreSited (items parts) s
parts-sited [] s named h = tt
parts-sited (p ∷ parts) s named h = (site-sited p parts s named h.0, parts-sited parts (scene_after (item_of p) s) (λ way name i. named way name (inr i)) h.1)

-- so the sites of a unit are as they have to be
pub tree-sited : (tokens : List Token) (t : Tree) → lexemes tokens ≡ spell t → is_plain t ≡ true → AreSited (items (unit_parts t)) scene
tree-sited tokens t spelled plain = parts-sited (unit_parts t) scene (declared-named tokens t spelled) ((unit-whole t).placed plain)

rest-append : (xs : List ScopedName) (is_local : Bool) (last : Parts) → AreRest (items last)
    → AreRest (items (flat_map (λ name. punctuation mark.Comma ∷ Uses (AsBase is_local) name ∷ []) xs ++ last))
rest-append [] is_local last h = h
rest-append (x ∷ xs) is_local last h = rest-append xs is_local last h

pub bases-rest : (is_local : Bool) (o : Option (Several ScopedName)) → AreRest (items (if_some (bases_parts is_local) o ++ punctuation mark.OpenBrace ∷ []))
bases-rest is_local None = tt
bases-rest is_local (Some ns) = rest-append ns.rest is_local (punctuation mark.OpenBrace ∷ []) tt

-- ---- units

module _ (front : List UnitFacts) (k : IsSettled (world front)) (tokens : List Token) where
  abbrev around : List Scope
  around = scopes_in (answers front Cursor)

  abbrev Fits : Tree → Type 0
  Fits t =
      lexemes tokens ≡ spell t → site_faults (turns_for front) (answers front) (items (unit_parts t)) (first_walk around) ≡ []
      → IsFitting (world front) (sound tokens around t (walked (turns_for front) (answers front) (items (unit_parts t)) (first_walk around))).writes

  module-fits : (name : List ℕ) → Fits (tree.Module name)
  unfolding unit_parts
  module-fits name spelled none = by_scopes around refl
    where
      by_scopes : (ss : List Scope) → around ≡ ss
          → IsFitting (world front) (sound tokens around (tree.Module name) (walked (turns_for front) (answers front) (items (unit_parts (tree.Module name))) (first_walk around))).writes
      by_scopes [] is = absurd (k.some is)
      by_scopes (s ∷ outer) is =
          module-lone front k (turns_for front) (omega arith) 1 declaration.Module name s outer is (declared-named tokens (tree.Module name) spelled declaration.Module name (inr (inl refl)))
          (record { stays_where = refl; begun = refl; raising = refl; operation = refl; unclosed = λ z. cc; module_there = λ z u. cc }) 1
          (whole-none (turns_for front) (answers front) (items (unit_parts (tree.Module name))) (first_walk around) none) refl

  ahead-fits : (f : Forward) → Fits (tree.Forward f)
  unfolding unit_parts
  ahead-fits (forward.Interface is_local name) spelled none = by_scopes around refl
    where
      by_scopes : (ss : List Scope) → around ≡ ss
          → IsFitting (world front) (sound tokens around (tree.Forward (forward.Interface is_local name)) (walked (turns_for front) (answers front) (items (unit_parts (tree.Forward (forward.Interface is_local name)))) (first_walk around))).writes
      by_scopes [] is = absurd (k.some is)
      by_scopes (s ∷ outer) is =
          ahead-lone front k (turns_for front) (omega arith) _ (declaration.InterfaceAhead is_local) name s outer is
          (declared-named tokens (tree.Forward (forward.Interface is_local name)) spelled (declaration.InterfaceAhead is_local) name (inr (inl refl)))
          (record { stays_where = refl; begun = refl; raising = refl; operation = refl; unclosed = λ z u. cc; module_there = λ z. cc }) 1
          (whole-none (turns_for front) (answers front) (items (unit_parts (tree.Forward (forward.Interface is_local name)))) (first_walk around) none)
  ahead-fits (forward.Structure name) spelled none = by_scopes around refl
    where
      by_scopes : (ss : List Scope) → around ≡ ss
          → IsFitting (world front) (sound tokens around (tree.Forward (forward.Structure name)) (walked (turns_for front) (answers front) (items (unit_parts (tree.Forward (forward.Structure name)))) (first_walk around))).writes
      by_scopes [] is = absurd (k.some is)
      by_scopes (s ∷ outer) is =
          ahead-lone front k (turns_for front) (omega arith) 1 declaration.StructureAhead name s outer is
          (declared-named tokens (tree.Forward (forward.Structure name)) spelled declaration.StructureAhead name (inr (inl refl)))
          (record { stays_where = refl; begun = refl; raising = refl; operation = refl; unclosed = λ z u. cc; module_there = λ z. cc }) 1
          (whole-none (turns_for front) (answers front) (items (unit_parts (tree.Forward (forward.Structure name)))) (first_walk around) none)
  ahead-fits (forward.Union name) spelled none = by_scopes around refl
    where
      by_scopes : (ss : List Scope) → around ≡ ss
          → IsFitting (world front) (sound tokens around (tree.Forward (forward.Union name)) (walked (turns_for front) (answers front) (items (unit_parts (tree.Forward (forward.Union name)))) (first_walk around))).writes
      by_scopes [] is = absurd (k.some is)
      by_scopes (s ∷ outer) is =
          ahead-lone front k (turns_for front) (omega arith) 1 declaration.UnionAhead name s outer is
          (declared-named tokens (tree.Forward (forward.Union name)) spelled declaration.UnionAhead name (inr (inl refl)))
          (record { stays_where = refl; begun = refl; raising = refl; operation = refl; unclosed = λ z u. cc; module_there = λ z. cc }) 1
          (whole-none (turns_for front) (answers front) (items (unit_parts (tree.Forward (forward.Union name)))) (first_walk around) none)

  interface-fits : (i : Interface) → Fits (tree.Interface i)
  unfolding unit_parts
  interface-fits i spelled none = by_scopes around refl
    where
      by_scopes : (ss : List Scope) → around ≡ ss
          → IsFitting (world front) (sound tokens around (tree.Interface i) (walked (turns_for front) (answers front) (items (unit_parts (tree.Interface i))) (first_walk around))).writes
      by_scopes [] is = absurd (k.some is)
      by_scopes (s ∷ outer) is =
          opening-fits front k (turns_for front) (omega arith) _ i.is_local i.name (items (if_some (bases_parts i.is_local) i.bases ++ punctuation mark.OpenBrace ∷ []))
          (bases-rest i.is_local i.bases) (declared-named tokens (tree.Interface i) spelled (declaration.Interface i.is_local) i.name (inr (inl refl))) s outer is
          (whole-none (turns_for front) (answers front) (items (unit_parts (tree.Interface i))) (first_walk around) none)

  plain-fits : (t : Tree) → is_plain t ≡ true → ((u : World) → StepFits u (step_of t (path_around around))) → Fits t
  plain-fits t plain step spelled none = sited-fits front k (turns_for front) (omega arith) tokens t (tree-sited tokens t spelled plain) step none

  tree-fits : (t : Tree) → Fits t
  tree-fits tree.Closing = plain-fits tree.Closing refl (λ u. tt)
  tree-fits (tree.Module name) = module-fits name
  tree-fits (tree.Interface i) = interface-fits i
  tree-fits (tree.Forward f) = ahead-fits f
  tree-fits (tree.Typedef t) = plain-fits (tree.Typedef t) refl (λ u. tt)
  tree-fits (tree.Construction c) = plain-fits (tree.Construction c) refl (λ u. tt)
  tree-fits (tree.Native name) = plain-fits (tree.Native name) refl (λ u. tt)
  tree-fits (tree.Constant c) = plain-fits (tree.Constant c) refl (λ u. tt)
  tree-fits (tree.Exception e) = plain-fits (tree.Exception e) refl (λ u. tt)
  tree-fits (tree.ReadonlyAttribute a) = plain-fits (tree.ReadonlyAttribute a) refl (λ u. tt)
  tree-fits (tree.Attribute a) = plain-fits (tree.Attribute a) refl (λ u. tt)
  tree-fits (tree.Operation o) = plain-fits (tree.Operation o) refl (λ u. tt)
  tree-fits (tree.Typeid t) = plain-fits (tree.Typeid t) refl (λ u. tt)
  tree-fits (tree.Typeprefix t) = plain-fits (tree.Typeprefix t) refl (λ u. tt)

  -- it adds what all its sites come to
  pub sound-fits : (v : Verdict) → IsSound (turns_for front) (answers front) around tokens v → IsFitting (world front) v.writes
  sound-fits v h = subst (λ (u : Verdict). IsFitting (world front) u.writes) (sym h.is) (tree-fits h.tree h.spelled h.named)
