-- A fault that is told stands at a token of its unit.
use Rattle.std.proofs.Common.{◌≡◌, ◌∙◌, ◌+◌, ◌<◌, ◌≤◌, ℕ, Bool, true, false, cond, List, [], ◌∷◌, ◌++◌, length, map, Option, None, Some, Result, Ok, Err, refl, sym, ap, arith}
use Rattle.std.proofs.lemmas.List.{length-map}
use Rattle.std.proofs.lemmas.List.Elements.{All-append, All-cons, All-nil, All-weaker}
use Rattle.std.specs.Prelude.{◌≢◌, All, nat_le}
use Rattle.idl_check.specs.walk.AllFaults.{or_else}
use Rattle.idl_check.specs.tables.Codes.{codes_in, faults_by}
use Rattle.idl_check.specs.walk.Placing.{opening_faults, place_faults}
use Rattle.idl_check.specs.tables.Rules.{depth, is_misplaced}
use Rattle.idl_check.specs.walk.Verdict.{first_faults, tree_of, verdict}
use Rattle.idl_check.specs.walk.Walk.{first_walk}
use Rattle.idl_fault.specs.declared.code.Code.TheVariants.{MisplacedUnit, NestedTooDeep, NoTree}
use Rattle.idl_lex.specs.kinds.Kind.{kind_of}
use Rattle.idl_lex.specs.tokens.Tokens.{Token}
use Rattle.idl_lex.specs.declared.kinds.keyword.Keyword.TheVariants as word
use Rattle.idl_lex.specs.declared.kinds.kind.TokenKind.{TokenKind}
use Rattle.idl_lex.specs.declared.kinds.mark.Mark.{Mark}
use Rattle.idl_lex.specs.declared.kinds.mark.Mark.TheVariants as mark
use Rattle.idl_memo.specs.Query.{outcome}
use Rattle.idl_env.specs.Facts.{scopes_in}
use Rattle.idl_env.specs.declared.answering.answer.Answer.{Answer}
use Rattle.idl_env.specs.declared.answering.answer.Scope.{Scope}
use Rattle.idl_env.specs.declared.keys.key.Key.{Key}
use Rattle.idl_env.specs.declared.keys.key.Key.TheVariants.{Cursor}
use Rattle.idl_parts.specs.Item.{items, items_length}
use Rattle.idl_parts.specs.ConstructionParts.{construction_parts}
use Rattle.idl_parts.specs.Part.{Parts, Declares, Plain, if_some, keyword_part, punctuation}
use Rattle.idl_parts.specs.UnitParts.{attribute_parts, bases_parts, constant_parts, exception_parts, forward_parts, native_parts, operation_parts, readonly_attribute_parts, typedef_parts, typeid_parts, typeprefix_parts, unit_parts}
use Rattle.idl_parts.specs.declared.part.Declaration.TheVariants as declaration
use Rattle.idl_parts.proofs.UnitSpelling.{counted, unit_spells}
use Rattle.idl_tree.specs.Interface.{spell_local}
use Rattle.idl_tree.specs.Lexeme.{Word, lexeme_of, lexemes}
use Rattle.idl_tree.specs.Unit.{spell}
use Rattle.idl_tree.specs.declared.unit.Tree.{Tree}
use Rattle.idl_tree.specs.declared.unit.Tree.TheVariants as tree
use Rattle.idl_unit.specs.Ending.{opens, role, rule_of}
use Rattle.idl_unit.specs.Scoping.{brace_by, brace_from, opening_brace}
use Rattle.idl_unit.specs.TokenRules.{fault_at, faults_after, token_codes, token_faults}
use Rattle.idl_unit.specs.declared.fault.Fault.{Fault}
use Rattle.idl_unit.specs.declared.role.Rule.{Rule}
use Rattle.idl_unit.specs.declared.role.Rule.TheVariants.{Closing, Heading, Declaration}
use Rattle.idl_unit.specs.declared.unit.UnitText.TheVariants as unit
use Rattle.idl_check.proofs.Faults.FaultOrder.{all-at, least-in}
use Rattle.idl_check.proofs.Visits.SiteLaws.{EndsInTokens, faults-till}
use Rattle.idl_check.proofs.Visits.VerdictLaws.{least-tokens, tree-spelled, tree-stops}
use Rattle.idl_check.proofs.IdlParse.Stops.{stops-within}
use Rattle.idl_check.proofs.Faults.VisitFaults.{visit_faults, visit_further_faults, visit_name_faults, visit_unit_faults}

-- ---- a unit ends in a token

some-behind : (front back : Parts) → 1 ≤ items_length (items back) → 1 ≤ items_length (items (front ++ back))
some-behind [] back some = some
some-behind (p ∷ front) back some = omega (arith, some-behind front back some)

parts-end : (front back : Parts) → 1 ≤ items_length (items back) → EndsInTokens (items back) → EndsInTokens (items (front ++ back))
parts-end [] back some ends = ends
parts-end (p ∷ front) back some ends = (omega (arith, some-behind front back some), parts-end front back some ends)

-- in a mark
mark-ends : (front : Parts) (m : Mark) → EndsInTokens (items (front ++ punctuation m ∷ []))
mark-ends front m = parts-end front (punctuation m ∷ []) (omega arith) (omega arith, tt)

unit-ends : (t : Tree) → EndsInTokens (items (unit_parts t))
unfolding unit_parts
unit-ends tree.Closing = (omega arith, tt)
unit-ends (tree.Module name) = mark-ends (keyword_part word.Module ∷ Declares declaration.Module name ∷ []) mark.OpenBrace
unit-ends (tree.Interface i) =
    mark-ends (Plain (spell_local i.is_local ++ Word word.Interface ∷ []) ∷ Declares (declaration.Interface i.is_local) i.name ∷ if_some (bases_parts i.is_local) i.bases) mark.OpenBrace
unit-ends (tree.Forward f) = mark-ends (forward_parts f) mark.Semicolon
unit-ends (tree.Typedef t) = mark-ends (typedef_parts t) mark.Semicolon
unit-ends (tree.Construction c) = mark-ends (construction_parts c) mark.Semicolon
unit-ends (tree.Native name) = mark-ends (native_parts name) mark.Semicolon
unit-ends (tree.Constant c) = mark-ends (constant_parts c) mark.Semicolon
unit-ends (tree.Exception e) = mark-ends (exception_parts e) mark.Semicolon
unit-ends (tree.ReadonlyAttribute a) = mark-ends (readonly_attribute_parts a) mark.Semicolon
unit-ends (tree.Attribute a) = mark-ends (attribute_parts a) mark.Semicolon
unit-ends (tree.Operation o) = mark-ends (operation_parts o) mark.Semicolon
unit-ends (tree.Typeid t) = mark-ends (typeid_parts t) mark.Semicolon
unit-ends (tree.Typeprefix t) = mark-ends (typeprefix_parts t) mark.Semicolon

-- ---- the faults of the steps

after-inside : (before kinds : List TokenKind) → All (λ f. f.index < length before + length kinds) (faults_after before kinds)
after-inside before [] = All-nil (λ f. f.index < length before + 0)
after-inside before (kind ∷ kinds) =
    let n = length before + length (kind ∷ kinds) in
    All-append (λ f. f.index < n) (map (fault_at (length before)) (token_codes before kind)) (faults_after (kind ∷ before) kinds)
    (all-at (λ f. f.index < n) (length before) (λ c. omega arith) (token_codes before kind))
    (All-weaker (λ f. f.index < length (kind ∷ before) + length kinds) (λ f. f.index < n) (λ f h. omega (arith, h)) (faults_after (kind ∷ before) kinds) (after-inside (kind ∷ before) kinds))

-- the brace of an opening is one of its tokens
brace-if : (b : Bool) (n m bound : ℕ) (o : Option ℕ) → n < bound → (o ≡ Some m → m < bound) → cond b (Some n) o ≡ Some m → m < bound
brace-if true n m bound o lt more h = let same : n ≡ m = cc in omega arith
brace-if false n m bound o lt more h = more h

brace-from : (n : ℕ) (tokens : List Token) (m : ℕ) → brace_from n tokens ≡ Some m → m < n + length tokens
brace-from n [] m h = cc
brace-from n (t ∷ ts) m h =
    brace-if (opens (role t)) n m (n + length (t ∷ ts)) (brace_from (n + 1) ts) (omega arith) (λ g. omega (arith, brace-from (n + 1) ts m g)) h

brace-within : (rule : Rule) (tokens : List Token) (m : ℕ) → brace_by rule tokens ≡ Some m → m < length tokens
brace-within Heading tokens m h = omega (arith, brace-from 0 tokens m h)
brace-within Closing tokens m h = cc
brace-within Declaration tokens m h = cc

module _ (turns : ℕ) (answers : Key → Option Answer) (tokens : List Token) (some : 0 < length tokens) where
  abbrev Inside : Fault → Type 0
  Inside f = f.index < length tokens

  rules-inside : All Inside (token_faults tokens)
  rules-inside =
      All-weaker (λ f. f.index < 0 + length (map kind_of tokens)) Inside (λ f h. omega (arith, h, length-map tokens kind_of)) (token_faults tokens) (after-inside [] (map kind_of tokens))

  opening-by : (scopes : List Scope) (o : Option ℕ) → ((n : ℕ) → o ≡ Some n → n < length tokens) → All Inside (elim o [ None ↦ [] | Some n ↦ faults_by n ((nat_le 64 (depth scopes), NestedTooDeep) ∷ []) ])
  opening-by scopes None within = All-nil Inside
  opening-by scopes (Some n) within = all-at Inside n (λ c. within n refl) (codes_in ((nat_le 64 (depth scopes), NestedTooDeep) ∷ []))

  first-inside : (scopes : List Scope) → All Inside (first_faults tokens scopes)
  first-inside scopes = All-append Inside (token_faults tokens) (opening_faults tokens scopes) rules-inside (opening-by scopes (opening_brace tokens) (brace-within (rule_of tokens) tokens))

  -- those of the sites: the sites have as many tokens as the unit
  sites-inside : (scopes : List Scope) (tree : Tree) → lexemes tokens ≡ spell tree → All Inside (visit_faults turns answers (items (unit_parts tree)) (first_walk scopes))
  sites-inside scopes tree spelled =
      let count : items_length (items (unit_parts tree)) ≡ length tokens = counted (unit_parts tree) ∙ ap length (unit_spells tree) ∙ sym (ap length spelled) ∙ length-map tokens lexeme_of in
      All-weaker (λ f. f.index < 0 + items_length (items (unit_parts tree))) Inside (λ f h. omega (arith, h, count))
      (visit_faults turns answers (items (unit_parts tree)) (first_walk scopes)) (faults-till turns answers (items (unit_parts tree)) (first_walk scopes) (unit-ends tree))

  further-by : (scopes : List Scope) (r : Result Tree ℕ) → tree_of tokens ≡ r → All Inside (elim r [ Err place ↦ fault_at place NoTree ∷ [] | Ok tree ↦ visit_name_faults turns answers scopes tree ])
  further-by scopes (Err place) h = All-cons Inside (fault_at place NoTree) [] (stops-within tokens place some (tree-stops tokens place h)) (All-nil Inside)
  further-by scopes (Ok tree) h =
      All-append Inside (place_faults tree scopes) (visit_faults turns answers (items (unit_parts tree)) (first_walk scopes))
      (all-at Inside 0 (λ c. some) (codes_in ((is_misplaced tree scopes, MisplacedUnit) ∷ []))) (sites-inside scopes tree (tree-spelled tokens tree h))

  else-inside : (fs more : List Fault) → All Inside fs → All Inside more → All Inside (or_else turns answers fs more)
  else-inside [] more here there = there
  else-inside (f ∷ fs) more here there = here

  unit-inside : All Inside (visit_unit_faults turns answers (unit.Tokens tokens))
  unit-inside =
      let scopes = scopes_in (answers Cursor) in
      else-inside (first_faults tokens scopes) (visit_further_faults turns answers tokens scopes) (first-inside scopes) (further-by scopes (tree_of tokens) refl)

  told-inside : (f : Fault) → (outcome (verdict turns (unit.Tokens tokens)) answers).fault ≡ Some f → f.index < length tokens
  told-inside f h = least-in Inside (visit_unit_faults turns answers (unit.Tokens tokens)) f unit-inside (sym (least-tokens turns answers tokens) ∙ h)

not-empty : (tokens : List Token) → tokens ≢ [] → 0 < length tokens
not-empty [] some = absurd (some refl)
not-empty (t ∷ ts) some = omega arith

pub told-within : (turns : ℕ) (tokens : List Token) (answers : Key → Option Answer) (f : Fault) → tokens ≢ [] → (outcome (verdict turns (unit.Tokens tokens)) answers).fault ≡ Some f → f.index < length tokens
told-within turns tokens answers f some h = told-inside turns answers tokens (not-empty tokens some) f h
