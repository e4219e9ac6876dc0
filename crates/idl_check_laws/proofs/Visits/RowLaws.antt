-- What a row has for its words: a path for each used name, and a blank before the first.
use Rattle.std.proofs.Common.{◌≡◌, ◌∙◌, ◌+◌, ℕ, suc, Bool, true, false, cond, List, [], ◌∷◌, ◌++◌, drop, flat_map, length, take, Option, None, Some, Result, Ok, Err, refl, sym, ap, subst, add_assoc, append_assoc, arith}
use Rattle.std.proofs.lemmas.List.{length-append}
use Rattle.std.proofs.lemmas.Option.{same_Some}
use Rattle.std.proofs.lemmas.Slice.Eq.{bytes_eq-Decides}
use Rattle.std.specs.Prelude.{◌||◌, codes, is_some}
use Rattle.std.specs.Str.{bytes_eq}
use Rattle.idl_check.specs.tables.Declaring.{entity_of, standing}
use Rattle.idl_check.specs.walk.Judging.{used_name, used_names, walked}
use Rattle.idl_check.specs.idl_dump.Row.{Rest, spaced, token_text, unit_text}
use Rattle.idl_check.specs.told.Types.{looked_through}
use Rattle.idl_check.specs.walk.Walk.{turns_at, Visit, Walk, declared_visit, outcome_at, unfound_visit, used, used_visit, value_visit, visit, plain_name, spoken_of, spoken_visit}
use Rattle.idl_lex.specs.kinds.Kind.{kind_of}
use Rattle.idl_lex.specs.kinds.Marks.{marks}
use Rattle.idl_lex.specs.tokens.Tokens.{Token}
use Rattle.idl_lex.specs.declared.kinds.keyword.Keyword.TheVariants as word
use Rattle.idl_lex.specs.declared.kinds.mark.Mark.TheVariants as mark
use Rattle.idl_memo.specs.Query.{Done, outcome}
use Rattle.idl_memo.proofs.QueryLaws.{outcome-and_then}
use Rattle.idl_entity.specs.Kind.{kind_eq}
use Rattle.idl_scope.specs.Lookup.{denoted, under, Lookup}
use Rattle.idl_env.specs.declared.answering.answer.Answer.{Answer}
use Rattle.idl_env.specs.declared.answering.answer.Scope.{Scope}
use Rattle.idl_scope.specs.declared.fault.NameFault.{NameFault}
use Rattle.idl_scope.specs.declared.fault.NameFault.TheVariants.{At, Memory}
use Rattle.idl_scope.specs.declared.found.Found.{Found}
use Rattle.idl_env.specs.declared.keys.key.Key.{Key}
use Rattle.idl_entity.specs.declared.kind.Kind.TheVariants.{Union as UnionKind}
use Rattle.idl_parts.specs.Item.{Item, items}
use Rattle.idl_parts.specs.ConstructionParts.{case_step, construction_parts, construction_step, member_step, member_type_step, structure_step, union_step}
use Rattle.idl_parts.specs.Part.{Part, Parts, if_some, listed, punctuation, spell_parts, Part as item}
use Rattle.idl_parts.specs.TypeParts.{bound_parts, data_type_step, plain_parts, sequence_step, type_parts, type_parts_as}
use Rattle.idl_parts.specs.UnitParts.{bases_parts, context_parts, oneway_parts, operation_parts, parameter_parts, raises_parts, result_parts, unit_parts}
use Rattle.idl_parts.proofs.UnitSpelling.{unit_spells}
use Rattle.idl_parts.specs.declared.part.Declaration.{Declaration}
use Rattle.idl_parts.specs.declared.part.Declaration.TheVariants as declaration
use Rattle.idl_parts.specs.declared.part.Shape.TheVariants.{Basic, Text}
use Rattle.idl_parts.specs.declared.part.Purpose.{Purpose}
use Rattle.idl_parts.specs.declared.part.Purpose.TheVariants as purpose
use Rattle.idl_parts.specs.declared.part.Use.{Use}
use Rattle.idl_parts.specs.declared.part.Use.TheVariants.{AsType}
use Rattle.idl_tree.specs.Construction.{spell_construction}
use Rattle.idl_tree.specs.DataType.{spell_basic, spell_discrete, spell_sign, spell_size, spell_string_word, spell_type}
use Rattle.idl_tree.specs.Interface.{spell_bases, spell_context, spell_local, spell_oneway, spell_parameter, spell_raises, spell_result}
use Rattle.idl_tree.specs.Lexeme.{Lexeme, Lexemes, Identifier, Word, Punctuation, lexeme_of, lexemes}
use Rattle.idl_tree.specs.reading.ReadConstruction.{begins_construction}
use Rattle.idl_tree.specs.reading.Reading.{first}
use Rattle.idl_tree.specs.Several.{spell_if, spell_listed}
use Rattle.idl_tree.specs.Unit.{ended, spell}
use Rattle.idl_tree.specs.declared.declarations.construction.Case.{Case}
use Rattle.idl_tree.specs.declared.declarations.construction.Construction.{Construction, out-Construction}
use Rattle.idl_tree.specs.declared.declarations.construction.Construction.TheFolds.{fold-Case, fold-Construction, fold-Member, fold-MemberType, fold-Structure, fold-Union, fold_out-Construction, fold_out-Structure, fold_out-Union, map-Construction}
use Rattle.idl_tree.specs.declared.declarations.construction.Construction.TheOpen.{Construction-F}
use Rattle.idl_tree.specs.declared.declarations.construction.Member.{Member}
use Rattle.idl_tree.specs.declared.declarations.construction.MemberType.{MemberType}
use Rattle.idl_tree.specs.declared.declarations.construction.Structure.{Structure}
use Rattle.idl_tree.specs.declared.declarations.construction.Union.{Union}
use Rattle.idl_tree.specs.declared.declarations.data_type.BasicType.{BasicType}
use Rattle.idl_tree.specs.declared.declarations.data_type.BasicType.TheVariants as basic
use Rattle.idl_tree.specs.declared.declarations.data_type.TypeTree.{TypeTree, fold-TypeTree, map-TypeTree, out-TypeTree}
use Rattle.idl_tree.specs.declared.declarations.data_type.TypeTree.TheFolds.{fold-Sequence, fold_out-TypeTree, fold_out-Sequence}
use Rattle.idl_tree.specs.declared.declarations.data_type.TypeTree.TheOpen.{TypeTree-F}
use Rattle.idl_tree.specs.declared.declarations.data_type.DiscreteType.{DiscreteType}
use Rattle.idl_tree.specs.declared.declarations.data_type.DiscreteType.TheVariants as discrete
use Rattle.idl_tree.specs.declared.declarations.data_type.IntegerSize.{IntegerSize}
use Rattle.idl_tree.specs.declared.declarations.data_type.IntegerSize.TheVariants.{Short, Long, LongLong}
use Rattle.idl_tree.specs.declared.declarations.data_type.PlainType.{PlainType}
use Rattle.idl_tree.specs.declared.declarations.data_type.PlainType.TheVariants as plain
use Rattle.idl_tree.specs.declared.declarations.data_type.Sequence.{Sequence}
use Rattle.idl_tree.specs.declared.declarations.interface.Forward.TheVariants as forward
use Rattle.idl_tree.specs.declared.name.ScopedName.{ScopedName}
use Rattle.idl_tree.specs.declared.declarations.operation.Operation.{Operation}
use Rattle.idl_tree.specs.declared.unit.Tree.{Tree}
use Rattle.idl_tree.specs.declared.unit.Tree.TheVariants as tree
use Rattle.idl_tree.proofs.ReadAgain.ConstructionAgain.{construction_is_again}
use Rattle.idl_tree.proofs.ReadAgain.TypeAgain.{is_type_start, type_is_again}
use Rattle.idl_unit.specs.TokenRules.{first as first_of}
use Rattle.idl_value.specs.declared.outcome.Outcome.{Outcome}
use Rattle.idl_value.specs.declared.outcome.Outcome.TheVariants as comes
use Rattle.idl_value.specs.declared.value.Value.{Value}
use Rattle.idl_check.proofs.PartLemmas.{IsUpTo}
use Rattle.idl_check.proofs.Visits.SiteLaws.{declared_by, denoted-up, end_visit, union_visit, used_by, visited, spoken_by}
use Rattle.idl_check.proofs.Visits.WalkLaws.{none-append}
use Rattle.idl_check.proofs.Faults.VisitFaults.{visit_faults}
use Rattle.idl_parts.specs.declared.part.TextPurpose.{TextPurpose}
use Rattle.idl_check.specs.ids.Remarks.{purpose_of, remark}
use Rattle.idl_tree.specs.NameParts.{last_at}

-- ---- a path for each used name

none-more : (n : ℕ) → n ≡ n + 0
none-more n = omega arith

pub unfound-faulty : (n : ℕ) (w : Walk) (way : Use) (name : ScopedName) (fault : NameFault) → IsUpTo {A = Found} n (Err fault) → (unfound_visit w way name fault).faults ≡ [] → ⊥
unfound-faulty n w way name (At why part) up h = cc
unfound-faulty n w way name Memory up h = up

pub valued-found : (w : Walk) (way : Purpose) (o : Outcome) → (value_visit w way o).after.found ≡ w.found
valued-found w purpose.Bound (comes.Value v) = refl
valued-found w purpose.Constant (comes.Value v) = refl
valued-found w purpose.Length (comes.Value v) = refl
valued-found w purpose.Label (comes.Value v) = refl
valued-found w way (comes.Fault f) = refl
valued-found w way comes.Told = refl

union-found : (w : Walk) (b : Bool) → (union_visit w b).after.found ≡ w.found
union-found w true = refl
union-found w false = refl

pub end-found : (w : Walk) (o : Option Scope) → (end_visit w o).after.found ≡ w.found
end-found w None = refl
end-found w (Some s) = union-found w (kind_eq s.kind UnionKind)

module _ (turns : ℕ) (answers : Key → Option Answer) where
  pub declared-found : (way : Declaration) (name : List ℕ) (w : Walk) (o : Option Scope) → (outcome (declared_by turns answers way name w o) answers).after.found ≡ w.found
  declared-found way name w None = refl
  declared-found way name w (Some s) =
      ap (λ (v : Visit). v.after.found)
      (outcome-and_then (under w.own (standing (turns_at turns w) s (entity_of w.written way name s.path))) (λ there. Done (declared_visit w way s (entity_of w.written way name s.path) there)) answers)

  -- after a used name a path more is found, where nothing is wrong with it
  abbrev FindsOne : Walk → Visit → Type 0
  FindsOne w v = v.faults ≡ [] → length v.after.found ≡ length w.found + 1

  used-by-found : (way : Use) (name : ScopedName) (w : Walk) (r : Result Found NameFault) → IsUpTo (length name.rest) r → FindsOne w (outcome (used_by turns answers way name w r) answers)
  used-by-found way name w (Ok found) up h =
      ap (λ (v : Visit). length v.after.found)
      (outcome-and_then (under w.own (looked_through (turns_at turns w) way found.entity)) (λ behind. Done (used_visit w way name found behind)) answers)
      ∙ length-append w.found (found.entity.path ∷ [])
  used-by-found way name w (Err fault) up h = absurd (unfound-faulty (length name.rest) w way name fault up h)

  plain-found : (way : Use) (name : ScopedName) (w : Walk) → FindsOne w (outcome (used turns way name w) answers)
  unfolding used
  plain-found way name w =
      let query = under w.own (denoted (turns_at turns w) w.cursor name) in
      subst (FindsOne w) (sym (outcome-and_then query (used_by turns answers way name w) answers))
      (used-by-found way name w (outcome query answers) (denoted-up turns answers name w))

  spoken-by-found : (p : TextPurpose) (name : ScopedName) (w : Walk) (r : Result Found NameFault) → IsUpTo (length name.rest) r → FindsOne w (outcome (spoken_by turns answers p name w r) answers)
  spoken-by-found p name w (Ok found) up h =
      ap (λ (v : Visit). length v.after.found)
      (outcome-and_then (under w.own (remark p (last_at w.at name) w.text found.entity)) (λ s. Done (spoken_visit w name found s)) answers)
      ∙ length-append w.found (found.entity.path ∷ [])
  spoken-by-found p name w (Err (At why part)) up h = cc
  spoken-by-found p name w (Err Memory) up h = absurd up

  spoken-found : (p : TextPurpose) (name : ScopedName) (w : Walk) → FindsOne w (outcome (spoken_of turns p name w) answers)
  unfolding spoken_of
  spoken-found p name w =
      let query = under w.own (denoted (turns_at turns w) w.cursor name) in
      subst (FindsOne w) (sym (outcome-and_then query (spoken_by turns answers p name w) answers))
      (spoken-by-found p name w (outcome query answers) (denoted-up turns answers name w))

  any-found : (way : Use) (name : ScopedName) (w : Walk) → FindsOne w (outcome (plain_name turns way name w) answers)
  any-found way name w = by_purpose (purpose_of way)
    where
      by_purpose : (o : Option TextPurpose) → FindsOne w (outcome (elim o as (λ _. Lookup Visit) [ None ↦ used turns way name w | Some p ↦ spoken_of turns p name w ]) answers)
      by_purpose (Some p) = spoken-found p name w
      by_purpose None = plain-found way name w

  -- the path that is found at a used name, where that denotes something
  plain-path : (way : Use) (name : ScopedName) (w : Walk) (found : Found) → outcome (under w.own (denoted (turns_at turns w) w.cursor name)) answers ≡ Ok found
      → (outcome (used turns way name w) answers).after.found ≡ w.found ++ found.entity.path ∷ []
  unfolding used
  plain-path way name w found is =
      ap (λ (v : Visit). v.after.found) (outcome-and_then (under w.own (denoted (turns_at turns w) w.cursor name)) (used_by turns answers way name w) answers)
      ∙ ap (λ r. (outcome (used_by turns answers way name w r) answers).after.found) is
      ∙ ap (λ (v : Visit). v.after.found) (outcome-and_then (under w.own (looked_through (turns_at turns w) way found.entity)) (λ behind. Done (used_visit w way name found behind)) answers)

  spoken-path : (p : TextPurpose) (name : ScopedName) (w : Walk) (found : Found) → outcome (under w.own (denoted (turns_at turns w) w.cursor name)) answers ≡ Ok found
      → (outcome (spoken_of turns p name w) answers).after.found ≡ w.found ++ found.entity.path ∷ []
  unfolding spoken_of
  spoken-path p name w found is =
      ap (λ (v : Visit). v.after.found) (outcome-and_then (under w.own (denoted (turns_at turns w) w.cursor name)) (spoken_by turns answers p name w) answers)
      ∙ ap (λ r. (outcome (spoken_by turns answers p name w r) answers).after.found) is
      ∙ ap (λ (v : Visit). v.after.found) (outcome-and_then (under w.own (remark p (last_at w.at name) w.text found.entity)) (λ s. Done (spoken_visit w name found s)) answers)

  any-path : (way : Use) (name : ScopedName) (w : Walk) (found : Found) → outcome (under w.own (denoted (turns_at turns w) w.cursor name)) answers ≡ Ok found
      → (outcome (plain_name turns way name w) answers).after.found ≡ w.found ++ found.entity.path ∷ []
  any-path way name w found is = by_purpose (purpose_of way)
    where
      by_purpose : (o : Option TextPurpose) → (outcome (elim o as (λ _. Lookup Visit) [ None ↦ used turns way name w | Some p ↦ spoken_of turns p name w ]) answers).after.found ≡ w.found ++ found.entity.path ∷ []
      by_purpose (Some p) = spoken-path p name w found is
      by_purpose None = plain-path way name w found is

  pub used-path : (way : Use) (name : ScopedName) (w : Walk) (found : Found) → outcome (under w.own (denoted (turns_at turns w) w.cursor name)) answers ≡ Ok found
      → (visited turns answers (item.Uses way name) w).after.found ≡ w.found ++ found.entity.path ∷ []
  unfolding visit
  used-path way name w found is = any-path way name w found is

  visit-found : (site : Item) (w : Walk) → (visited turns answers site w).faults ≡ []
      → length (visited turns answers site w).after.found ≡ length w.found + length (used_name site)
  unfolding visit
  visit-found (item.Declares way name) w h = ap length (declared-found way name w (first_of w.cursor)) ∙ none-more (length w.found)
  visit-found (item.Uses way name) w h = any-found way name w h
  visit-found (item.ValueEnds way e) w h = ap length (valued-found w way (outcome_at w way e)) ∙ none-more (length w.found)
  visit-found item.ScopeEnds w h = ap length (end-found w (first_of w.cursor)) ∙ none-more (length w.found)
  visit-found other w h = none-more (length w.found)

  pub walked-found : (sites : List Item) (w : Walk) → visit_faults turns answers sites w ≡ [] → length (walked turns answers sites w).found ≡ length w.found + length (used_names sites)
  walked-found [] w h = none-more (length w.found)
  walked-found (site ∷ sites) w h =
      let v = visited turns answers site w in
      let parts = none-append v.faults (visit_faults turns answers sites v.after) h in
      walked-found sites v.after parts.1
      ∙ ap (λ n. n + length (used_names sites)) (visit-found site w parts.0)
      ∙ add_assoc (length w.found) (length (used_name site)) (length (used_names sites))
      ∙ ap (λ n. length w.found + n) (sym (length-append (used_name site) (used_names sites)))

-- ---- a blank before the first word

-- what no blank stands before
abbrev separates : Lexeme → Bool
separates (Punctuation mark.Semicolon) = true
separates (Punctuation mark.Comma) = true
separates _ = false

separator : (m : Token) → separates (lexeme_of m) ≡ true → (t : Token) → separates (lexeme_of t) ≡ false → (b : Bool) → bytes_eq t m ≡ b → b ≡ false
separator m one t other false h = refl
separator m one t other true h = let same : t ≡ m = (bytes_eq-Decides t m).0 h in sym one ∙ ap (λ x. separates (lexeme_of x)) (sym same) ∙ other

token-spaced : (t : Token) → separates (lexeme_of t) ≡ false → token_text t ≡ spaced t
unfolding kind_of lexeme_of marks
token-spaced t other =
    ap (λ b. cond (b || bytes_eq t (codes ",")) t (spaced t)) (separator (codes ";") refl t other (bytes_eq t (codes ";")) refl)
    ∙ ap (λ b. cond b t (spaced t)) (separator (codes ",") refl t other (bytes_eq t (codes ",")) refl)

-- that there is such a first lexeme, and that it begins a word
abbrev BeginsWord : Option Lexeme → Type 0
BeginsWord None = ⊥
BeginsWord (Some x) = separates x ≡ false

type-word : (o : Option Lexeme) → is_type_start o ≡ true → BeginsWord o
type-word None h = cc
type-word (Some (Punctuation mark.Semicolon)) h = cc
type-word (Some (Punctuation mark.Comma)) h = cc
type-word (Some _) h = refl

construction-word : (o : Option Lexeme) → begins_construction o ≡ true → BeginsWord o
construction-word None h = cc
construction-word (Some (Punctuation mark.Semicolon)) h = cc
construction-word (Some (Punctuation mark.Comma)) h = cc
construction-word (Some _) h = refl

local-word : (is_local : Bool) (rest : Lexemes) → BeginsWord (first (spell_local is_local ++ (Word word.Interface ∷ rest)))
local-word true rest = refl
local-word false rest = refl

operation-word : (is_oneway : Bool) (result : Option TypeTree) (rest more : Lexemes) → BeginsWord (first ((spell_oneway is_oneway ++ (spell_result result ++ rest)) ++ more))
operation-word true result rest more = refl
operation-word false None rest more = refl
operation-word false (Some t) rest more =
    subst (λ w. BeginsWord (first w)) (sym (append_assoc (spell_type t) rest more))
    (type-word (first (spell_type t ++ (rest ++ more))) ((type_is_again t).starts (rest ++ more)))

tree-word : (t : Tree) → BeginsWord (first (spell t))
unfolding spell
tree-word tree.Closing = refl
tree-word (tree.Module name) = refl
tree-word (tree.Interface i) = local-word i.is_local (Identifier i.name ∷ (spell_bases i.bases ++ Punctuation mark.OpenBrace ∷ []))
tree-word (tree.Forward (forward.Interface true name)) = refl
tree-word (tree.Forward (forward.Interface false name)) = refl
tree-word (tree.Forward (forward.Structure name)) = refl
tree-word (tree.Forward (forward.Union name)) = refl
tree-word (tree.Typedef t) = refl
tree-word (tree.Construction c) = construction-word (first (ended (spell_construction c))) ((construction_is_again c).starts (Punctuation mark.Semicolon ∷ []))
tree-word (tree.Native name) = refl
tree-word (tree.Constant c) = refl
tree-word (tree.Exception e) = refl
tree-word (tree.ReadonlyAttribute a) = refl
tree-word (tree.Attribute a) = refl
tree-word (tree.Typeid t) = refl
tree-word (tree.Typeprefix t) = refl
tree-word (tree.Operation o) =
    operation-word o.is_oneway o.result
    (Identifier o.name ∷ Punctuation mark.OpenParenthesis
    ∷ (spell_if (spell_listed spell_parameter) o.parameters ++ (Punctuation mark.CloseParenthesis ∷ (spell_if spell_raises o.raises ++ spell_if spell_context o.context))))
    (Punctuation mark.Semicolon ∷ [])

-- ---- a unit begins with no expression

-- there is a first part, which has tokens
abbrev StartsOutside : Parts → Type 0
StartsOutside (Part.Plain (x ∷ xs) ∷ parts) = Unit {0}
StartsOutside (Part.Uses way name ∷ parts) = Unit {0}
StartsOutside _ = ⊥

outside-then : (parts more : Parts) → StartsOutside parts → StartsOutside (parts ++ more)
outside-then (Part.Plain (x ∷ xs) ∷ parts) more h = tt
outside-then (Part.Uses way name ∷ parts) more h = tt
outside-then _ more h = absurd h

local-outside : (is_local : Bool) (rest : Lexemes) (more : Parts) → StartsOutside (Part.Plain (spell_local is_local ++ (Word word.Interface ∷ rest)) ∷ more)
local-outside true rest more = tt
local-outside false rest more = tt

size-outside : (is_unsigned : Bool) (size : IntegerSize) (more : Parts) → StartsOutside (Part.Plain (spell_sign is_unsigned ++ spell_size size) ∷ more)
size-outside true size more = tt
size-outside false Short more = tt
size-outside false Long more = tt
size-outside false LongLong more = tt

discrete-outside : (d : DiscreteType) (more : Parts) → StartsOutside (Part.Plain (spell_discrete d) ∷ more)
discrete-outside (discrete.Integer i) more = size-outside i.is_unsigned i.size more
discrete-outside other more = tt

basic-outside : (b : BasicType) (more : Parts) → StartsOutside (Part.Plain (spell_basic b) ∷ more)
basic-outside (basic.Discrete d) more = discrete-outside d more
basic-outside other more = tt

string-outside : (is_wide : Bool) (more : Parts) → StartsOutside (Part.Plain (spell_string_word is_wide) ∷ more)
string-outside true more = tt
string-outside false more = tt

plain-outside : (p : PlainType) (way : Use) → StartsOutside (plain_parts p way)
plain-outside (plain.Basic b) way = basic-outside b (Part.TypeEnds (Basic b) ∷ [])
plain-outside (plain.String s) way = string-outside s.is_wide (bound_parts s.bound ++ Part.TypeEnds (Text s.is_wide (is_some s.bound)) ∷ [])
plain-outside (plain.Name n) way = tt

-- a type, as it is opened once
type-by : (y : TypeTree-F TypeTree Sequence) (way : Use)
    → StartsOutside (data_type_step (map-TypeTree TypeTree Sequence (Use → Parts) (Use → Parts)
    (fold-TypeTree (Use → Parts) (Use → Parts) data_type_step sequence_step) (fold-Sequence (Use → Parts) (Use → Parts) data_type_step sequence_step) y) way)
type-by (TypeTree-F.Plain p) way = plain-outside p way
type-by (TypeTree-F.Sequence s) way =
    subst (λ (f : Use → Parts). StartsOutside (f way)) (sym (fold_out-Sequence (Use → Parts) (Use → Parts) data_type_step sequence_step s)) tt

type-outside : (t : TypeTree) (way : Use) → StartsOutside (type_parts_as t way)
unfolding type_parts_as
type-outside t way =
    subst (λ (f : Use → Parts). StartsOutside (f way)) (sym (fold_out-TypeTree (Use → Parts) (Use → Parts) data_type_step sequence_step t)) (type-by (out-TypeTree t) way)

construction-by : (y : Construction-F Construction MemberType Case Member Structure Union)
    → StartsOutside (construction_step (map-Construction Construction MemberType Case Member Structure Union Parts Parts Parts Parts Parts Parts
    (fold-Construction Parts Parts Parts Parts Parts Parts construction_step member_type_step case_step member_step structure_step union_step)
    (fold-MemberType Parts Parts Parts Parts Parts Parts construction_step member_type_step case_step member_step structure_step union_step)
    (fold-Case Parts Parts Parts Parts Parts Parts construction_step member_type_step case_step member_step structure_step union_step)
    (fold-Member Parts Parts Parts Parts Parts Parts construction_step member_type_step case_step member_step structure_step union_step)
    (fold-Structure Parts Parts Parts Parts Parts Parts construction_step member_type_step case_step member_step structure_step union_step)
    (fold-Union Parts Parts Parts Parts Parts Parts construction_step member_type_step case_step member_step structure_step union_step) y))
construction-by (Construction-F.Structure s) =
    subst StartsOutside (sym (fold_out-Structure Parts Parts Parts Parts Parts Parts construction_step member_type_step case_step member_step structure_step union_step s)) tt
construction-by (Construction-F.Union u) =
    subst StartsOutside (sym (fold_out-Union Parts Parts Parts Parts Parts Parts construction_step member_type_step case_step member_step structure_step union_step u)) tt
construction-by (Construction-F.Enumeration e) = tt

construction-outside : (c : Construction) → StartsOutside (construction_parts c)
unfolding construction_parts
construction-outside c =
    subst StartsOutside (sym (fold_out-Construction Parts Parts Parts Parts Parts Parts construction_step member_type_step case_step member_step structure_step union_step c))
    (construction-by (out-Construction c))

result-outside : (is_oneway : Bool) (result : Option TypeTree) (more : Parts) → StartsOutside (oneway_parts is_oneway ++ (result_parts is_oneway result ++ more))
result-outside true result more = tt
result-outside false None more = tt
result-outside false (Some t) more = outside-then (type_parts t) more (type-outside t AsType)

operation-outside : (o : Operation) → StartsOutside (operation_parts o)
operation-outside o =
    result-outside o.is_oneway o.result
    (Part.Declares (declaration.Operation o.is_oneway) o.name ∷ Part.ScopeBegins (declaration.Operation o.is_oneway) o.name ∷ punctuation mark.OpenParenthesis
    ∷ (if_some (listed (parameter_parts o.is_oneway)) o.parameters
    ++ punctuation mark.CloseParenthesis
    ∷ (if_some (raises_parts o.is_oneway) o.raises ++ (if_some context_parts o.context ++ Part.ScopeEnds ∷ []))))

unit-outside : (t : Tree) → StartsOutside (unit_parts t)
unfolding unit_parts
unit-outside tree.Closing = tt
unit-outside (tree.Module name) = tt
unit-outside (tree.Interface i) =
    local-outside i.is_local [] (Part.Declares (declaration.Interface i.is_local) i.name ∷ (if_some (bases_parts i.is_local) i.bases ++ punctuation mark.OpenBrace ∷ []))
unit-outside (tree.Forward (forward.Interface is_local name)) = local-outside is_local [] (Part.Declares (declaration.InterfaceAhead is_local) name ∷ punctuation mark.Semicolon ∷ [])
unit-outside (tree.Forward (forward.Structure name)) = tt
unit-outside (tree.Forward (forward.Union name)) = tt
unit-outside (tree.Construction c) = outside-then (construction_parts c) (punctuation mark.Semicolon ∷ []) (construction-outside c)
unit-outside (tree.Operation o) = outside-then (operation_parts o) (punctuation mark.Semicolon ∷ []) (operation-outside o)
unit-outside other = tt

-- ---- a blank

-- what a row is made of, before the first expression
abbrev outside : List Token → List (List (List ℕ)) → List Value → Rest
outside tokens found values = record { tokens = tokens; found = found; values = values; in_value = false }

-- parts that begin so have a blank first in their text
parts-blank : (parts : Parts) (tokens : List Token) (found : List (List (List ℕ))) (values : List Value) → lexemes tokens ≡ spell_parts parts → BeginsWord (first (spell_parts parts))
    → length found ≡ length (used_names (items parts)) → StartsOutside parts → take 1 (unit_text (outside tokens found values) (items parts)) ≡ codes " "
parts-blank (Part.Plain (x ∷ xs) ∷ parts) [] found values h begins count starts = cc
parts-blank (Part.Plain (x ∷ xs) ∷ parts) (t ∷ ts) found values h begins count starts =
    let same : lexeme_of t ≡ x = same_Some (lexeme_of t) x (ap first h) in
    let text : token_text t ≡ spaced t = token-spaced t (ap separates same ∙ begins) in
    ap (λ w. take 1 ((w ++ flat_map token_text (take (length xs) ts)) ++ unit_text (outside (drop (length xs) ts) found values) (items parts))) text
parts-blank (Part.Uses way name ∷ parts) tokens [] values h begins count starts = absurd (let none : 0 ≡ suc (length (used_names (items parts))) = count in omega arith)
parts-blank (Part.Uses way name ∷ parts) tokens (path ∷ found) values h begins count starts = refl
parts-blank _ tokens found values h begins count starts = absurd starts

pub unit-blank : (tree : Tree) (rest : Rest) → lexemes rest.tokens ≡ spell tree → length rest.found ≡ length (used_names (items (unit_parts tree))) → rest.in_value ≡ false
    → take 1 (unit_text rest (items (unit_parts tree))) ≡ codes " "
unit-blank tree rest spelled count out =
    ap (λ b. take 1 (unit_text (record rest { in_value = b }) (items (unit_parts tree)))) out
    ∙ parts-blank (unit_parts tree) rest.tokens rest.found rest.values (spelled ∙ sym (unit_spells tree)) (subst (λ w. BeginsWord (first w)) (sym (unit_spells tree)) (tree-word tree)) count (unit-outside tree)
