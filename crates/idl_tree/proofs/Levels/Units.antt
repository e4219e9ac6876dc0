-- Units.
use Rattle.std.proofs.Common.{◌≡◌, ℕ, zero, suc, ◌<◌, ◌≤◌, cond, [], ◌∷◌, length, Option, Some, None, Result, true, refl, ap, arith}
use Rattle.idl_lex.specs.declared.kinds.keyword.Keyword.{Keyword}
use Rattle.idl_lex.specs.declared.kinds.keyword.Keyword.TheVariants as word
use Rattle.idl_lex.specs.declared.kinds.mark.Mark.TheVariants as mark
use Rattle.idl_tree.specs.Lexeme.{Lexemes}
use Rattle.idl_tree.specs.reading.Levels.{Side, Opening, Closing, Neither, side_of, left_behind, is_within}
use Rattle.idl_tree.specs.reading.ReadUnit.{made_typedef, typedef_with, constant_type_by, constant_type_with, made_constant, constant_with, made_exception, exception_with, native_at, made_typeid, typeid_at, equals_at, made_typeprefix, typeprefix_at, closing_at, structure_declaration_with, union_declaration_with, declaration_by, declaration_with, ended_with, unit_by, unit_with, unit_at}
use Rattle.idl_tree.specs.reading.Reading.{Reader, first}
use Rattle.idl_tree.specs.reading.Tests.{is_mark, keyword_of}
use Rattle.idl_tree.specs.declared.declarations.construction.Construction.{Construction}
use Rattle.idl_tree.specs.declared.declarations.construction.Construction.TheVariants as construction
use Rattle.idl_tree.specs.declared.declarations.construction.Enumeration.{Enumeration}
use Rattle.idl_tree.specs.declared.declarations.construction.Structure.{Structure}
use Rattle.idl_tree.specs.declared.declarations.construction.Union.{Union}
use Rattle.idl_tree.specs.declared.declarations.data_type.TypeTree.{TypeTree}
use Rattle.idl_tree.specs.declared.declarations.interface.Forward.TheVariants as forward
use Rattle.idl_tree.specs.declared.expression.Expression.{Expression}
use Rattle.idl_tree.specs.declared.unit.ConstantTypeTree.TheVariants as constant_type
use Rattle.idl_tree.specs.declared.unit.Tree.{Tree}
use Rattle.idl_tree.specs.declared.unit.Tree.TheVariants as tree
use Rattle.idl_tree.proofs.Levels.Alike.{Within, Alike, lower, done, after, valued, beside, looking, chosen_alike}
use Rattle.idl_tree.proofs.Levels.Constructions.{listed, enumerations, member_types, members, structure_rests, union_rests, constructions}
use Rattle.idl_tree.proofs.Levels.Expressions.{expressions}
use Rattle.idl_tree.proofs.Levels.Interfaces.{text, readonly_attributes, attributes, operations}
use Rattle.idl_tree.proofs.Levels.Tokens.{mark_passes, word_passes, identifiers, names}
use Rattle.idl_tree.proofs.Levels.Types.{discretes, strings, declarators, types}

natives : (b : ℕ) → Alike b b native_at native_at
unfolding native_at
natives b = beside b b (word_passes word.Native) (identifiers b)

typeids : (b : ℕ) → Alike b b typeid_at typeid_at
unfolding typeid_at
typeids b = beside b b (word_passes word.Typeid) (after b b _ _ (names b) (λ name. valued b (made_typeid name) (text b)))

equals : (b : ℕ) → Alike b b equals_at equals_at
unfolding equals_at
equals b = chosen_alike b b _ (beside b b (mark_passes mark.Equals Neither refl) (done b _)) (done b _)

typeprefixes : (b : ℕ) → Alike b b typeprefix_at typeprefix_at
unfolding typeprefix_at
typeprefixes b = beside b b (word_passes word.Typeprefix) (after b b _ _ (names b) (λ name. after b b _ _ (equals b) (λ has. valued b (made_typeprefix name has) (text b))))

ended : (b : ℕ) {r other : Reader Tree} → Alike b b r other → Alike b b (ended_with r) (ended_with other)
unfolding ended_with
ended b one = after b b _ _ one (λ x. beside b b (mark_passes mark.Semicolon Neither refl) (done b x))

-- over what reads the parts, where so many levels and one more are allowed
module _ (b : ℕ) {e e2 : Reader Expression} {t t2 : Reader TypeTree} {c c2 : Reader Construction}
    (values : Alike (suc b) (suc b) e e2) (all_types : Alike (suc b) (suc b) t t2) (inner : Alike (suc b) (suc b) c c2) where
  typedefs : Alike (suc b) (suc b) (typedef_with e t c) (typedef_with e2 t2 c2)
  unfolding typedef_with
  typedefs = beside (suc b) (suc b) (word_passes word.Typedef) (after (suc b) (suc b) _ _ (member_types (suc b) all_types inner) (λ kind. valued (suc b) (made_typedef kind) (listed (suc b) (declarators (suc b) values))))

  constant_types_by : (k : Option Keyword) → Alike (suc b) (suc b) (constant_type_by e k) (constant_type_by e2 k)
  constant_types_by (Some word.String) = valued (suc b) constant_type.String (strings b (lower b values))
  constant_types_by (Some word.Wstring) = valued (suc b) constant_type.String (strings b (lower b values))
  constant_types_by None = valued (suc b) constant_type.Name (names (suc b))
  constant_types_by _ = valued (suc b) constant_type.Discrete (discretes (suc b))

  constant_types : Alike (suc b) (suc b) (constant_type_with e) (constant_type_with e2)
  unfolding constant_type_with
  constant_types = looking (suc b) (suc b) (λ ts. keyword_of (first ts)) {f = constant_type_by e} {g = constant_type_by e2} constant_types_by

  constants : Alike (suc b) (suc b) (constant_with e) (constant_with e2)
  unfolding constant_with
  constants = beside (suc b) (suc b) (word_passes word.Const) (after (suc b) (suc b) _ _ constant_types (λ kind. after (suc b) (suc b) _ _ (identifiers (suc b)) (λ name.
      beside (suc b) (suc b) (mark_passes mark.Equals Neither refl) (valued (suc b) (made_constant kind name) values))))

  exceptions : Alike (suc b) (suc b) (exception_with e t c) (exception_with e2 t2 c2)
  unfolding exception_with
  exceptions = beside (suc b) (suc b) (word_passes word.Exception) (after (suc b) (suc b) _ _ (identifiers (suc b)) (λ name.
      valued (suc b) (made_exception name) (members b (lower b values) (lower b all_types) (lower b inner))))

  structure_declarations : Alike (suc b) (suc b) (structure_declaration_with e t c) (structure_declaration_with e2 t2 c2)
  unfolding structure_declaration_with
  structure_declarations = beside (suc b) (suc b) (word_passes word.Struct) (after (suc b) (suc b) _ _ (identifiers (suc b)) (λ name.
      chosen_alike (suc b) (suc b) _ (done (suc b) (tree.Forward (forward.Structure name)))
      (valued (suc b) (λ (s : Structure). tree.Construction (construction.Structure s)) (structure_rests b (lower b values) (lower b all_types) (lower b inner) name))))

  union_declarations : Alike (suc b) (suc b) (union_declaration_with e t c) (union_declaration_with e2 t2 c2)
  unfolding union_declaration_with
  union_declarations = beside (suc b) (suc b) (word_passes word.Union) (after (suc b) (suc b) _ _ (identifiers (suc b)) (λ name.
      chosen_alike (suc b) (suc b) _ (done (suc b) (tree.Forward (forward.Union name)))
      (valued (suc b) (λ (u : Union). tree.Construction (construction.Union u)) (union_rests b (lower b values) (lower b all_types) (lower b inner) name))))

  declarations_by : (k : Option Keyword) → Alike (suc b) (suc b) (declaration_by e t c k) (declaration_by e2 t2 c2 k)
  declarations_by (Some word.Struct) = structure_declarations
  declarations_by (Some word.Union) = union_declarations
  declarations_by (Some word.Enum) = valued (suc b) (λ (x : Enumeration). tree.Construction (construction.Enumeration x)) (enumerations b)
  declarations_by (Some word.Typedef) = valued (suc b) tree.Typedef typedefs
  declarations_by (Some word.Native) = valued (suc b) tree.Native (natives (suc b))
  declarations_by (Some word.Const) = valued (suc b) tree.Constant constants
  declarations_by (Some word.Exception) = valued (suc b) tree.Exception exceptions
  declarations_by (Some word.Readonly) = valued (suc b) tree.ReadonlyAttribute (readonly_attributes b all_types)
  declarations_by (Some word.Attribute) = valued (suc b) tree.Attribute (attributes b all_types)
  declarations_by (Some word.Typeid) = valued (suc b) tree.Typeid (typeids (suc b))
  declarations_by (Some word.Typeprefix) = valued (suc b) tree.Typeprefix (typeprefixes (suc b))
  declarations_by _ = valued (suc b) tree.Operation (operations b all_types)

  declarations : Alike (suc b) (suc b) (declaration_with e t c) (declaration_with e2 t2 c2)
  unfolding declaration_with
  declarations = looking (suc b) (suc b) (λ ts. keyword_of (first ts)) {f = declaration_by e t c} {g = declaration_by e2 t2 c2} declarations_by

  -- what opens or closes a scope has no parts
  by_keyword : (k : Option Keyword) (ts : Lexemes) → Within b ts → unit_by e t c k ts ≡ unit_by e2 t2 c2 k ts
  by_keyword (Some word.Module) ts w = refl
  by_keyword (Some word.Local) ts w = refl
  by_keyword (Some word.Interface) ts w = refl
  by_keyword _ ts w = (ended (suc b) declarations).same b ts (omega arith) w

  unit_same : (ts : Lexemes) → Within b ts → unit_with e t c ts ≡ unit_with e2 t2 c2 ts
  unfolding unit_with
  unit_same ts w = ap (λ (o : Result (Tree × Lexemes) ℕ). cond (is_mark mark.CloseBrace (first ts)) (closing_at ts) o) (by_keyword (keyword_of (first ts)) ts w)

pub enough : (levels n m : ℕ) (ts : Lexemes) → Within levels ts → levels < n → levels < m → unit_at n ts ≡ unit_at m ts
unfolding unit_at
enough levels n m ts w below_n below_m =
    let less_n : suc levels ≤ n = omega (arith, below_n) in
    let less_m : suc levels ≤ m = omega (arith, below_m) in
    unit_same levels (expressions (suc levels) n m less_n less_m) (types (suc levels) n m less_n less_m) (constructions (suc levels) n m less_n less_m) ts w

-- ---- no list has more levels than tokens

module _ (ts : Lexemes) (more : (levels : ℕ) → Within levels ts → Within (suc levels) ts) where
  more_behind : (side : Side) (levels : ℕ) → is_within (left_behind side levels) ts ≡ true → is_within (left_behind side (suc levels)) ts ≡ true
  more_behind Opening zero w = absurd cc
  more_behind Opening (suc left) w = more left w
  more_behind Closing levels w = more (suc levels) w
  more_behind Neither levels w = more levels w

  all_behind : (side : Side) → Within (length ts) ts → is_within (left_behind side (suc (length ts))) ts ≡ true
  all_behind Opening w = w
  all_behind Closing w = more (suc (length ts)) (more (length ts) w)
  all_behind Neither w = more (length ts) w

one_more : (ts : Lexemes) (levels : ℕ) → Within levels ts → Within (suc levels) ts
one_more [] levels w = refl
one_more (t ∷ ts) levels w = more_behind ts (one_more ts) (side_of t) levels w

pub within_length : (ts : Lexemes) → Within (length ts) ts
within_length [] = refl
within_length (t ∷ ts) = all_behind ts (one_more ts) (side_of t) (within_length ts)
