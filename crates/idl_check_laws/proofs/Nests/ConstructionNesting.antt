-- The sites of types, declarators and constructions nest: by their grammar.
use Rattle.idl_tree.specs.declared.declarations.data_type.TypeTree.TheFolds.{fold-roll-TypeTree, fold-roll-Sequence}
use Rattle.std.proofs.Common.{◌≡◌, ℕ, true, false, List, [], ◌∷◌, ◌++◌, Option, None, Some, append_assoc, flat_map, is_some, map, refl, sym, subst, ◌∙◌, ap}
use Rattle.idl_lex.specs.declared.kinds.keyword.Keyword.TheVariants as word
use Rattle.idl_lex.specs.declared.kinds.mark.Mark.TheVariants as mark
use Rattle.idl_parts.proofs.ConstructionEquations.{case_parts-made, construction_parts-enumeration, construction_parts-structure, construction_parts-union, member_parts-made, member_type_parts-construction, member_type_parts-type, structure_brace, structure_parts-made, union_brace, union_parts-made}
use Rattle.idl_parts.proofs.Such.{Such}
use Rattle.idl_parts.specs.ConstructionParts.{case_parts, construction_parts, discriminator_parts, enumeration_parts, label_parts, member_parts, member_type_parts, structure_parts, union_parts}
use Rattle.idl_parts.specs.ExpressionParts.{value_parts}
use Rattle.idl_parts.specs.Part.{Part, Parts, ArrayEnds, Declares, Default, Enumerates, Plain, ScopeBegins, ScopeEnds, TypeEnds, Uses, all_parts, declared, keyword_part, listed, punctuation}
use Rattle.idl_parts.specs.TypeParts.{array_end, bound_parts, constant_type_parts, declarator_parts, length_parts, limit_parts, plain_parts, string_parts, type_parts, type_parts_as, data_type_step, sequence_step}
use Rattle.idl_parts.specs.declared.part.Declaration.{Declaration}
use Rattle.idl_parts.specs.declared.part.Declaration.TheVariants as declaration
use Rattle.idl_parts.specs.declared.part.Shape.TheVariants.{Basic, Text, Sequence as Elements}
use Rattle.idl_parts.specs.declared.part.Purpose.TheVariants.{Bound, Length}
use Rattle.idl_parts.specs.declared.part.Purpose.TheVariants as purpose
use Rattle.idl_parts.specs.declared.part.Use.{Use}
use Rattle.idl_parts.specs.declared.part.Use.TheVariants.{AsConstantType, AsElement, AsType}
use Rattle.idl_tree.specs.DataType.{spell_basic, spell_discrete, spell_string_word}
use Rattle.idl_tree.specs.Lexeme.{Lexemes, Word, Punctuation}
use Rattle.idl_tree.specs.reading.ReadConstruction.{made_case, made_member, made_structure, made_union}
use Rattle.idl_tree.specs.reading.ReadType.{made_sequence}
use Rattle.idl_tree.specs.declared.declarations.construction.Case.{Case, roll-Case}
use Rattle.idl_tree.specs.declared.declarations.construction.Construction.{Construction, roll-Construction}
use Rattle.idl_tree.specs.declared.declarations.construction.Construction.TheFolds.{ind-Construction, ind-Member, ind-MemberType, map-Construction, map-MemberType}
use Rattle.idl_tree.specs.declared.declarations.construction.Construction.TheOpen.{Construction-F, MemberType-F}
use Rattle.idl_tree.specs.declared.declarations.construction.Construction.TheVariants.{rolls-Enumeration, rolls-Structure, rolls-Union}
use Rattle.idl_tree.specs.declared.declarations.construction.Discriminator.{Discriminator}
use Rattle.idl_tree.specs.declared.declarations.construction.Enumeration.{Enumeration}
use Rattle.idl_tree.specs.declared.declarations.construction.Label.{Label}
use Rattle.idl_tree.specs.declared.declarations.construction.Label.TheVariants as label
use Rattle.idl_tree.specs.declared.declarations.construction.Member.{Member, roll-Member}
use Rattle.idl_tree.specs.declared.declarations.construction.MemberType.{MemberType, roll-MemberType}
use Rattle.idl_tree.specs.declared.declarations.construction.MemberType.TheVariants.{rolls-Construction, rolls-Type}
use Rattle.idl_tree.specs.declared.declarations.construction.Structure.{Structure, roll-Structure}
use Rattle.idl_tree.specs.declared.declarations.construction.Union.{Union, roll-Union}
use Rattle.idl_tree.specs.declared.declarations.data_type.BasicType.TheVariants.{Discrete}
use Rattle.idl_tree.specs.declared.declarations.data_type.TypeTree.{TypeTree, ind-TypeTree, map-TypeTree, roll-TypeTree, fold-TypeTree}
use Rattle.idl_tree.specs.declared.declarations.data_type.TypeTree.TheOpen.{TypeTree-F}
use Rattle.idl_tree.specs.declared.declarations.data_type.TypeTree.TheVariants.{rolls-Plain, rolls-Sequence}
use Rattle.idl_tree.specs.declared.declarations.data_type.TypeTree.TheVariants as data_type
use Rattle.idl_tree.specs.declared.declarations.data_type.PlainType.{PlainType}
use Rattle.idl_tree.specs.declared.declarations.data_type.PlainType.TheVariants as plain
use Rattle.idl_tree.specs.declared.declarations.data_type.Sequence.{Sequence, roll-Sequence}
use Rattle.idl_tree.specs.declared.declarations.data_type.StringType.{StringType}
use Rattle.idl_tree.specs.declared.declarations.declarator.Declarator.{Declarator}
use Rattle.idl_tree.specs.declared.expression.Expression.{Expression}
use Rattle.idl_tree.specs.declared.name.ScopedName.{ScopedName}
use Rattle.idl_tree.specs.declared.several.Several.{Several}
use Rattle.idl_tree.specs.declared.unit.ConstantTypeTree.{ConstantTypeTree}
use Rattle.idl_tree.specs.declared.unit.ConstantTypeTree.TheVariants as constant
use Rattle.idl_check_laws.proofs.Nests.Nesting.{Nests, NestsAt, NestsIn, at_least, based, before, before_in, carry, declares, discriminated, each, ends, expression, follow, follow_in, label_value, lifted, many, none, one, scope, several, union_scope}
use Rattle.idl_check_laws.proofs.Nests.LevelSites.{is_declared_at, is_level_use}

-- ---- types

bound : (e : Option Expression) → Nests (bound_parts e)
bound None = none
bound (Some e) = before (punctuation mark.Less) (value_parts Bound e ++ punctuation mark.Greater ∷ []) refl (ends (value_parts Bound e) (punctuation mark.Greater) refl (expression Bound e refl))

limit : (e : Option Expression) → Nests (limit_parts e)
limit None = none
limit (Some e) = before (punctuation mark.Comma) (value_parts Bound e) refl (expression Bound e refl)

string : (s : StringType) → Nests (string_parts s)
string s =
    let last : Part Lexemes = TypeEnds (Text s.is_wide (is_some s.bound)) in
    before (Plain (spell_string_word s.is_wide)) (bound_parts s.bound ++ last ∷ []) refl (ends (bound_parts s.bound) last refl (bound s.bound))

plain_type : (p : PlainType) (way : Use) → is_level_use way ≡ true → Nests (plain_parts p way)
plain_type (plain.Basic b) way level = before (Plain (spell_basic b)) (TypeEnds (Basic b) ∷ []) refl (one (TypeEnds (Basic b)) refl)
plain_type (plain.String s) way level = string s
plain_type (plain.Name n) way level = one (Uses way n) level

type_parts-plain : (p : PlainType) (way : Use) → type_parts_as (data_type.Plain p) way ≡ plain_parts p way
unfolding type_parts_as
type_parts-plain p way = ap (λ (f : Use → Parts). f way)
    (ap (fold-TypeTree (Use → Parts) (Use → Parts) data_type_step sequence_step) (sym (rolls-Plain p))
    ∙ fold-roll-TypeTree (Use → Parts) (Use → Parts) data_type_step sequence_step (TypeTree-F.Plain p))

-- behind the first tokens of a sequence
abbrev sequence_rest : TypeTree → Option Expression → Parts
sequence_rest t b = type_parts_as t AsElement ++ (limit_parts b ++ punctuation mark.Greater ∷ TypeEnds (Elements (is_some b)) ∷ [])

type_parts-sequence : (t : TypeTree) (b : Option Expression) (way : Use)
    → type_parts_as (made_sequence t b) way ≡ Plain (Word word.Sequence ∷ Punctuation mark.Less ∷ []) ∷ sequence_rest t b
unfolding type_parts_as
type_parts-sequence t b way =
    let s = roll-Sequence (record { element = t; bound = b }) in
    ap (λ (f : Use → Parts). f way)
    (ap (fold-TypeTree (Use → Parts) (Use → Parts) data_type_step sequence_step) (sym (rolls-Sequence s))
    ∙ fold-roll-TypeTree (Use → Parts) (Use → Parts) data_type_step sequence_step (TypeTree-F.Sequence s)
    ∙ fold-roll-Sequence (Use → Parts) (Use → Parts) data_type_step sequence_step (record { element = t; bound = b }))

-- the claims by which the induction goes
abbrev Types : TypeTree → Type 0
Types t = (way : Use) → is_level_use way ≡ true → Nests (type_parts_as t way)

abbrev Sequences : Sequence → Type 0
Sequences s = Types (data_type.Sequence s)

sequence : (t : TypeTree) (b : Option Expression) → Types t → Types (made_sequence t b)
sequence t b h way level =
    let last : Parts = punctuation mark.Greater ∷ TypeEnds (Elements (is_some b)) ∷ [] in
    subst Nests (sym (type_parts-sequence t b way))
    (before (Plain (Word word.Sequence ∷ Punctuation mark.Less ∷ [])) (sequence_rest t b) refl
    (follow (type_parts_as t AsElement) (limit_parts b ++ last) (h AsElement refl)
    (follow (limit_parts b) last (limit b) (before (punctuation mark.Greater) (TypeEnds (Elements (is_some b)) ∷ []) refl (one (TypeEnds (Elements (is_some b))) refl)))))

by_type : (y : TypeTree-F (Such Types) (Such Sequences)) → Types (roll-TypeTree (map-TypeTree (Such Types) (Such Sequences) TypeTree Sequence (λ e. e.0) (λ e. e.0) y))
by_type (TypeTree-F.Plain p) = subst Types (sym (rolls-Plain p)) (λ way level. subst Nests (sym (type_parts-plain p way)) (plain_type p way level))
by_type (TypeTree-F.Sequence s) = subst Types (sym (rolls-Sequence s.0)) s.1

type_nests : (t : TypeTree) → Types t
type_nests = ind-TypeTree Types Sequences
    (λ x y is. subst (λ z. Types (roll-TypeTree z)) is (by_type y))
    (λ x y is. subst (λ z. Sequences (roll-Sequence z)) is (sequence y.element.0 y.bound y.element.1))

pub a_type : (t : TypeTree) → Nests (type_parts t)
a_type t = type_nests t AsType refl

pub constant_type : (t : ConstantTypeTree) → Nests (constant_type_parts t)
constant_type (constant.Discrete d) = before (Plain (spell_discrete d)) (TypeEnds (Basic (Discrete d)) ∷ []) refl (one (TypeEnds (Basic (Discrete d))) refl)
constant_type (constant.String s) = string s
constant_type (constant.Name n) = one (Uses AsConstantType n) refl

a_length : (e : Expression) → Nests (length_parts e)
a_length e = before (punctuation mark.OpenBracket) (value_parts Length e ++ punctuation mark.CloseBracket ∷ []) refl (ends (value_parts Length e) (punctuation mark.CloseBracket) refl (expression Length e refl))

an_array : (lengths : List Expression) → Nests (array_end lengths)
an_array [] = none
an_array (e ∷ lengths) = one ArrayEnds refl

pub declarator : (way : Declaration) → is_declared_at false way ≡ true → (d : Declarator) → Nests (declarator_parts way d)
declarator way inner d =
    before (Declares way d.name) (flat_map length_parts d.lengths ++ array_end d.lengths) inner
    (follow (flat_map length_parts d.lengths) (array_end d.lengths) (each length_parts a_length d.lengths) (an_array d.lengths))

-- ---- constructions

enumeration : (e : Enumeration) → Nests (enumeration_parts e)
enumeration e =
    before (keyword_part word.Enum) _ refl
    (before (Enumerates e.enumerators) _ refl
    (before (Declares declaration.Enumeration e.name) _ refl
    (before (punctuation mark.OpenBrace) _ refl
    (ends (listed (declared declaration.Enumerator) e.enumerators) (punctuation mark.CloseBrace) refl
    (several (declared declaration.Enumerator) (λ name. one (Declares declaration.Enumerator name) refl) e.enumerators)))))

a_label : (l : Label) → NestsIn 1 (label_parts l)
a_label (label.Case e) =
    before_in 1 (keyword_part word.Case) (value_parts purpose.Label e ++ punctuation mark.Colon ∷ []) refl
    (follow_in 1 (value_parts purpose.Label e) (punctuation mark.Colon ∷ []) (label_value e) (lifted 1 (punctuation mark.Colon ∷ []) (one (punctuation mark.Colon) refl)))
a_label label.Default =
    let words : Parts = Plain (Word word.Default ∷ Punctuation mark.Colon ∷ []) ∷ [] in
    lifted 1 (Default ∷ words) (before Default words refl (one (Plain (Word word.Default ∷ Punctuation mark.Colon ∷ [])) refl))

abbrev Constructions : Construction → Type 0
Constructions x = Nests (construction_parts x)

abbrev MemberTypes : MemberType → Type 0
MemberTypes x = Nests (member_type_parts x)

abbrev Cases : Case → Type 0
Cases x = NestsIn 1 (case_parts x)

abbrev Members : Member → Type 0
Members x = Nests (member_parts x)

abbrev Structures : Structure → Type 0
Structures x = Nests (structure_parts x)

abbrev Unions : Union → Type 0
Unions x = Nests (union_parts x)

a_member : (kind : MemberType) (ds : Several Declarator) → MemberTypes kind → Members (made_member kind ds)
a_member kind ds h =
    let declarators = listed (declarator_parts declaration.Member) ds in
    subst Nests (sym (member_parts-made kind ds))
    (follow (member_type_parts kind) (declarators ++ punctuation mark.Semicolon ∷ []) h
    (ends declarators (punctuation mark.Semicolon) refl (several (declarator_parts declaration.Member) (declarator declaration.Member refl) ds)))

a_case : (labels : Several Label) (kind : MemberType) (d : Declarator) → MemberTypes kind → Cases (made_case labels kind d)
a_case labels kind d h =
    let last = declarator_parts declaration.Member d ++ punctuation mark.Semicolon ∷ [] in
    let behind = follow (member_type_parts kind) last h (ends (declarator_parts declaration.Member d) (punctuation mark.Semicolon) refl (declarator declaration.Member refl d)) in
    subst (NestsIn 1) (sym (case_parts-made labels kind d))
    (follow_in 1 (all_parts label_parts labels) (member_type_parts kind ++ last) (at_least 1 label_parts a_label labels) (lifted 1 (member_type_parts kind ++ last) behind))

-- behind the members of a struct, or the cases of a union
abbrev brace : Parts
brace = punctuation mark.CloseBrace ∷ []

-- the first and the others are what stands inside
inside : (first rest : Parts) → (first ++ rest) ++ ScopeEnds ∷ brace ≡ first ++ (rest ++ ScopeEnds ∷ brace)
inside first rest = append_assoc first rest (ScopeEnds ∷ brace)

a_structure : (name : List ℕ) (base : Option ScopedName) (ms : List (Such Members)) → Structures (made_structure name base (map (λ s. s.0) ms))
a_structure name base ms =
    let members = flat_map member_parts (map (λ s. s.0) ms) in
    let body = scope declaration.Structure name members brace refl (many 0 member_parts (λ s. s.0) (λ s. s.1) ms) (one (punctuation mark.CloseBrace) refl) in
    subst Nests (sym (structure_parts-made name base (map (λ s. s.0) ms)))
    (before (keyword_part word.Struct) _ refl
    (declares declaration.Structure name _ refl refl
    (based base (structure_brace name ++ (members ++ ScopeEnds ∷ brace))
    (carry (Punctuation mark.OpenBrace ∷ []) (ScopeBegins declaration.Structure name ∷ (members ++ ScopeEnds ∷ brace)) body))))

a_union : (name : List ℕ) (d : Discriminator) (c : Such Cases) (cs : List (Such Cases)) → Unions (made_union name d c.0 (map (λ s. s.0) cs))
a_union name d c cs =
    let rest = flat_map case_parts (map (λ s. s.0) cs) in
    let body = union_scope name (case_parts c.0 ++ rest) brace (follow_in 1 (case_parts c.0) rest c.1 (many 1 case_parts (λ s. s.0) (λ s. s.1) cs)) (one (punctuation mark.CloseBrace) refl) in
    subst Nests (sym (union_parts-made name d c.0 (map (λ s. s.0) cs)))
    (before (keyword_part word.Union) _ refl
    (declares declaration.Union name _ refl refl
    (carry (Word word.Switch ∷ Punctuation mark.OpenParenthesis ∷ []) (discriminator_parts d ++ (union_brace name ++ (case_parts c.0 ++ (rest ++ ScopeEnds ∷ brace))))
    (subst (λ p. NestsAt (Some name) false 0 (discriminator_parts d ++ (union_brace name ++ p))) (inside (case_parts c.0) rest) (discriminated d name ((case_parts c.0 ++ rest) ++ ScopeEnds ∷ brace) body)))))

by_construction : (y : Construction-F (Such Constructions) (Such MemberTypes) (Such Cases) (Such Members) (Such Structures) (Such Unions))
    → Constructions (roll-Construction (map-Construction (Such Constructions) (Such MemberTypes) (Such Cases) (Such Members) (Such Structures) (Such Unions)
    Construction MemberType Case Member Structure Union (λ e. e.0) (λ e. e.0) (λ e. e.0) (λ e. e.0) (λ e. e.0) (λ e. e.0) y))
by_construction (Construction-F.Structure s) = subst Constructions (sym (rolls-Structure s.0)) (subst Nests (sym (construction_parts-structure s.0)) s.1)
by_construction (Construction-F.Union u) = subst Constructions (sym (rolls-Union u.0)) (subst Nests (sym (construction_parts-union u.0)) u.1)
by_construction (Construction-F.Enumeration e) = subst Constructions (sym (rolls-Enumeration e)) (subst Nests (sym (construction_parts-enumeration e)) (enumeration e))

by_member_type : (y : MemberType-F (Such Constructions) (Such MemberTypes) (Such Cases) (Such Members) (Such Structures) (Such Unions))
    → MemberTypes (roll-MemberType (map-MemberType (Such Constructions) (Such MemberTypes) (Such Cases) (Such Members) (Such Structures) (Such Unions)
    Construction MemberType Case Member Structure Union (λ e. e.0) (λ e. e.0) (λ e. e.0) (λ e. e.0) (λ e. e.0) (λ e. e.0) y))
by_member_type (MemberType-F.Type t) = subst MemberTypes (sym (rolls-Type t)) (subst Nests (sym (member_type_parts-type t)) (a_type t))
by_member_type (MemberType-F.Construction c) = subst MemberTypes (sym (rolls-Construction c.0)) (subst Nests (sym (member_type_parts-construction c.0)) c.1)

pub construction : (c : Construction) → Constructions c
construction = ind-Construction Constructions MemberTypes Cases Members Structures Unions
    (λ x y is. subst (λ z. Constructions (roll-Construction z)) is (by_construction y))
    (λ x y is. subst (λ z. MemberTypes (roll-MemberType z)) is (by_member_type y))
    (λ x y is. subst (λ z. Cases (roll-Case z)) is (a_case y.labels y.kind.0 y.declarator y.kind.1))
    (λ x y is. subst (λ z. Members (roll-Member z)) is (a_member y.kind.0 y.declarators y.kind.1))
    (λ x y is. subst (λ z. Structures (roll-Structure z)) is (a_structure y.name y.base y.members))
    (λ x y is. subst (λ z. Unions (roll-Union z)) is (a_union y.name y.discriminator y.first y.rest))

pub member_type : (t : MemberType) → MemberTypes t
member_type = ind-MemberType Constructions MemberTypes Cases Members Structures Unions
    (λ x y is. subst (λ z. Constructions (roll-Construction z)) is (by_construction y))
    (λ x y is. subst (λ z. MemberTypes (roll-MemberType z)) is (by_member_type y))
    (λ x y is. subst (λ z. Cases (roll-Case z)) is (a_case y.labels y.kind.0 y.declarator y.kind.1))
    (λ x y is. subst (λ z. Members (roll-Member z)) is (a_member y.kind.0 y.declarators y.kind.1))
    (λ x y is. subst (λ z. Structures (roll-Structure z)) is (a_structure y.name y.base y.members))
    (λ x y is. subst (λ z. Unions (roll-Union z)) is (a_union y.name y.discriminator y.first y.rest))

pub member : (m : Member) → Members m
member = ind-Member Constructions MemberTypes Cases Members Structures Unions
    (λ x y is. subst (λ z. Constructions (roll-Construction z)) is (by_construction y))
    (λ x y is. subst (λ z. MemberTypes (roll-MemberType z)) is (by_member_type y))
    (λ x y is. subst (λ z. Cases (roll-Case z)) is (a_case y.labels y.kind.0 y.declarator y.kind.1))
    (λ x y is. subst (λ z. Members (roll-Member z)) is (a_member y.kind.0 y.declarators y.kind.1))
    (λ x y is. subst (λ z. Structures (roll-Structure z)) is (a_structure y.name y.base y.members))
    (λ x y is. subst (λ z. Unions (roll-Union z)) is (a_union y.name y.discriminator y.first y.rest))
