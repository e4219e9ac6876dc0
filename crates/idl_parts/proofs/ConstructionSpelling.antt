-- The parts of structs, unions and enums are spelled as these are.
use Rattle.std.proofs.Common.{◌≡◌, ◌∙◌, ℕ, List, Option, None, Some, [], ◌∷◌, ◌++◌, flat_map, map, refl, sym, ap, subst}
use Rattle.std.proofs.lemmas.List.{append-nil}
use Rattle.idl_lex.specs.declared.kinds.keyword.Keyword.TheVariants as word
use Rattle.idl_lex.specs.declared.kinds.mark.Mark.TheVariants as mark
use Rattle.idl_parts.specs.ConstructionParts.{base_parts, case_parts, construction_parts, discriminator_parts, enumeration_parts, label_parts, member_parts, member_type_parts, structure_parts, union_parts}
use Rattle.idl_parts.specs.ExpressionParts.{value_parts}
use Rattle.idl_parts.specs.Part.{Parts, ScopeEnds, all_parts, declared, if_some, listed, punctuation, spell_parts}
use Rattle.idl_parts.specs.TypeParts.{declarator_parts}
use Rattle.idl_parts.specs.declared.part.Declaration.TheVariants as declaration
use Rattle.idl_parts.specs.declared.part.Purpose.TheVariants as target
use Rattle.idl_parts.specs.declared.part.Use.TheVariants.{AsType}
use Rattle.idl_tree.proofs.ConstructionSpelling.{spell_case-made, spell_construction-enumeration, spell_construction-structure, spell_construction-union, spell_member-made, spell_member_type-construction, spell_member_type-type, spell_members, spell_structure-made, spell_union-made}
use Rattle.idl_tree.proofs.Many.{many_spell}
use Rattle.idl_tree.specs.Construction.{spell_base, spell_case, spell_construction, spell_discriminator, spell_enumeration, spell_label, spell_member, spell_member_type, spell_structure, spell_union}
use Rattle.idl_tree.specs.DataType.{spell_declarator, spell_discrete}
use Rattle.idl_tree.specs.Expression.{spell_expression}
use Rattle.idl_tree.specs.Lexeme.{Lexemes, Identifier, Punctuation, Word}
use Rattle.idl_tree.specs.Name.{spell_name}
use Rattle.idl_tree.specs.reading.ReadConstruction.{made_case, made_member, made_structure, made_union}
use Rattle.idl_tree.specs.Several.{spell_all, spell_listed}
use Rattle.idl_tree.specs.declared.declarations.construction.Case.{Case, roll-Case}
use Rattle.idl_tree.specs.declared.declarations.construction.Construction.{Construction, roll-Construction}
use Rattle.idl_tree.specs.declared.declarations.construction.Construction.TheFolds.{ind-Construction, ind-Member, ind-MemberType, map-Construction, map-MemberType}
use Rattle.idl_tree.specs.declared.declarations.construction.Construction.TheOpen.{Construction-F, MemberType-F}
use Rattle.idl_tree.specs.declared.declarations.construction.Construction.TheVariants.{rolls-Enumeration, rolls-Structure, rolls-Union}
use Rattle.idl_tree.specs.declared.declarations.construction.Discriminator.{Discriminator}
use Rattle.idl_tree.specs.declared.declarations.construction.Discriminator.TheVariants as discriminator
use Rattle.idl_tree.specs.declared.declarations.construction.Enumeration.{Enumeration}
use Rattle.idl_tree.specs.declared.declarations.construction.Label.{Label}
use Rattle.idl_tree.specs.declared.declarations.construction.Label.TheVariants as label
use Rattle.idl_tree.specs.declared.declarations.construction.Member.{Member, roll-Member}
use Rattle.idl_tree.specs.declared.declarations.construction.MemberType.{MemberType, roll-MemberType}
use Rattle.idl_tree.specs.declared.declarations.construction.MemberType.TheVariants.{rolls-Construction, rolls-Type}
use Rattle.idl_tree.specs.declared.declarations.construction.Structure.{Structure, roll-Structure}
use Rattle.idl_tree.specs.declared.declarations.construction.Union.{Union, roll-Union}
use Rattle.idl_tree.specs.declared.declarations.declarator.Declarator.{Declarator}
use Rattle.idl_tree.specs.declared.name.ScopedName.{ScopedName}
use Rattle.idl_tree.specs.declared.several.Several.{Several}
use Rattle.idl_parts.proofs.ConstructionEquations.{case_parts-made, construction_parts-enumeration, construction_parts-structure, construction_parts-union, member_parts-made, member_type_parts-construction, member_type_parts-type, structure_brace, structure_parts-made, union_brace, union_parts-made}
use Rattle.idl_parts.proofs.ExpressionSpelling.{value_spells}
use Rattle.idl_parts.proofs.PartSpelling.{spells-all, spells-listed, spells-many, spells-then}
use Rattle.idl_parts.proofs.Such.{Such}
use Rattle.idl_parts.proofs.TypeSpelling.{declarator_spells, type_spells}

enumeration_spells : (e : Enumeration) → spell_parts (enumeration_parts e) ≡ spell_enumeration e
enumeration_spells e =
    ap (λ (w : Lexemes). Word word.Enum ∷ Identifier e.name ∷ Punctuation mark.OpenBrace ∷ w)
    (spells-then (listed (declared declaration.Enumerator) e.enumerators) (punctuation mark.CloseBrace ∷ [])
    (spell_listed (λ name. Identifier name ∷ []) e.enumerators) (Punctuation mark.CloseBrace ∷ [])
    (spells-listed (declared declaration.Enumerator) (λ name. Identifier name ∷ []) (λ name. refl) e.enumerators) refl)

discriminator_spells : (d : Discriminator) → spell_parts (discriminator_parts d) ≡ spell_discriminator d
discriminator_spells (discriminator.Discrete d) = append-nil (spell_discrete d)
discriminator_spells (discriminator.Name n) = append-nil (spell_name n)

label_spells : (l : Label) → spell_parts (label_parts l) ≡ spell_label l
label_spells (label.Case e) =
    ap (λ (w : Lexemes). Word word.Case ∷ w)
    (spells-then (value_parts target.Label e) (punctuation mark.Colon ∷ []) (spell_expression e) (Punctuation mark.Colon ∷ []) (value_spells target.Label e) refl)
label_spells label.Default = refl

-- the claims by which the induction goes
abbrev Constructions : Construction → Type 0
Constructions x = spell_parts (construction_parts x) ≡ spell_construction x

abbrev MemberTypes : MemberType → Type 0
MemberTypes x = spell_parts (member_type_parts x) ≡ spell_member_type x

abbrev Cases : Case → Type 0
Cases x = spell_parts (case_parts x) ≡ spell_case x

abbrev Members : Member → Type 0
Members x = spell_parts (member_parts x) ≡ spell_member x

abbrev Structures : Structure → Type 0
Structures x = spell_parts (structure_parts x) ≡ spell_structure x

abbrev Unions : Union → Type 0
Unions x = spell_parts (union_parts x) ≡ spell_union x

member_spells : (kind : MemberType) (ds : Several Declarator) → MemberTypes kind → Members (made_member kind ds)
member_spells kind ds h =
    ap spell_parts (member_parts-made kind ds)
    ∙ spells-then (member_type_parts kind) (listed (declarator_parts declaration.Member) ds ++ punctuation mark.Semicolon ∷ [])
    (spell_member_type kind) (spell_listed spell_declarator ds ++ Punctuation mark.Semicolon ∷ []) h
    (spells-then (listed (declarator_parts declaration.Member) ds) (punctuation mark.Semicolon ∷ []) (spell_listed spell_declarator ds) (Punctuation mark.Semicolon ∷ [])
    (spells-listed (declarator_parts declaration.Member) spell_declarator (declarator_spells declaration.Member) ds) refl)
    ∙ sym (spell_member-made kind ds)

case_spells : (labels : Several Label) (kind : MemberType) (d : Declarator) → MemberTypes kind → Cases (made_case labels kind d)
case_spells labels kind d h =
    ap spell_parts (case_parts-made labels kind d)
    ∙ spells-then (all_parts label_parts labels) (member_type_parts kind ++ (declarator_parts declaration.Member d ++ punctuation mark.Semicolon ∷ []))
    (spell_all spell_label labels) (spell_member_type kind ++ (spell_declarator d ++ Punctuation mark.Semicolon ∷ []))
    (spells-all label_parts spell_label label_spells labels)
    (spells-then (member_type_parts kind) (declarator_parts declaration.Member d ++ punctuation mark.Semicolon ∷ []) (spell_member_type kind) (spell_declarator d ++ Punctuation mark.Semicolon ∷ []) h
    (spells-then (declarator_parts declaration.Member d) (punctuation mark.Semicolon ∷ []) (spell_declarator d) (Punctuation mark.Semicolon ∷ []) (declarator_spells declaration.Member d) refl))
    ∙ sym (spell_case-made labels kind d)

abbrev members_of : List (Such Members) → List Member
members_of ms = map (λ m. m.0) ms

base_spells : (base : Option ScopedName) → spell_parts (if_some base_parts base) ≡ spell_base base
base_spells None = refl
base_spells (Some name) = ap (λ (w : Lexemes). Punctuation mark.Colon ∷ w) (append-nil (spell_name name))

structure_spells : (name : List ℕ) (base : Option ScopedName) (ms : List (Such Members)) → Structures (made_structure name base (members_of ms))
structure_spells name base ms =
    let members = members_of ms in
    let last : Parts = flat_map member_parts members ++ ScopeEnds ∷ punctuation mark.CloseBrace ∷ [] in
    ap spell_parts (structure_parts-made name base members)
    ∙ ap (λ (w : Lexemes). Word word.Struct ∷ Identifier name ∷ w)
    (spells-then (if_some base_parts base) (structure_brace name ++ last) (spell_base base) (spell_members members) (base_spells base)
    (ap (λ (w : Lexemes). Punctuation mark.OpenBrace ∷ w)
    (spells-then (flat_map member_parts members) (ScopeEnds ∷ punctuation mark.CloseBrace ∷ []) (many_spell spell_member members) (Punctuation mark.CloseBrace ∷ [])
    (spells-many member_parts spell_member (λ m. m.0) (λ m. m.1) ms) refl)))
    ∙ sym (spell_structure-made name base members)

abbrev cases_of : List (Such Cases) → List Case
cases_of cs = map (λ c. c.0) cs

union_spells : (name : List ℕ) (d : Discriminator) (c : Such Cases) (cs : List (Such Cases)) → Unions (made_union name d c.0 (cases_of cs))
union_spells name d c cs =
    let rest = cases_of cs in
    let last : Parts = flat_map case_parts rest ++ ScopeEnds ∷ punctuation mark.CloseBrace ∷ [] in
    let end : Lexemes = many_spell spell_case rest ++ Punctuation mark.CloseBrace ∷ [] in
    ap spell_parts (union_parts-made name d c.0 rest)
    ∙ ap (λ (w : Lexemes). Word word.Union ∷ Identifier name ∷ Word word.Switch ∷ Punctuation mark.OpenParenthesis ∷ w)
    (spells-then (discriminator_parts d) (union_brace name ++ (case_parts c.0 ++ last))
    (spell_discriminator d) (Punctuation mark.CloseParenthesis ∷ Punctuation mark.OpenBrace ∷ (spell_case c.0 ++ end)) (discriminator_spells d)
    (ap (λ (w : Lexemes). Punctuation mark.CloseParenthesis ∷ Punctuation mark.OpenBrace ∷ w)
    (spells-then (case_parts c.0) last (spell_case c.0) end c.1
    (spells-then (flat_map case_parts rest) (ScopeEnds ∷ punctuation mark.CloseBrace ∷ []) (many_spell spell_case rest) (Punctuation mark.CloseBrace ∷ [])
    (spells-many case_parts spell_case (λ c. c.0) (λ c. c.1) cs) refl))))
    ∙ sym (spell_union-made name d c.0 rest)

by_construction : (y : Construction-F (Such Constructions) (Such MemberTypes) (Such Cases) (Such Members) (Such Structures) (Such Unions))
    → Constructions (roll-Construction (map-Construction (Such Constructions) (Such MemberTypes) (Such Cases) (Such Members) (Such Structures) (Such Unions)
    Construction MemberType Case Member Structure Union (λ e. e.0) (λ e. e.0) (λ e. e.0) (λ e. e.0) (λ e. e.0) (λ e. e.0) y))
by_construction (Construction-F.Structure s) = subst Constructions (sym (rolls-Structure s.0))
    (ap spell_parts (construction_parts-structure s.0) ∙ s.1 ∙ sym (spell_construction-structure s.0))
by_construction (Construction-F.Union u) = subst Constructions (sym (rolls-Union u.0))
    (ap spell_parts (construction_parts-union u.0) ∙ u.1 ∙ sym (spell_construction-union u.0))
by_construction (Construction-F.Enumeration e) = subst Constructions (sym (rolls-Enumeration e))
    (ap spell_parts (construction_parts-enumeration e) ∙ enumeration_spells e ∙ sym (spell_construction-enumeration e))

by_member_type : (y : MemberType-F (Such Constructions) (Such MemberTypes) (Such Cases) (Such Members) (Such Structures) (Such Unions))
    → MemberTypes (roll-MemberType (map-MemberType (Such Constructions) (Such MemberTypes) (Such Cases) (Such Members) (Such Structures) (Such Unions)
    Construction MemberType Case Member Structure Union (λ e. e.0) (λ e. e.0) (λ e. e.0) (λ e. e.0) (λ e. e.0) (λ e. e.0) y))
by_member_type (MemberType-F.Type t) = subst MemberTypes (sym (rolls-Type t))
    (ap spell_parts (member_type_parts-type t) ∙ type_spells t AsType ∙ sym (spell_member_type-type t))
by_member_type (MemberType-F.Construction c) = subst MemberTypes (sym (rolls-Construction c.0))
    (ap spell_parts (member_type_parts-construction c.0) ∙ c.1 ∙ sym (spell_member_type-construction c.0))

pub construction_spells : (c : Construction) → Constructions c
construction_spells = ind-Construction Constructions MemberTypes Cases Members Structures Unions
    (λ x y is. subst (λ z. Constructions (roll-Construction z)) is (by_construction y))
    (λ x y is. subst (λ z. MemberTypes (roll-MemberType z)) is (by_member_type y))
    (λ x y is. subst (λ z. Cases (roll-Case z)) is (case_spells y.labels y.kind.0 y.declarator y.kind.1))
    (λ x y is. subst (λ z. Members (roll-Member z)) is (member_spells y.kind.0 y.declarators y.kind.1))
    (λ x y is. subst (λ z. Structures (roll-Structure z)) is (structure_spells y.name y.base y.members))
    (λ x y is. subst (λ z. Unions (roll-Union z)) is (union_spells y.name y.discriminator y.first y.rest))

pub member_type_spells : (t : MemberType) → MemberTypes t
member_type_spells = ind-MemberType Constructions MemberTypes Cases Members Structures Unions
    (λ x y is. subst (λ z. Constructions (roll-Construction z)) is (by_construction y))
    (λ x y is. subst (λ z. MemberTypes (roll-MemberType z)) is (by_member_type y))
    (λ x y is. subst (λ z. Cases (roll-Case z)) is (case_spells y.labels y.kind.0 y.declarator y.kind.1))
    (λ x y is. subst (λ z. Members (roll-Member z)) is (member_spells y.kind.0 y.declarators y.kind.1))
    (λ x y is. subst (λ z. Structures (roll-Structure z)) is (structure_spells y.name y.base y.members))
    (λ x y is. subst (λ z. Unions (roll-Union z)) is (union_spells y.name y.discriminator y.first y.rest))

pub members_spell : (m : Member) → Members m
members_spell = ind-Member Constructions MemberTypes Cases Members Structures Unions
    (λ x y is. subst (λ z. Constructions (roll-Construction z)) is (by_construction y))
    (λ x y is. subst (λ z. MemberTypes (roll-MemberType z)) is (by_member_type y))
    (λ x y is. subst (λ z. Cases (roll-Case z)) is (case_spells y.labels y.kind.0 y.declarator y.kind.1))
    (λ x y is. subst (λ z. Members (roll-Member z)) is (member_spells y.kind.0 y.declarators y.kind.1))
    (λ x y is. subst (λ z. Structures (roll-Structure z)) is (structure_spells y.name y.base y.members))
    (λ x y is. subst (λ z. Unions (roll-Union z)) is (union_spells y.name y.discriminator y.first y.rest))
