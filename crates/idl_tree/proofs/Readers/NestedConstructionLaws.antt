-- What holds of the readers of structs, unions and enums, in one another.
-- ---- structs
use Rattle.std.proofs.Common.{None, Option, Some, [], cond, inl, inr, refl, suc, zero, ◌++◌, ◌∷◌, ◌≡◌, ◌⊎◌, List, ℕ}
use Rattle.idl_lex.specs.declared.kinds.keyword.Keyword.{Keyword}
use Rattle.idl_lex.specs.declared.kinds.keyword.Keyword.TheVariants as word
use Rattle.idl_lex.specs.declared.kinds.mark.Mark.TheVariants as mark
use Rattle.idl_tree.specs.Construction.{spell_base, spell_case, spell_construction, spell_discriminator, spell_enumeration, spell_member, spell_structure, spell_union}
use Rattle.idl_tree.specs.DataType.{spell_type}
use Rattle.idl_tree.specs.Expression.{spell_expression}
use Rattle.idl_tree.specs.Lexeme.{Identifier, Lexemes, Punctuation, Word}
use Rattle.idl_tree.specs.Name.{spell_name}
use Rattle.idl_tree.specs.reading.ReadConstruction.{base_at, case_with, cases_with, construction_at, construction_by, construction_with, discriminator_at, enumerated, enumeration_at, goes_on, listed_with, made_structure, made_union, member_with, members_with, several, structure_rest_with, structure_with, union_rest_with, union_with}
use Rattle.idl_tree.specs.reading.ReadExpression.{expression_at}
use Rattle.idl_tree.specs.reading.ReadName.{name_at}
use Rattle.idl_tree.specs.reading.ReadType.{type_at}
use Rattle.idl_tree.specs.reading.Reading.{Reader, first, many_of}
use Rattle.idl_tree.specs.Several.{spell_listed}
use Rattle.idl_tree.specs.reading.Tests.{identifier_at, is_mark, is_word, keyword_of}
use Rattle.idl_tree.specs.declared.declarations.construction.Case.{Case}
use Rattle.idl_tree.specs.declared.declarations.construction.Construction.{Construction}
use Rattle.idl_tree.specs.declared.declarations.construction.Construction.TheVariants as construction
use Rattle.idl_tree.specs.declared.declarations.construction.Discriminator.{Discriminator}
use Rattle.idl_tree.specs.declared.declarations.construction.Enumeration.{Enumeration}
use Rattle.idl_tree.specs.declared.declarations.construction.Member.{Member}
use Rattle.idl_tree.specs.declared.declarations.construction.Structure.{Structure}
use Rattle.idl_tree.specs.declared.declarations.construction.Union.{Union}
use Rattle.idl_tree.specs.declared.declarations.data_type.TypeTree.{TypeTree}
use Rattle.idl_tree.specs.declared.expression.Expression.{Expression}
use Rattle.idl_tree.specs.declared.name.ScopedName.{ScopedName}
use Rattle.idl_tree.specs.declared.several.Several.{Several}
use Rattle.idl_tree.proofs.Readers.ConstructionLaws.{discriminator_laws, listed_laws, case_laws, member_laws}
use Rattle.idl_tree.proofs.ConstructionSpelling.{case_some, member_some, spell_construction-enumeration, spell_construction-structure, spell_construction-union, spell_members, spell_structure-made, spell_union-made}
use Rattle.idl_tree.proofs.Readers.ExpressionLaws.{expression_laws}
use Rattle.idl_tree.proofs.Laws.{Laws, behind_at, choice_laws, deeper, done_laws, either, ends_at, last_laws, later, later_laws, mapped_at, next_at, no_laws, same, shape, skip_laws, then_laws}
use Rattle.idl_tree.proofs.Many.{many_laws, many_spell}
use Rattle.idl_tree.proofs.Readers.NameLaws.{name_laws}
use Rattle.idl_tree.proofs.Readers.NestedTypeLaws.{type_laws}
use Rattle.idl_tree.proofs.Readers.Switch.{by_laws, mapped_laws}
use Rattle.idl_tree.proofs.Readers.TokenLaws.{close_at, close_laws, identifier_laws, one_token, only_mark, only_word}

pub members_laws : (d N : ℕ) (re : ℕ → Reader Expression) (rt : ℕ → Reader TypeTree) (rc : ℕ → Reader Construction)
    → Laws (suc d) N same spell_member (λ n. member_with (re n) (rt n) (rc n)) → Laws d N same spell_members (λ n. members_with (re n) (rt n) (rc n))
unfolding members_with
members_laws d N re rt rc members =
    let one : ℕ → Reader Member = λ n. member_with (re n) (rt n) (rc n) in
    let more : ℕ → Reader (List Member) = λ n. many_of goes_on (member_with (re n) (rt n) (rc n)) in
    let closed : List Member → ℕ → Reader (List Member) = λ ms. close_at mark.CloseBrace ms in
    let value : List Member × Unit {0} → List Member = λ p. p.0 in
    let spell_inside : List Member × Unit {0} → Lexemes = λ p. many_spell spell_member p.0 ++ Punctuation mark.CloseBrace ∷ [] in
    shape d N value (λ p. Punctuation mark.OpenBrace ∷ spell_inside p) spell_members (behind_at (is_mark mark.OpenBrace) (next_at more closed)) (λ n. members_with (re n) (rt n) (rc n)) (λ p. refl) (λ n ts. refl)
    (skip_laws d N (is_mark mark.OpenBrace) (Punctuation mark.OpenBrace) value spell_inside (next_at more closed) (only_mark mark.OpenBrace)
    (then_laws (suc d) N (many_spell spell_member) more (λ (ms : List Member) (u : Unit {0}). ms) (λ u. Punctuation mark.CloseBrace ∷ []) closed
    (many_laws (suc d) N goes_on spell_member one member_some members) (λ ms. close_laws (suc d) N mark.CloseBrace ms)))

base_laws : (d N : ℕ) → Laws d N same spell_base (λ n. base_at)
unfolding base_at
base_laws d N =
    let some_at : ℕ → Reader (Option ScopedName) = mapped_at (λ (n : ScopedName). Some n) (λ n. name_at) in
    shape d N (either (λ (n : ScopedName). Some n) (λ (u : Unit {0}). None)) (either (λ n. Punctuation mark.Colon ∷ spell_name n) (λ u. [])) spell_base
    (λ n ts. cond (is_mark mark.Colon (first ts)) (behind_at (is_mark mark.Colon) some_at n ts) (ends_at None n ts)) (λ n. base_at) spells (λ n ts. refl)
    (choice_laws d N (is_mark mark.Colon) (λ (n : ScopedName). Some n) (λ n. Punctuation mark.Colon ∷ spell_name n) (behind_at (is_mark mark.Colon) some_at) (λ (u : Unit {0}). None) (λ u. []) (ends_at None)
    (skip_laws d N (is_mark mark.Colon) (Punctuation mark.Colon) (λ (n : ScopedName). Some n) spell_name some_at (only_mark mark.Colon)
    (last_laws (suc d) N (λ (n : ScopedName). Some n) spell_name (λ n. name_at) (name_laws (suc d) N)))
    (done_laws d N None))
  where
    spells : (x : ScopedName ⊎ Unit {0}) → spell_base (either (λ (n : ScopedName). Some n) (λ (u : Unit {0}). None) x) ≡ either (λ n. Punctuation mark.Colon ∷ spell_name n) (λ u. []) x
    spells (inl n) = refl
    spells (inr u) = refl

abbrev pub structure_parts : Type 0
structure_parts = Option ScopedName × List Member

-- [":" name] "{" member* "}"
abbrev pub spell_structure_rest : structure_parts → Lexemes
spell_structure_rest p = spell_base p.0 ++ spell_members p.1

abbrev pub structure_of : List ℕ → structure_parts → Structure
structure_of name p = made_structure name p.0 p.1

pub structure_rest_laws : (d N : ℕ) (re : ℕ → Reader Expression) (rt : ℕ → Reader TypeTree) (rc : ℕ → Reader Construction)
    → Laws (suc d) N same spell_member (λ n. member_with (re n) (rt n) (rc n))
    → (name : List ℕ) → Laws d N (structure_of name) spell_structure_rest (λ n. structure_rest_with (re n) (rt n) (rc n) name)
unfolding structure_rest_with
structure_rest_laws d N re rt rc members name =
    let members_at : ℕ → Reader (List Member) = λ n. members_with (re n) (rt n) (rc n) in
    then_laws d N spell_base (λ n. base_at) (made_structure name) spell_members (λ base. mapped_at (made_structure name base) members_at) (base_laws d N)
    (λ base. last_laws d N (made_structure name base) spell_members members_at (members_laws d N re rt rc members))

structure_laws : (d N : ℕ) (re : ℕ → Reader Expression) (rt : ℕ → Reader TypeTree) (rc : ℕ → Reader Construction)
    → Laws (suc (suc d)) N same spell_member (λ n. member_with (re n) (rt n) (rc n)) → Laws d N same spell_structure (λ n. structure_with (re n) (rt n) (rc n))
unfolding structure_with
structure_laws d N re rt rc members =
    let inside : List ℕ → ℕ → Reader Structure = λ name n. structure_rest_with (re n) (rt n) (rc n) name in
    let value : List ℕ × structure_parts → Structure = λ p. structure_of p.0 p.1 in
    shape d N value (λ p. Word word.Struct ∷ (one_token Identifier p.0 ++ spell_structure_rest p.1)) spell_structure
    (behind_at (is_word word.Struct) (next_at (λ n. identifier_at) inside)) (λ n. structure_with (re n) (rt n) (rc n))
    (λ p. spell_structure-made p.0 p.1.0 p.1.1) (λ n ts. refl)
    (skip_laws d N (is_word word.Struct) (Word word.Struct) value (λ p. one_token Identifier p.0 ++ spell_structure_rest p.1) (next_at (λ n. identifier_at) inside) (only_word word.Struct)
    (then_laws (suc d) N (one_token Identifier) (λ n. identifier_at) structure_of spell_structure_rest inside (identifier_laws (suc d) N) (structure_rest_laws (suc d) N re rt rc members)))

-- ---- unions

abbrev pub case_parts : Type 0
case_parts = Case × (List Case × Unit {0})

abbrev pub spell_cases : case_parts → Lexemes
spell_cases q = Punctuation mark.OpenBrace ∷ (spell_case q.0 ++ (many_spell spell_case q.1.0 ++ Punctuation mark.CloseBrace ∷ []))

abbrev union_by : List ℕ → Discriminator → case_parts → Union
union_by name discriminator q = made_union name discriminator q.0 q.1.0

abbrev cases_at : (ℕ → Reader Expression) → (ℕ → Reader TypeTree) → (ℕ → Reader Construction) → List ℕ → Discriminator → ℕ → Reader Union
cases_at re rt rc name discriminator n = cases_with (re n) (rt n) (rc n) name discriminator

cases_laws : (d N : ℕ) (re : ℕ → Reader Expression) (rt : ℕ → Reader TypeTree) (rc : ℕ → Reader Construction)
    → Laws (suc d) N same spell_case (λ n. case_with (re n) (rt n) (rc n))
    → (name : List ℕ) (x : Discriminator) → Laws d N (union_by name x) spell_cases (cases_at re rt rc name x)
unfolding cases_with
cases_laws d N re rt rc cases name x =
    let one : ℕ → Reader Case = λ n. case_with (re n) (rt n) (rc n) in
    let more : ℕ → Reader (List Case) = λ n. many_of goes_on (case_with (re n) (rt n) (rc n)) in
    let ended : Case → List Case → ℕ → Reader Union = λ c cs. close_at mark.CloseBrace (made_union name x c cs) in
    skip_laws d N (is_mark mark.OpenBrace) (Punctuation mark.OpenBrace) (union_by name x) (λ q. spell_case q.0 ++ (many_spell spell_case q.1.0 ++ Punctuation mark.CloseBrace ∷ [])) (next_at one (λ c. next_at more (ended c))) (only_mark mark.OpenBrace)
    (then_laws (suc d) N spell_case one (λ (c : Case) (q : List Case × Unit {0}). made_union name x c q.0) (λ q. many_spell spell_case q.0 ++ Punctuation mark.CloseBrace ∷ []) (λ c. next_at more (ended c)) cases
    (λ c. then_laws (suc d) N (many_spell spell_case) more (λ (cs : List Case) (u : Unit {0}). made_union name x c cs) (λ u. Punctuation mark.CloseBrace ∷ []) (ended c)
    (many_laws (suc d) N goes_on spell_case one case_some cases) (λ cs. close_laws (suc d) N mark.CloseBrace (made_union name x c cs))))

abbrev pub switch_parts : Type 0
switch_parts = Discriminator × case_parts

-- "switch" "(" disc ")" "{" case+ "}"
abbrev pub spell_switched : switch_parts → Lexemes
spell_switched p = Word word.Switch ∷ Punctuation mark.OpenParenthesis ∷ (spell_discriminator p.0 ++ (Punctuation mark.CloseParenthesis ∷ spell_cases p.1))

abbrev pub union_of : List ℕ → switch_parts → Union
union_of name p = union_by name p.0 p.1

pub union_rest_laws : (d N : ℕ) (re : ℕ → Reader Expression) (rt : ℕ → Reader TypeTree) (rc : ℕ → Reader Construction)
    → Laws (suc (suc (suc (suc d)))) N same spell_case (λ n. case_with (re n) (rt n) (rc n))
    → (name : List ℕ) → Laws d N (union_of name) spell_switched (λ n. union_rest_with (re n) (rt n) (rc n) name)
unfolding union_rest_with
union_rest_laws d N re rt rc cases name =
    let closed : Discriminator → ℕ → Reader Union = λ x. behind_at (is_mark mark.CloseParenthesis) (cases_at re rt rc name x) in
    let chosen : ℕ → Reader Union = next_at (λ n. discriminator_at) closed in
    skip_laws d N (is_word word.Switch) (Word word.Switch) (union_of name) (λ p. Punctuation mark.OpenParenthesis ∷ (spell_discriminator p.0 ++ (Punctuation mark.CloseParenthesis ∷ spell_cases p.1))) (behind_at (is_mark mark.OpenParenthesis) chosen) (only_word word.Switch)
    (skip_laws (suc d) N (is_mark mark.OpenParenthesis) (Punctuation mark.OpenParenthesis) (union_of name) (λ p. spell_discriminator p.0 ++ (Punctuation mark.CloseParenthesis ∷ spell_cases p.1)) chosen (only_mark mark.OpenParenthesis)
    (then_laws (suc (suc d)) N spell_discriminator (λ n. discriminator_at) (union_by name) (λ q. Punctuation mark.CloseParenthesis ∷ spell_cases q) closed (discriminator_laws (suc (suc d)) N)
    (λ x. skip_laws (suc (suc d)) N (is_mark mark.CloseParenthesis) (Punctuation mark.CloseParenthesis) (union_by name x) spell_cases (cases_at re rt rc name x) (only_mark mark.CloseParenthesis)
    (cases_laws (suc (suc (suc d))) N re rt rc cases name x))))

union_laws : (d N : ℕ) (re : ℕ → Reader Expression) (rt : ℕ → Reader TypeTree) (rc : ℕ → Reader Construction)
    → Laws (suc (suc (suc (suc (suc d))))) N same spell_case (λ n. case_with (re n) (rt n) (rc n)) → Laws d N same spell_union (λ n. union_with (re n) (rt n) (rc n))
unfolding union_with
union_laws d N re rt rc cases =
    let inside : List ℕ → ℕ → Reader Union = λ name n. union_rest_with (re n) (rt n) (rc n) name in
    shape d N (λ (p : List ℕ × switch_parts). union_of p.0 p.1) (λ p. Word word.Union ∷ (one_token Identifier p.0 ++ spell_switched p.1)) spell_union
    (behind_at (is_word word.Union) (next_at (λ n. identifier_at) inside)) (λ n. union_with (re n) (rt n) (rc n))
    (λ p. spell_union-made p.0 p.1.0 p.1.1.0 p.1.1.1.0) (λ n ts. refl)
    (skip_laws d N (is_word word.Union) (Word word.Union) (λ (p : List ℕ × switch_parts). union_of p.0 p.1) (λ p. one_token Identifier p.0 ++ spell_switched p.1) (next_at (λ n. identifier_at) inside) (only_word word.Union)
    (then_laws (suc d) N (one_token Identifier) (λ n. identifier_at) union_of spell_switched inside (identifier_laws (suc d) N) (union_rest_laws (suc d) N re rt rc cases)))

-- ---- enums

abbrev enumeration_parts : Type 0
enumeration_parts = List ℕ × (Several (List ℕ) × Unit {0})

abbrev spell_names : Several (List ℕ) → Lexemes
spell_names = spell_listed (one_token Identifier)

pub enumeration_laws : (d N : ℕ) → Laws d N same spell_enumeration (λ n. enumeration_at)
unfolding enumeration_at
enumeration_laws d N =
    let closed : List ℕ → Several (List ℕ) → ℕ → Reader Enumeration = λ name ids. close_at mark.CloseBrace (enumerated name ids) in
    let inside : List ℕ → ℕ → Reader Enumeration = λ name. behind_at (is_mark mark.OpenBrace) (next_at (λ n. listed_with identifier_at) (closed name)) in
    shape d N (λ (p : enumeration_parts). enumerated p.0 p.1.0) (λ p. Word word.Enum ∷ (one_token Identifier p.0 ++ (Punctuation mark.OpenBrace ∷ (spell_names p.1.0 ++ Punctuation mark.CloseBrace ∷ [])))) spell_enumeration
    (behind_at (is_word word.Enum) (next_at (λ n. identifier_at) inside)) (λ n. enumeration_at) (λ p. refl) (λ n ts. refl)
    (skip_laws d N (is_word word.Enum) (Word word.Enum) (λ (p : enumeration_parts). enumerated p.0 p.1.0) (λ p. one_token Identifier p.0 ++ (Punctuation mark.OpenBrace ∷ (spell_names p.1.0 ++ Punctuation mark.CloseBrace ∷ []))) (next_at (λ n. identifier_at) inside) (only_word word.Enum)
    (then_laws (suc d) N (one_token Identifier) (λ n. identifier_at) (λ (name : List ℕ) (q : Several (List ℕ) × Unit {0}). enumerated name q.0) (λ q. Punctuation mark.OpenBrace ∷ (spell_names q.0 ++ Punctuation mark.CloseBrace ∷ [])) inside (identifier_laws (suc d) N)
    (λ name. skip_laws (suc d) N (is_mark mark.OpenBrace) (Punctuation mark.OpenBrace) (λ (q : Several (List ℕ) × Unit {0}). enumerated name q.0) (λ q. spell_names q.0 ++ Punctuation mark.CloseBrace ∷ []) (next_at (λ n. listed_with identifier_at) (closed name)) (only_mark mark.OpenBrace)
    (then_laws (suc (suc d)) N spell_names (λ n. listed_with identifier_at) (λ (ids : Several (List ℕ)) (u : Unit {0}). enumerated name ids) (λ u. Punctuation mark.CloseBrace ∷ []) (closed name)
    (listed_laws (suc (suc d)) N (one_token Identifier) (λ n. identifier_at) (identifier_laws (suc (suc d)) N)) (λ ids. close_laws (suc (suc d)) N mark.CloseBrace (enumerated name ids))))))

-- ---- in one another

-- more tokens taken
abbrev pub raised : ℕ → ℕ → ℕ
raised zero d = d
raised (suc k) d = suc (raised k d)

pub more_room : (d N : ℕ) (k : ℕ) {C : Type 0} (spell : C → Lexemes) (r : ℕ → Reader C) → Laws d N same spell r → Laws (raised k d) N same spell r
more_room d N zero spell r laws = laws
more_room d N (suc k) spell r laws = deeper (raised k d) N same spell r (more_room d N k spell r laws)

-- k tokens have been taken, and then another
pub members_behind : (d N k : ℕ) (re : ℕ → Reader Expression) (rt : ℕ → Reader TypeTree) (rc : ℕ → Reader Construction) → Laws d N same spell_expression re → Laws d N same spell_type rt → Laws d N same spell_construction rc
    → Laws (raised k d) N same spell_member (λ n. member_with (re n) (rt n) (rc n))
members_behind d N k re rt rc expressions types constructions =
    member_laws (raised k d) N re rt rc (more_room d N (suc k) spell_expression re expressions) (more_room d N k spell_type rt types) (more_room d N k spell_construction rc constructions)

pub cases_behind : (d N k : ℕ) (re : ℕ → Reader Expression) (rt : ℕ → Reader TypeTree) (rc : ℕ → Reader Construction) → Laws d N same spell_expression re → Laws d N same spell_type rt → Laws d N same spell_construction rc
    → Laws (raised k d) N same spell_case (λ n. case_with (re n) (rt n) (rc n))
cases_behind d N k re rt rc expressions types constructions =
    case_laws (raised k d) N re rt rc (more_room d N (suc k) spell_expression re expressions) (more_room d N k spell_type rt types) (more_room d N k spell_construction rc constructions)

construction_each : (d N : ℕ) (re : ℕ → Reader Expression) (rt : ℕ → Reader TypeTree) (rc : ℕ → Reader Construction) → Laws (suc d) N same spell_expression re → Laws (suc d) N same spell_type rt → Laws (suc d) N same spell_construction rc
    → (k : Option Keyword) → Laws d N same spell_construction (λ n. construction_by (re n) (rt n) (rc n) k)
construction_each d N re rt rc expressions types constructions (Some word.Struct) =
    mapped_laws d N construction.Structure spell_structure spell_construction (λ n. structure_with (re n) (rt n) (rc n)) spell_construction-structure (structure_laws d N re rt rc (members_behind (suc d) N 1 re rt rc expressions types constructions))
construction_each d N re rt rc expressions types constructions (Some word.Union) =
    mapped_laws d N construction.Union spell_union spell_construction (λ n. union_with (re n) (rt n) (rc n)) spell_construction-union (union_laws d N re rt rc (cases_behind (suc d) N 4 re rt rc expressions types constructions))
construction_each d N re rt rc expressions types constructions _ =
    mapped_laws d N construction.Enumeration spell_enumeration spell_construction (λ n. enumeration_at) spell_construction-enumeration (enumeration_laws d N)

construction_with_laws : (d N : ℕ) (re : ℕ → Reader Expression) (rt : ℕ → Reader TypeTree) (rc : ℕ → Reader Construction) → Laws (suc d) N same spell_expression re → Laws (suc d) N same spell_type rt → Laws (suc d) N same spell_construction rc
    → Laws d N same spell_construction (λ n. construction_with (re n) (rt n) (rc n))
unfolding construction_with
construction_with_laws d N re rt rc expressions types constructions =
    by_laws d N keyword_of spell_construction (λ k n. construction_by (re n) (rt n) (rc n) k) None (construction_each d N re rt rc expressions types constructions)

pub some_construction : Construction
some_construction = construction.Enumeration (enumerated [] (several [] []))

construction_reads : (n : ℕ) (ts : Lexemes) → construction_at (suc n) ts ≡ construction_with (expression_at n) (type_at n) (construction_at n) ts
unfolding construction_at
construction_reads n ts = refl

pub construction_laws : (N : ℕ) → Laws 0 N same spell_construction construction_at
construction_laws zero = no_laws 0 spell_construction construction_at some_construction
construction_laws (suc N) = shape 0 (suc N) same spell_construction spell_construction (λ n. construction_with (later expression_at n) (later type_at n) (later construction_at n)) construction_at (λ b. refl) construction_reads
    (construction_with_laws 0 (suc N) (later expression_at) (later type_at) (later construction_at) (later_laws N spell_expression expression_at (expression_laws N)) (later_laws N spell_type type_at (type_laws N)) (later_laws N spell_construction construction_at (construction_laws N)))
