-- A unit that is spelled is read again.
use Rattle.std.proofs.Common.{Bool, List, None, Ok, Option, Result, Some, [], ap, append-nil, append_assoc, arith, false, flat_map, length, refl, suc, sym, true, zero, ℕ, ◌++◌, ◌<◌, ◌∙◌, ◌∷◌, ◌≡◌, ◌≤◌}
use Rattle.std.proofs.lemmas.List.{length-append}
use Rattle.idl_lex.specs.declared.kinds.keyword.Keyword.{Keyword}
use Rattle.idl_lex.specs.declared.kinds.keyword.Keyword.TheVariants as word
use Rattle.idl_lex.specs.declared.kinds.mark.Mark.TheVariants as mark
use Rattle.idl_tree.specs.Construction.{spell_construction, spell_member, spell_member_type}
use Rattle.idl_tree.specs.DataType.{spell_discrete, spell_string, spell_type}
use Rattle.idl_tree.specs.Expression.{spell_expression}
use Rattle.idl_tree.specs.Interface.{spell_attribute, spell_bases, spell_operation, spell_readonly_attribute, spell_text}
use Rattle.idl_tree.specs.Lexeme.{Identifier, Lexeme, Lexemes, Punctuation, Word}
use Rattle.idl_tree.specs.Name.{spell_name}
use Rattle.idl_tree.specs.reading.ReadConstruction.{construction_at, goes_on}
use Rattle.idl_tree.specs.reading.ReadExpression.{expression_at}
use Rattle.idl_tree.specs.reading.ReadInterface.{attribute_with, made_operation, operation_with, readonly_attribute_with, text_at}
use Rattle.idl_tree.specs.reading.ReadName.{name_at}
use Rattle.idl_tree.specs.reading.ReadType.{discrete_at, string_type, string_with, type_at}
use Rattle.idl_tree.specs.reading.ReadUnit.{bases_at, closing_at, constant_type_by, constant_type_with, constant_with, declaration_by, declaration_with, ended_with, equals_at, exception_with, interface_at, interface_rest, made_constant, made_exception, made_typedef, made_typeid, made_typeprefix, module_at, native_at, opened, structure_declaration_with, typedef_with, typeid_at, typeprefix_at, union_declaration_with, unit_at, unit_by, unit_with}
use Rattle.idl_tree.specs.reading.Reading.{Reader, expect, first, ◌>>=◌}
use Rattle.idl_tree.specs.reading.Tests.{identifier_at, is_mark, keyword_of}
use Rattle.idl_tree.specs.Unit.{spell, spell_constant, spell_constant_type, spell_equals, spell_exception, spell_typedef, spell_typeid, spell_typeprefix}
use Rattle.idl_tree.specs.declared.declarations.construction.Construction.{Construction}
use Rattle.idl_tree.specs.declared.declarations.construction.Member.{Member}
use Rattle.idl_tree.specs.declared.declarations.data_type.TypeTree.{TypeTree}
use Rattle.idl_tree.specs.declared.declarations.data_type.DiscreteType.{DiscreteType}
use Rattle.idl_tree.specs.declared.declarations.data_type.StringType.{StringType}
use Rattle.idl_tree.specs.declared.expression.Expression.{Expression}
use Rattle.idl_tree.specs.declared.declarations.interface.Forward.{Forward}
use Rattle.idl_tree.specs.declared.declarations.interface.Forward.TheVariants as forward
use Rattle.idl_tree.specs.declared.name.ScopedName.{ScopedName}
use Rattle.idl_tree.specs.declared.declarations.operation.Operation.{Operation}
use Rattle.idl_tree.specs.declared.declarations.operation.Parameter.{Parameter}
use Rattle.idl_tree.specs.declared.several.Several.{Several}
use Rattle.idl_tree.specs.declared.unit.Constant.{Constant}
use Rattle.idl_tree.specs.declared.unit.ConstantTypeTree.{ConstantTypeTree}
use Rattle.idl_tree.specs.declared.unit.ConstantTypeTree.TheVariants as constant_type
use Rattle.idl_tree.specs.declared.unit.Exception.{Exception}
use Rattle.idl_tree.specs.declared.unit.Tree.{Tree}
use Rattle.idl_tree.specs.declared.unit.Tree.TheVariants as tree
use Rattle.idl_tree.specs.declared.unit.Typedef.{Typedef}
use Rattle.idl_tree.specs.declared.unit.Typeid.{Typeid}
use Rattle.idl_tree.specs.declared.unit.Typeprefix.{Typeprefix}
use Rattle.idl_tree.proofs.ReadAgain.AgainParts.{Parted, Reads, all_read, mapped_reads, nothing, spelled_reads, then_reads}
use Rattle.idl_tree.proofs.ReadAgain.ConstructionAgain.{construction_is_again, ended_reads, member_again, member_at, member_type_at, member_type_is_again, members_at, members_read}
use Rattle.idl_tree.proofs.Readers.ConstructionLaws.{declarators_at, spell_declarators}
use Rattle.idl_tree.proofs.ReadAgain.ExpressionAgain.{goes_expression, name_again}
use Rattle.idl_tree.proofs.ReadAgain.InterfaceAgain.{attribute_reads, goes_attribute, goes_operation, goes_readonly, goes_text, names_read, operation_reads, readonly_attribute_reads, spell_operation_rest, text_reads}
use Rattle.idl_tree.proofs.ConstructionSpelling.{spell_members}
use Rattle.idl_tree.proofs.Many.{many_spell}
use Rattle.idl_tree.proofs.ReadAgain.MemberAgain.{declarators_later, goes_declarators}
use Rattle.idl_tree.proofs.Readers.NameLaws.{flat_map-many, named}
use Rattle.idl_tree.proofs.ReadAgain.TypeAgain.{discrete_reads, discrete_words, expression_reads, goes_type, is_discrete_word, is_type_start, string_reads, type_is_again, type_stops}
use Rattle.idl_tree.proofs.Readers.UnitLaws.{end}

-- ---- declarations

typedef_reads : (t : Typedef) (n : ℕ) → length (spell_typedef t) ≤ n → Reads goes_declarators (spell_typedef t) (typedef_with (expression_at n) (type_at n) (construction_at n)) t
unfolding typedef_with
typedef_reads t zero le rest h = absurd (omega (arith, le))
typedef_reads t (suc n) le rest h =
    let sum = length-append (spell_member_type t.kind) (spell_declarators t.declarators) in
    then_reads goes_type goes_declarators (spell_member_type t.kind) (spell_declarators t.declarators) (member_type_at (suc n)) (λ kind ts. declarators_at expression_at (suc n) ts >>= λ ds. Ok (made_typedef kind ds.0, ds.1)) t.kind t
    ((member_type_is_again t.kind).again n (omega (arith, le, sum)))
    (mapped_reads goes_declarators (spell_declarators t.declarators) (declarators_at expression_at (suc n)) (made_typedef t.kind) t.declarators (declarators_later t.declarators (suc n) (omega (arith, le, sum))))
    (λ rest h. refl) rest h

constant_by_discrete : (k : Option Keyword) → is_discrete_word k ≡ true → (e : Reader Expression) (ts : Lexemes) → constant_type_by e k ts ≡ (discrete_at ts >>= λ d. Ok (constant_type.Discrete d.0, d.1))
constant_by_discrete (Some word.String) h e ts = absurd cc
constant_by_discrete (Some word.Wstring) h e ts = absurd cc
constant_by_discrete None h e ts = absurd cc
constant_by_discrete _ h e ts = refl

constant_discrete : (d : DiscreteType) (e : Reader Expression) (rest : Lexemes) → constant_type_with e (spell_discrete d ++ rest) ≡ (discrete_at (spell_discrete d ++ rest) >>= λ d. Ok (constant_type.Discrete d.0, d.1))
unfolding constant_type_with
constant_discrete d e rest = constant_by_discrete (keyword_of (first (spell_discrete d ++ rest))) (discrete_words d rest) e (spell_discrete d ++ rest)

constant_name : (b : Bool) (s : List ℕ) (ss : List (List ℕ)) (e : Reader Expression) (rest : Lexemes) → is_mark mark.ColonColon (first rest) ≡ false
    → constant_type_with e (spell_name (named b s ss) ++ rest) ≡ Ok (constant_type.Name (named b s ss), rest)
unfolding constant_type_with
constant_name true s ss e rest h = ap (λ (o : Result (ScopedName × Lexemes) ℕ). o >>= λ n. Ok (constant_type.Name n.0, n.1)) (name_again (named true s ss) rest h)
constant_name false s ss e rest h = ap (λ (o : Result (ScopedName × Lexemes) ℕ). o >>= λ n. Ok (constant_type.Name n.0, n.1)) (name_again (named false s ss) rest h)

constant_string : (w : Bool) (b : Option Expression) (e : Reader Expression) (rest : Lexemes)
    → constant_type_with e (spell_string (string_type w b) ++ rest) ≡ (string_with e (spell_string (string_type w b) ++ rest) >>= λ s. Ok (constant_type.String s.0, s.1))
unfolding constant_type_with
constant_string true b e rest = refl
constant_string false b e rest = refl

constant_type_reads : (t : ConstantTypeTree) (n : ℕ) → length (spell_constant_type t) ≤ n → Reads goes_type (spell_constant_type t) (constant_type_with (expression_at n)) t
constant_type_reads (constant_type.Discrete d) n le rest h = constant_discrete d (expression_at n) rest ∙ ap (λ (o : Result (DiscreteType × Lexemes) ℕ). o >>= λ d. Ok (constant_type.Discrete d.0, d.1)) (discrete_reads d rest h)
constant_type_reads (constant_type.Name m) n le rest h = constant_name m.is_global m.first m.rest (expression_at n) rest (type_stops (first rest) h).name
constant_type_reads (constant_type.String s) n le rest h =
    constant_string s.is_wide s.bound (expression_at n) rest ∙ ap (λ (o : Result (StringType × Lexemes) ℕ). o >>= λ s. Ok (constant_type.String s.0, s.1)) (string_reads s n le rest (type_stops (first rest) h).bound)

constant_reads : (c : Constant) (n : ℕ) → length (spell_constant c) ≤ n → Reads goes_expression (spell_constant c) (constant_with (expression_at n)) c
unfolding constant_with
constant_reads c n le rest h =
    let tail : Lexemes = Identifier c.name ∷ Punctuation mark.Equals ∷ spell_expression c.value in
    let sum = length-append (spell_constant_type c.kind) tail in
    then_reads goes_type goes_expression (spell_constant_type c.kind) tail (constant_type_with (expression_at n))
    (λ kind ts. identifier_at ts >>= λ name. expect (is_mark mark.Equals) name.1 >>= λ r. expression_at n r >>= λ value. Ok (made_constant kind name.0 value.0, value.1)) c.kind c
    (constant_type_reads c.kind n (omega (arith, le, sum)))
    (λ rest h. mapped_reads goes_expression (spell_expression c.value) (expression_at n) (made_constant c.kind c.name) c.value (expression_reads c.value n (omega (arith, le, sum))) rest h)
    (λ rest h. refl) rest h

all_members_read : (ms : List Member) (n : ℕ) → length (spell_members ms) ≤ n → Reads nothing (spell_members ms) (members_at n) ms
all_members_read ms zero le = absurd (omega (arith, le))
all_members_read ms (suc n) le =
    let sum = length-append (many_spell spell_member ms) (Punctuation mark.CloseBrace ∷ []) in
    members_read ms (suc n) (all_read nothing goes_on spell_member (λ n. member_at (suc n)) member_again ms n (omega (arith, le, sum)))

exception_reads : (e : Exception) (n : ℕ) → length (spell_exception e) ≤ n → Reads nothing (spell_exception e) (exception_with (expression_at n) (type_at n) (construction_at n)) e
unfolding exception_with
exception_reads e n le rest h =
    let members : Lexemes = Punctuation mark.OpenBrace ∷ (flat_map spell_member e.members ++ Punctuation mark.CloseBrace ∷ []) in
    let same_members : members ≡ spell_members e.members = ap (λ (w : Lexemes). Punctuation mark.OpenBrace ∷ (w ++ Punctuation mark.CloseBrace ∷ [])) (flat_map-many spell_member e.members) in
    mapped_reads nothing members (members_at n) (made_exception e.name) e.members
    (spelled_reads nothing members (spell_members e.members) (members_at n) e.members same_members (all_members_read e.members n (omega (arith, le, ap length same_members)))) rest h

typeid_reads : (t : Typeid) → Reads goes_text (spell_typeid t) typeid_at t
unfolding typeid_at
typeid_reads t rest h =
    then_reads (is_mark mark.ColonColon) goes_text (spell_name t.name) (spell_text t.text) name_at (λ name ts. text_at ts >>= λ x. Ok (made_typeid name x.0, x.1)) t.name t
    (name_again t.name) (mapped_reads goes_text (spell_text t.text) text_at (made_typeid t.name) t.text (text_reads t.text)) (λ rest h. refl) rest h

equals_reads : (b : Bool) → Reads (is_mark mark.Equals) (spell_equals b) equals_at b
unfolding equals_at
equals_reads true rest h = refl
equals_reads false rest h = rw h refl

equals_parted : (b : Bool) (x : Several (List ℕ)) → Parted (is_mark mark.ColonColon) goes_text (spell_equals b ++ spell_text x)
equals_parted true x rest h = refl
equals_parted false x rest h = refl

typeprefix_reads : (t : Typeprefix) → Reads goes_text (spell_typeprefix t) typeprefix_at t
unfolding typeprefix_at
typeprefix_reads t rest h =
    then_reads (is_mark mark.ColonColon) goes_text (spell_name t.name) (spell_equals t.has_equals ++ spell_text t.text) name_at (λ name ts. equals_at ts >>= λ b. text_at b.1 >>= λ x. Ok (made_typeprefix name b.0 x.0, x.1)) t.name t
    (name_again t.name)
    (then_reads (is_mark mark.Equals) goes_text (spell_equals t.has_equals) (spell_text t.text) equals_at (λ b ts. text_at ts >>= λ x. Ok (made_typeprefix t.name b x.0, x.1)) t.has_equals t
    (equals_reads t.has_equals) (mapped_reads goes_text (spell_text t.text) text_at (made_typeprefix t.name t.has_equals) t.text (text_reads t.text)) (λ rest h. refl))
    (equals_parted t.has_equals t.text) rest h

-- ---- openings and closings

bases_reads : (o : Option (Several ScopedName)) (rest : Lexemes) → bases_at (spell_bases o ++ (Punctuation mark.OpenBrace ∷ rest)) ≡ Ok (o, Punctuation mark.OpenBrace ∷ rest)
unfolding bases_at
bases_reads None rest = refl
bases_reads (Some ns) rest = ap (λ (o : Result (Several ScopedName × Lexemes) ℕ). o >>= λ ns. Ok (Some ns.0, ns.1)) (names_read ns (Punctuation mark.OpenBrace ∷ rest) refl)

abbrev brace : Lexemes
brace = Punctuation mark.OpenBrace ∷ []

bases_open : (o : Option (Several ScopedName)) (rest : Lexemes) → is_mark mark.Semicolon (first ((spell_bases o ++ brace) ++ rest)) ≡ false
bases_open None rest = refl
bases_open (Some ns) rest = refl

interface_rest_reads : (b : Bool) (name : List ℕ) (bases : Option (Several ScopedName)) (rest : Lexemes) → interface_rest b name ((spell_bases bases ++ brace) ++ rest) ≡ Ok (opened b name bases, rest)
unfolding interface_rest
interface_rest_reads b name bases rest =
    rw (bases_open bases rest)
    (ap (λ (w : Lexemes). bases_at w >>= λ bases. expect (is_mark mark.OpenBrace) bases.1 >>= λ r. Ok (opened b name bases.0, r)) (append_assoc (spell_bases bases) brace rest)
    ∙ ap (λ (o : Result (Option (Several ScopedName) × Lexemes) ℕ). o >>= λ bases. expect (is_mark mark.OpenBrace) bases.1 >>= λ r. Ok (opened b name bases.0, r)) (bases_reads bases rest))

interface_reads : (b : Bool) (name : List ℕ) (bases : Option (Several ScopedName)) (n : ℕ) → Reads nothing (spell (opened b name bases)) (unit_at n) (opened b name bases)
unfolding spell unit_at unit_with interface_at
interface_reads true name bases n rest h = interface_rest_reads true name bases rest
interface_reads false name bases n rest h = interface_rest_reads false name bases rest

forward_reads : (f : Forward) (n : ℕ) → Reads nothing (spell (tree.Forward f)) (unit_at n) (tree.Forward f)
unfolding spell unit_at unit_with ended_with declaration_with interface_at interface_rest structure_declaration_with union_declaration_with
forward_reads (forward.Interface true name) n rest h = refl
forward_reads (forward.Interface false name) n rest h = refl
forward_reads (forward.Structure name) n rest h = refl
forward_reads (forward.Union name) n rest h = refl

-- ---- operations

abbrev operation_tree : ℕ → Reader Tree
operation_tree n ts = operation_with (type_at n) ts >>= λ o. Ok (tree.Operation o.0, o.1)

type_is_declaration : (t : Option Lexeme) → is_type_start t ≡ true → (e : Reader Expression) (r : Reader TypeTree) (c : Reader Construction) (ts : Lexemes)
    → unit_by e r c (keyword_of t) ts ≡ ended_with (declaration_with e r c) ts
type_is_declaration (Some (Word word.Module)) h e r c ts = absurd cc
type_is_declaration (Some (Word word.Local)) h e r c ts = absurd cc
type_is_declaration (Some (Word word.Interface)) h e r c ts = absurd cc
type_is_declaration _ h e r c ts = refl

type_is_operation : (t : Option Lexeme) → is_type_start t ≡ true → (e : Reader Expression) (r : Reader TypeTree) (c : Reader Construction) (ts : Lexemes)
    → declaration_by e r c (keyword_of t) ts ≡ (operation_with r ts >>= λ o. Ok (tree.Operation o.0, o.1))
type_is_operation (Some (Word word.Struct)) h e r c ts = absurd cc
type_is_operation (Some (Word word.Union)) h e r c ts = absurd cc
type_is_operation (Some (Word word.Enum)) h e r c ts = absurd cc
type_is_operation (Some (Word word.Typedef)) h e r c ts = absurd cc
type_is_operation (Some (Word word.Native)) h e r c ts = absurd cc
type_is_operation (Some (Word word.Const)) h e r c ts = absurd cc
type_is_operation (Some (Word word.Exception)) h e r c ts = absurd cc
type_is_operation (Some (Word word.Readonly)) h e r c ts = absurd cc
type_is_operation (Some (Word word.Attribute)) h e r c ts = absurd cc
type_is_operation (Some (Word word.Typeid)) h e r c ts = absurd cc
type_is_operation (Some (Word word.Typeprefix)) h e r c ts = absurd cc
type_is_operation _ h e r c ts = refl

type_is_no_closing : (t : Option Lexeme) → is_type_start t ≡ true → is_mark mark.CloseBrace t ≡ false
type_is_no_closing (Some (Punctuation mark.CloseBrace)) h = absurd cc
type_is_no_closing _ h = refl

declaration_of_type : (t : Option Lexeme) → is_type_start t ≡ true → (n : ℕ) (ts : Lexemes) → first ts ≡ t → declaration_with (expression_at n) (type_at n) (construction_at n) ts ≡ operation_tree n ts
unfolding declaration_with
declaration_of_type t h n ts is = rw is (type_is_operation t h (expression_at n) (type_at n) (construction_at n) ts)

ended_same : (r r' : Reader Tree) (ts : Lexemes) → r ts ≡ r' ts → ended_with r ts ≡ ended_with r' ts
unfolding ended_with
ended_same r r' ts is = ap (λ (o : Result (Tree × Lexemes) ℕ). o >>= λ d. expect (is_mark mark.Semicolon) d.1 >>= λ rest. Ok (d.0, rest)) is

-- a unit that begins as a type is an operation
unit_of_type : (t : Option Lexeme) → is_type_start t ≡ true → (n : ℕ) (ts : Lexemes) → first ts ≡ t → unit_at n ts ≡ ended_with (operation_tree n) ts
unfolding unit_at unit_with
unit_of_type t h n ts is =
    rw (is, type_is_no_closing t h) (type_is_declaration t h (expression_at n) (type_at n) (construction_at n) ts)
    ∙ ended_same (declaration_with (expression_at n) (type_at n) (construction_at n)) (operation_tree n) ts (declaration_of_type t h n ts is)

operation_first : (o : Operation) (n : ℕ) (rest : Lexemes) → unit_at n (spell_operation o ++ rest) ≡ ended_with (operation_tree n) (spell_operation o ++ rest)
unfolding unit_at unit_with declaration_with ended_with
operation_first o n rest = by_parts o.is_oneway o.result o.name o.parameters o.raises o.context
  where
    by_parts : (b : Bool) (result : Option TypeTree) (name : List ℕ) (ps : Option (Several Parameter)) (rs : Option (Several ScopedName)) (xs : Option (Several (Several (List ℕ))))
        → unit_at n (spell_operation (made_operation b result name ps rs xs) ++ rest) ≡ ended_with (operation_tree n) (spell_operation (made_operation b result name ps rs xs) ++ rest)
    by_parts true result name ps rs xs = refl
    by_parts false None name ps rs xs = refl
    by_parts false (Some t) name ps rs xs =
        let tail : Lexemes = Identifier name ∷ spell_operation_rest (made_operation false (Some t) name ps rs xs) in
        let group = append_assoc (spell_type t) tail rest in
        unit_of_type (first (spell_type t ++ (tail ++ rest))) ((type_is_again t).starts (tail ++ rest)) n ((spell_type t ++ tail) ++ rest) (ap first group)

native_reads : (name : List ℕ) (rest : Lexemes) → ended_with (λ ts. native_at ts >>= λ name. Ok (tree.Native name.0, name.1)) (Word word.Native ∷ Identifier name ∷ (end ++ rest)) ≡ Ok (tree.Native name, rest)
unfolding ended_with native_at
native_reads name rest = refl

-- ---- units

unit_reads : (t : Tree) (n : ℕ) → length (spell t) ≤ n → Reads nothing (spell t) (unit_at n) t
unfolding spell unit_at unit_with ended_with declaration_with closing_at module_at
unit_reads tree.Closing n le rest h = refl
unit_reads (tree.Module name) n le rest h = refl
unit_reads (tree.Interface i) n le rest h = interface_reads i.is_local i.name i.bases n rest h
unit_reads (tree.Forward f) n le rest h = forward_reads f n rest h
unit_reads (tree.Typedef t) n le rest h =
    ended_reads goes_declarators tree.Typedef (spell_typedef t) (typedef_with (expression_at n) (type_at n) (construction_at n)) t refl (typedef_reads t n (omega (arith, le, length-append (spell_typedef t) end))) rest refl
unit_reads (tree.Construction c) n le rest h = (construction_is_again c).unit n (omega (arith, le, length-append (spell_construction c) end)) rest refl
unit_reads (tree.Native name) n le rest h = native_reads name rest
unit_reads (tree.Constant c) n le rest h =
    ended_reads goes_expression tree.Constant (spell_constant c) (constant_with (expression_at n)) c refl (constant_reads c n (omega (arith, le, length-append (spell_constant c) end))) rest refl
unit_reads (tree.Exception e) n le rest h =
    ended_reads nothing tree.Exception (spell_exception e) (exception_with (expression_at n) (type_at n) (construction_at n)) e refl (exception_reads e n (omega (arith, le, length-append (spell_exception e) end))) rest refl
unit_reads (tree.ReadonlyAttribute a) n le rest h =
    ended_reads goes_readonly tree.ReadonlyAttribute (spell_readonly_attribute a) (readonly_attribute_with (type_at n)) a refl (readonly_attribute_reads a n (omega (arith, le, length-append (spell_readonly_attribute a) end))) rest refl
unit_reads (tree.Attribute a) n le rest h =
    ended_reads goes_attribute tree.Attribute (spell_attribute a) (attribute_with (type_at n)) a refl (attribute_reads a n (omega (arith, le, length-append (spell_attribute a) end))) rest refl
unit_reads (tree.Operation o) n le rest h =
    ap (unit_at n) (append_assoc (spell_operation o) end rest) ∙ operation_first o n (end ++ rest) ∙ ap (ended_with (operation_tree n)) (sym (append_assoc (spell_operation o) end rest))
    ∙ ended_reads goes_operation tree.Operation (spell_operation o) (operation_with (type_at n)) o refl (operation_reads o n (omega (arith, le, length-append (spell_operation o) end))) rest refl
unit_reads (tree.Typeid t) n le rest h = ended_reads goes_text tree.Typeid (spell_typeid t) typeid_at t refl (typeid_reads t) rest refl
unit_reads (tree.Typeprefix t) n le rest h = ended_reads goes_text tree.Typeprefix (spell_typeprefix t) typeprefix_at t refl (typeprefix_reads t) rest refl

pub unit_again : (t : Tree) (n : ℕ) → length (spell t) < n → unit_at n (spell t) ≡ Ok (t, [])
unit_again t n lt = ap (unit_at n) (sym (append-nil (spell t))) ∙ unit_reads t n (omega (arith, lt)) [] refl
