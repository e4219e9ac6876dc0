-- A struct, a union or an enum that is spelled is read again, alone and as a unit.
use Rattle.std.proofs.Common.{Bool, List, None, Ok, Option, Result, Some, [], ap, append_assoc, arith, cond, false, flat_map, length, map, refl, subst, suc, sym, true, zero, ℕ, ◌++◌, ◌+◌, ◌∙◌, ◌∷◌, ◌≡◌, ◌≤◌}
use Rattle.std.proofs.lemmas.List.{length-append}
use Rattle.idl_lex.specs.declared.kinds.keyword.Keyword.TheVariants as word
use Rattle.idl_lex.specs.declared.kinds.mark.Mark.TheVariants as mark
use Rattle.idl_tree.specs.Construction.{spell_base, spell_case, spell_construction, spell_discriminator, spell_enumeration, spell_label, spell_member, spell_member_type, spell_structure, spell_union}
use Rattle.idl_tree.specs.DataType.{spell_declarator, spell_type}
use Rattle.idl_tree.specs.Lexeme.{Identifier, Lexeme, Lexemes, Punctuation, Word}
use Rattle.idl_tree.specs.reading.ReadConstruction.{all_with, base_at, begins_construction, begins_label, case_with, cases_with, construction_at, construction_with, discriminator_at, enumeration_at, goes_on, label_with, made_case, made_member, made_structure, made_union, member_type_with, member_with, members_with, structure_rest_with, structure_with, union_rest_with, union_with}
use Rattle.idl_tree.specs.reading.ReadExpression.{expression_at}
use Rattle.idl_tree.specs.reading.ReadType.{declarator_with, type_at}
use Rattle.idl_tree.specs.reading.ReadUnit.{declaration_with, ended_with, structure_declaration_with, union_declaration_with, unit_at, unit_with}
use Rattle.idl_tree.specs.reading.Reading.{Reader, expect, first, many_of, ◌>>=◌}
use Rattle.idl_tree.specs.Several.{spell_all}
use Rattle.idl_tree.specs.reading.Tests.{is_mark}
use Rattle.idl_tree.specs.declared.declarations.construction.Case.{Case, roll-Case}
use Rattle.idl_tree.specs.declared.declarations.construction.Construction.{Construction, roll-Construction}
use Rattle.idl_tree.specs.declared.declarations.construction.Construction.TheFolds.{ind-Construction, ind-MemberType, ind-Member, map-Construction, map-MemberType}
use Rattle.idl_tree.specs.declared.declarations.construction.Construction.TheOpen.{Construction-F, MemberType-F}
use Rattle.idl_tree.specs.declared.declarations.construction.Construction.TheVariants.{rolls-Enumeration, rolls-Structure, rolls-Union}
use Rattle.idl_tree.specs.declared.declarations.construction.Construction.TheVariants as construction
use Rattle.idl_tree.specs.declared.declarations.construction.Discriminator.{Discriminator}
use Rattle.idl_tree.specs.declared.declarations.construction.Enumeration.{Enumeration}
use Rattle.idl_tree.specs.declared.declarations.construction.Label.{Label}
use Rattle.idl_tree.specs.declared.declarations.construction.Label.TheVariants as label
use Rattle.idl_tree.specs.declared.declarations.construction.Member.{Member, roll-Member}
use Rattle.idl_tree.specs.declared.declarations.construction.MemberType.{MemberType, roll-MemberType}
use Rattle.idl_tree.specs.declared.declarations.construction.MemberType.TheVariants.{rolls-Construction, rolls-Type}
use Rattle.idl_tree.specs.declared.declarations.construction.MemberType.TheVariants as member_type
use Rattle.idl_tree.specs.declared.declarations.construction.Structure.{Structure, roll-Structure}
use Rattle.idl_tree.specs.declared.declarations.construction.Union.{Union, roll-Union}
use Rattle.idl_tree.specs.declared.declarations.data_type.TypeTree.{TypeTree}
use Rattle.idl_tree.specs.declared.declarations.declarator.Declarator.{Declarator}
use Rattle.idl_tree.specs.declared.name.ScopedName.{ScopedName}
use Rattle.idl_tree.specs.declared.several.Several.{Several}
use Rattle.idl_tree.specs.declared.unit.Tree.{Tree}
use Rattle.idl_tree.specs.declared.unit.Tree.TheVariants as tree
use Rattle.idl_tree.proofs.ReadAgain.Again.{Later, goes_or, neither}
use Rattle.idl_tree.proofs.ReadAgain.AgainParts.{Deep, Reads, many_reads, mapped_reads, nothing, spelled_reads, then_reads}
use Rattle.idl_tree.proofs.Readers.ConstructionLaws.{declarators_at, spell_declarators}
use Rattle.idl_tree.proofs.ConstructionSpelling.{case_some, member_some, spell_case-made, spell_construction-enumeration, spell_construction-structure, spell_construction-union, spell_member-made, spell_member_type-construction, spell_member_type-type, spell_members, spell_structure-made, spell_union-made}
use Rattle.idl_tree.proofs.ReadAgain.ExpressionAgain.{name_again}
use Rattle.idl_tree.proofs.Many.{many_spell}
use Rattle.idl_tree.proofs.ReadAgain.MemberAgain.{declarator_later, declarators_later, discriminator_reads, enumeration_reads, goes_declarator, goes_declarators, goes_labels, labels_later}
use Rattle.idl_tree.proofs.ReadAgain.TypeAgain.{goes_type, is_type_start, type_is_again}
use Rattle.idl_tree.proofs.Readers.UnitLaws.{end, structure_unit, union_unit}

abbrev pub member_type_at : ℕ → Reader MemberType
member_type_at n = member_type_with (type_at n) (construction_at n)

abbrev pub member_at : ℕ → Reader Member
member_at n = member_with (expression_at n) (type_at n) (construction_at n)

abbrev pub case_at : ℕ → Reader Case
case_at n = case_with (expression_at n) (type_at n) (construction_at n)

abbrev pub members_at : ℕ → Reader (List Member)
members_at n = members_with (expression_at n) (type_at n) (construction_at n)

abbrev structure_rest_at : ℕ → List ℕ → Reader Structure
structure_rest_at n = structure_rest_with (expression_at n) (type_at n) (construction_at n)

abbrev cases_at : ℕ → List ℕ → Discriminator → Reader Union
cases_at n = cases_with (expression_at n) (type_at n) (construction_at n)

abbrev union_rest_at : ℕ → List ℕ → Reader Union
union_rest_at n = union_rest_with (expression_at n) (type_at n) (construction_at n)

-- ---- what a member's type begins with

abbrev is_member_start : Option Lexeme → Bool
is_member_start t = cond (begins_construction t) true (is_type_start t)

type_is_no_construction : (t : Option Lexeme) → is_type_start t ≡ true → begins_construction t ≡ false
type_is_no_construction (Some (Word word.Struct)) h = absurd cc
type_is_no_construction (Some (Word word.Union)) h = absurd cc
type_is_no_construction (Some (Word word.Enum)) h = absurd cc
type_is_no_construction _ h = refl

type_is_member : (t : Option Lexeme) → is_type_start t ≡ true → is_member_start t ≡ true
type_is_member t h = rw (type_is_no_construction t h) h

construction_is_member : (t : Option Lexeme) → begins_construction t ≡ true → is_member_start t ≡ true
construction_is_member t h = rw h refl

member_goes_on : (t : Option Lexeme) → is_member_start t ≡ true → goes_on t ≡ true
member_goes_on (Some (Punctuation mark.CloseBrace)) h = absurd cc
member_goes_on _ h = refl

member_is_no_label : (t : Option Lexeme) → is_member_start t ≡ true → goes_labels t ≡ false
member_is_no_label (Some (Word word.Case)) h = absurd cc
member_is_no_label (Some (Word word.Default)) h = absurd cc
member_is_no_label _ h = refl

-- ---- the claims by which the induction goes

pub record IsConstructionAgain (c : Construction) : Type 0 where
  pub starts : (rest : Lexemes) → begins_construction (first (spell_construction c ++ rest)) ≡ true
  pub again : Later nothing spell_construction (λ n. construction_at (suc n)) c
  pub unit : (n : ℕ) → length (spell_construction c) ≤ n → Reads nothing (spell_construction c ++ end) (unit_at n) (tree.Construction c)

pub record IsMemberTypeAgain (t : MemberType) : Type 0 where
  pub starts : (rest : Lexemes) → is_member_start (first (spell_member_type t ++ rest)) ≡ true
  pub again : Later goes_type spell_member_type (λ n. member_type_at (suc n)) t

abbrev pub IsMemberAgain : Member → Type 0
IsMemberAgain = Deep nothing goes_on spell_member (λ n. member_at (suc n))

abbrev pub IsCaseAgain : Case → Type 0
IsCaseAgain = Deep nothing goes_on spell_case (λ n. case_at (suc n))

pub record IsStructureAgain (s : Structure) : Type 0 where
  pub name : List ℕ
  pub body : Lexemes
  pub is : spell_structure s ≡ Word word.Struct ∷ Identifier name ∷ body
  pub goes : (rest : Lexemes) → is_mark mark.Semicolon (first (body ++ rest)) ≡ false
  pub again : (n : ℕ) → length (spell_structure s) ≤ n → Reads nothing body (structure_rest_at n name) s

pub record IsUnionAgain (u : Union) : Type 0 where
  pub name : List ℕ
  pub body : Lexemes
  pub is : spell_union u ≡ Word word.Union ∷ Identifier name ∷ Word word.Switch ∷ body
  pub again : (n : ℕ) → length (spell_union u) ≤ n → Reads nothing (Word word.Switch ∷ body) (union_rest_at n name) u

-- ---- members and cases

type_member_is_again : (t : TypeTree) → IsMemberTypeAgain (member_type.Type t)
unfolding member_type_with
type_member_is_again t = record {
  starts = λ rest. ap (λ (w : Lexemes). is_member_start (first (w ++ rest))) (spell_member_type-type t) ∙ type_is_member (first (spell_type t ++ rest)) ((type_is_again t).starts rest);
  again = λ n le. spelled_reads goes_type (spell_member_type (member_type.Type t)) (spell_type t) (member_type_at (suc n)) (member_type.Type t) (spell_member_type-type t)
      (λ rest h. rw (type_is_no_construction (first (spell_type t ++ rest)) ((type_is_again t).starts rest))
      (mapped_reads goes_type (spell_type t) (type_at (suc n)) member_type.Type t ((type_is_again t).again n (omega (arith, le, ap length (spell_member_type-type t)))) rest h));
}

construction_member_is_again : (c : Construction) → IsConstructionAgain c → IsMemberTypeAgain (member_type.Construction c)
unfolding member_type_with
construction_member_is_again c is = record {
  starts = λ rest. ap (λ (w : Lexemes). is_member_start (first (w ++ rest))) (spell_member_type-construction c) ∙ construction_is_member (first (spell_construction c ++ rest)) (is.starts rest);
  again = λ n le. spelled_reads goes_type (spell_member_type (member_type.Construction c)) (spell_construction c) (member_type_at (suc n)) (member_type.Construction c) (spell_member_type-construction c)
      (λ rest h. rw (is.starts rest)
      (mapped_reads nothing (spell_construction c) (construction_at (suc n)) member_type.Construction c (is.again n (omega (arith, le, ap length (spell_member_type-construction c)))) rest refl));
}

abbrev spell_member_rest : Several Declarator → Lexemes
spell_member_rest ds = spell_declarators ds ++ end

member_is_again : (t : MemberType) (ds : Several Declarator) → IsMemberTypeAgain t → IsMemberAgain (made_member t ds)
unfolding member_with
member_is_again t ds is =
    let spelled = spell_member-made t ds in
    let starts : (rest : Lexemes) → is_member_start (first (spell_member (made_member t ds) ++ rest)) ≡ true = λ rest.
    ap (λ (w : Lexemes). is_member_start (first (w ++ rest))) spelled ∙ ap (λ (w : Lexemes). is_member_start (first w)) (append_assoc (spell_member_type t) (spell_member_rest ds) rest) ∙ is.starts (spell_member_rest ds ++ rest) in (
      record {
        passes = λ rest. member_goes_on (first (spell_member (made_member t ds) ++ rest)) (starts rest);
        stops = λ rest. refl;
        some = member_some (made_member t ds);
      },
      λ n le.
          let sum = ap length spelled ∙ length-append (spell_member_type t) (spell_member_rest ds) in
          let sum2 = length-append (spell_declarators ds) end in
          spelled_reads nothing (spell_member (made_member t ds)) (spell_member_type t ++ spell_member_rest ds) (member_at (suc n)) (made_member t ds) spelled
          (then_reads goes_type nothing (spell_member_type t) (spell_member_rest ds) (member_type_at (suc n)) (λ t ts. declarators_at expression_at (suc n) ts >>= λ ds. expect (is_mark mark.Semicolon) ds.1 >>= λ r. Ok (made_member t ds.0, r)) t (made_member t ds)
          (is.again n (omega (arith, le, sum)))
          (then_reads goes_declarators nothing (spell_declarators ds) end (declarators_at expression_at (suc n)) (λ ds ts. expect (is_mark mark.Semicolon) ts >>= λ r. Ok (made_member t ds, r)) ds (made_member t ds)
          (declarators_later ds (suc n) (omega (arith, le, sum, sum2))) (λ rest h. refl) (λ rest h. refl))
          (λ rest h. refl)),
    )

abbrev spell_case_rest : Declarator → Lexemes
spell_case_rest d = spell_declarator d ++ end

case_is_again : (ls : Several Label) (t : MemberType) (d : Declarator) → IsMemberTypeAgain t → IsCaseAgain (made_case ls t d)
unfolding case_with
case_is_again ls t d is =
    let spelled = spell_case-made ls t d in
    let tail : Lexemes = spell_member_type t ++ spell_case_rest d in (
      record {
        passes = λ rest. ap (λ (w : Lexemes). goes_on (first (w ++ rest))) spelled ∙ label_first ls.first (flat_map spell_label ls.rest) tail rest;
        stops = λ rest. refl;
        some = case_some (made_case ls t d);
      },
      λ n le.
          let sum = ap length spelled ∙ length-append (spell_all spell_label ls) tail in
          let sum2 = length-append (spell_member_type t) (spell_case_rest d) in
          let sum3 = length-append (spell_declarator d) end in
          spelled_reads nothing (spell_case (made_case ls t d)) (spell_all spell_label ls ++ tail) (case_at (suc n)) (made_case ls t d) spelled
          (then_reads goes_labels nothing (spell_all spell_label ls) tail (all_with begins_label (label_with (expression_at (suc n))))
          (λ ls ts. member_type_at (suc n) ts >>= λ t. declarator_with (expression_at (suc n)) t.1 >>= λ d. expect (is_mark mark.Semicolon) d.1 >>= λ r. Ok (made_case ls t.0 d.0, r)) ls (made_case ls t d)
          (labels_later ls (suc n) (omega (arith, le, sum)))
          (then_reads goes_type nothing (spell_member_type t) (spell_case_rest d) (member_type_at (suc n)) (λ t ts. declarator_with (expression_at (suc n)) ts >>= λ d. expect (is_mark mark.Semicolon) d.1 >>= λ r. Ok (made_case ls t d.0, r)) t (made_case ls t d)
          (is.again n (omega (arith, le, sum, sum2)))
          (then_reads goes_declarator nothing (spell_declarator d) end (declarator_with (expression_at (suc n))) (λ d ts. expect (is_mark mark.Semicolon) ts >>= λ r. Ok (made_case ls t d, r)) d (made_case ls t d)
          (declarator_later d (suc n) (omega (arith, le, sum, sum2, sum3))) (λ rest h. refl) (λ rest h. refl))
          (λ rest h. refl))
          (λ rest h. ap (λ (w : Lexemes). goes_labels (first w)) (append_assoc (spell_member_type t) (spell_case_rest d) rest)
          ∙ member_is_no_label (first (spell_member_type t ++ (spell_case_rest d ++ rest))) (is.starts (spell_case_rest d ++ rest)))),
    )
  where
    label_first : (l : Label) (ls tail rest : Lexemes) → goes_on (first (((spell_label l ++ ls) ++ tail) ++ rest)) ≡ true
    label_first (label.Case e) ls tail rest = refl
    label_first label.Default ls tail rest = refl

-- ---- structs

abbrev Such : {X : Type 0} → (X → Type 0) → Type 0
Such {X} claim = (x : X) × claim x

abbrev members_of : List (Such IsMemberAgain) → List Member
members_of ms = map (λ m. m.0) ms

-- the braces around members that are read again
pub members_read : (ms : List Member) (n : ℕ) → Reads (goes_or goes_on nothing) (many_spell spell_member ms) (many_of goes_on (member_at n)) ms → Reads nothing (spell_members ms) (members_at n) ms
unfolding members_with
members_read ms n reads rest h =
    then_reads (goes_or goes_on nothing) nothing (many_spell spell_member ms) (Punctuation mark.CloseBrace ∷ []) (many_of goes_on (member_at n)) (λ ms ts. expect (is_mark mark.CloseBrace) ts >>= λ r. Ok (ms, r)) ms ms
    reads (λ rest h. refl) (λ rest h. refl) rest refl

abbrev goes_base : Option Lexeme → Bool
goes_base = goes_or (is_mark mark.Colon) (is_mark mark.ColonColon)

base_reads : (b : Option ScopedName) → Reads goes_base (spell_base b) base_at b
unfolding base_at
base_reads None rest h = rw (neither (is_mark mark.Colon (first rest)) (is_mark mark.ColonColon (first rest)) h).0 refl
base_reads (Some n) rest h =
    ap (λ (o : Result (ScopedName × Lexemes) ℕ). o >>= λ n. Ok (Some n.0, n.1)) (name_again n rest (neither (is_mark mark.Colon (first rest)) (is_mark mark.ColonColon (first rest)) h).1)

some_members_read : (ms : List (Such IsMemberAgain)) (n : ℕ) → length (spell_members (members_of ms)) ≤ n → Reads nothing (spell_members (members_of ms)) (members_at n) (members_of ms)
some_members_read ms zero le = absurd (omega (arith, le))
some_members_read ms (suc n) le =
    let sum = length-append (many_spell spell_member (members_of ms)) (Punctuation mark.CloseBrace ∷ []) in
    members_read (members_of ms) (suc n) (many_reads nothing goes_on spell_member (λ n. member_at (suc n)) ms n (omega (arith, le, sum)))

structure_direct : (name : List ℕ) (b : Option ScopedName) (ms : List (Such IsMemberAgain)) (n : ℕ) → 2 + length (spell_base b ++ spell_members (members_of ms)) ≤ n
    → Reads nothing (spell_base b ++ spell_members (members_of ms)) (structure_rest_at n name) (made_structure name b (members_of ms))
unfolding structure_rest_with
structure_direct name b ms n le =
    let spelled : Lexemes = spell_members (members_of ms) in
    then_reads goes_base nothing (spell_base b) spelled base_at (λ b ts. members_at n ts >>= λ ms. Ok (made_structure name b ms.0, ms.1)) b (made_structure name b (members_of ms)) (base_reads b)
    (mapped_reads nothing spelled (members_at n) (made_structure name b) (members_of ms) (some_members_read ms n (omega (arith, le, length-append (spell_base b) spelled)))) (λ rest h. refl)

structure_goes : (b : Option ScopedName) (ms : List Member) (rest : Lexemes) → is_mark mark.Semicolon (first ((spell_base b ++ spell_members ms) ++ rest)) ≡ false
structure_goes None ms rest = refl
structure_goes (Some n) ms rest = refl

structure_is_again : (name : List ℕ) (b : Option ScopedName) (ms : List (Such IsMemberAgain)) → IsStructureAgain (made_structure name b (members_of ms))
structure_is_again name b ms =
    let is = spell_structure-made name b (members_of ms) in
    record { name = name; body = spell_base b ++ spell_members (members_of ms); is = is; goes = structure_goes b (members_of ms); again = λ n le. structure_direct name b ms n (omega (arith, le, ap length is)) }

-- ---- unions

abbrev cases_of : List (Such IsCaseAgain) → List Case
cases_of cs = map (λ c. c.0) cs

cases_direct : (name : List ℕ) (x : Discriminator) (c : Such IsCaseAgain) (cs : List (Such IsCaseAgain)) (n : ℕ) → 2 + length (spell_case c.0 ++ (many_spell spell_case (cases_of cs) ++ Punctuation mark.CloseBrace ∷ [])) ≤ n
    → Reads nothing (Punctuation mark.OpenBrace ∷ (spell_case c.0 ++ (many_spell spell_case (cases_of cs) ++ Punctuation mark.CloseBrace ∷ []))) (cases_at n name x) (made_union name x c.0 (cases_of cs))
unfolding cases_with
cases_direct name x c cs zero le rest h = absurd (omega (arith, le))
cases_direct name x c cs (suc n) le rest h =
    let more : Lexemes = many_spell spell_case (cases_of cs) in
    let brace : Lexemes = Punctuation mark.CloseBrace ∷ [] in
    let sum = length-append (spell_case c.0) (more ++ brace) in
    let sum2 = length-append more brace in
    then_reads nothing nothing (spell_case c.0) (more ++ brace) (case_at (suc n)) (λ c ts. many_of goes_on (case_at (suc n)) ts >>= λ cs. expect (is_mark mark.CloseBrace) cs.1 >>= λ r. Ok (made_union name x c cs.0, r)) c.0 (made_union name x c.0 (cases_of cs))
    (c.1.1 n (omega (arith, le, sum)))
    (then_reads (goes_or goes_on nothing) nothing more brace (many_of goes_on (case_at (suc n))) (λ cs ts. expect (is_mark mark.CloseBrace) ts >>= λ r. Ok (made_union name x c.0 cs, r)) (cases_of cs) (made_union name x c.0 (cases_of cs))
    (many_reads nothing goes_on spell_case (λ n. case_at (suc n)) cs n (omega (arith, le, sum, sum2))) (λ rest h. refl) (λ rest h. refl))
    (λ rest h. refl) rest refl

abbrev spell_cases_of : Such IsCaseAgain → List (Such IsCaseAgain) → Lexemes
spell_cases_of c cs = Punctuation mark.OpenBrace ∷ (spell_case c.0 ++ (many_spell spell_case (cases_of cs) ++ Punctuation mark.CloseBrace ∷ []))

abbrev union_body : Discriminator → Such IsCaseAgain → List (Such IsCaseAgain) → Lexemes
union_body x c cs = Punctuation mark.OpenParenthesis ∷ (spell_discriminator x ++ (Punctuation mark.CloseParenthesis ∷ spell_cases_of c cs))

union_direct : (name : List ℕ) (x : Discriminator) (c : Such IsCaseAgain) (cs : List (Such IsCaseAgain)) (n : ℕ) → 3 + length (union_body x c cs) ≤ n
    → Reads nothing (Word word.Switch ∷ union_body x c cs) (union_rest_at n name) (made_union name x c.0 (cases_of cs))
unfolding union_rest_with
union_direct name x c cs n le rest h =
    let sum = length-append (spell_discriminator x) (Punctuation mark.CloseParenthesis ∷ spell_cases_of c cs) in
    then_reads goes_type nothing (spell_discriminator x) (Punctuation mark.CloseParenthesis ∷ spell_cases_of c cs) discriminator_at (λ x ts. expect (is_mark mark.CloseParenthesis) ts >>= λ r. cases_at n name x r) x (made_union name x c.0 (cases_of cs))
    (discriminator_reads x) (λ rest h. cases_direct name x c cs n (omega (arith, le, sum)) rest refl) (λ rest h. refl) rest refl

union_is_again : (name : List ℕ) (x : Discriminator) (c : Such IsCaseAgain) (cs : List (Such IsCaseAgain)) → IsUnionAgain (made_union name x c.0 (cases_of cs))
union_is_again name x c cs =
    let is = spell_union-made name x c.0 (cases_of cs) in
    record { name = name; body = union_body x c cs; is = is; again = λ n le. union_direct name x c cs n (omega (arith, le, ap length is)) }

-- ---- constructions

-- a declaration and its semicolon
pub ended_reads : {A : Type 0} (goes : Option Lexeme → Bool) (make : A → Tree) (s : Lexemes) (r : Reader A) (a : A) → goes (Some (Punctuation mark.Semicolon)) ≡ false → Reads goes s r a
    → Reads nothing (s ++ end) (ended_with (λ ts. r ts >>= λ x. Ok (make x.0, x.1))) (make a)
unfolding ended_with
ended_reads goes make s r a quiet reads =
    then_reads goes nothing s end (λ ts. r ts >>= λ x. Ok (make x.0, x.1)) (λ t ts. expect (is_mark mark.Semicolon) ts >>= λ rest. Ok (t, rest)) (make a) (make a) (mapped_reads goes s r make a reads) (λ rest h. refl) (λ rest h. quiet)

construction_of_structure : (s : Structure) → IsStructureAgain s → IsConstructionAgain (construction.Structure s)
unfolding construction_at construction_with structure_with unit_at unit_with ended_with declaration_with structure_declaration_with
construction_of_structure s is =
    let c : Construction = construction.Structure s in
    let spelled = spell_construction-structure s ∙ is.is in
    let shown = ap length (spell_construction-structure s) in
    record {
      starts = λ rest. ap (λ (w : Lexemes). begins_construction (first (w ++ rest))) spelled;
      again = λ n le. spelled_reads nothing (spell_construction c) (Word word.Struct ∷ Identifier is.name ∷ is.body) (construction_at (suc n)) c spelled
          (mapped_reads nothing is.body (structure_rest_at n is.name) construction.Structure s (is.again n (omega (arith, le, shown))));
      unit = λ n le. spelled_reads nothing (spell_construction c ++ end) (Word word.Struct ∷ Identifier is.name ∷ (is.body ++ end)) (unit_at n) (tree.Construction c) (ap (λ (w : Lexemes). w ++ end) spelled)
          (λ rest h. rw (ap (λ (w : Lexemes). is_mark mark.Semicolon (first w)) (append_assoc is.body end rest) ∙ is.goes (end ++ rest))
          (ended_reads nothing structure_unit is.body (structure_rest_at n is.name) s refl (is.again n (omega (arith, le, shown))) rest refl));
    }

construction_of_union : (u : Union) → IsUnionAgain u → IsConstructionAgain (construction.Union u)
unfolding construction_at construction_with union_with unit_at unit_with ended_with declaration_with union_declaration_with
construction_of_union u is =
    let c : Construction = construction.Union u in
    let spelled = spell_construction-union u ∙ is.is in
    record {
      starts = λ rest. ap (λ (w : Lexemes). begins_construction (first (w ++ rest))) spelled;
      again = λ n le. spelled_reads nothing (spell_construction c) (Word word.Union ∷ Identifier is.name ∷ Word word.Switch ∷ is.body) (construction_at (suc n)) c spelled
          (mapped_reads nothing (Word word.Switch ∷ is.body) (union_rest_at n is.name) construction.Union u (is.again n (omega (arith, le, ap length (spell_construction-union u)))));
      unit = λ n le. spelled_reads nothing (spell_construction c ++ end) (Word word.Union ∷ Identifier is.name ∷ Word word.Switch ∷ (is.body ++ end)) (unit_at n) (tree.Construction c) (ap (λ (w : Lexemes). w ++ end) spelled)
          (ended_reads nothing union_unit (Word word.Switch ∷ is.body) (union_rest_at n is.name) u refl (is.again n (omega (arith, le, ap length (spell_construction-union u)))));
    }

construction_of_enumeration : (e : Enumeration) → IsConstructionAgain (construction.Enumeration e)
unfolding construction_at construction_with unit_at unit_with ended_with declaration_with
construction_of_enumeration e =
    let c : Construction = construction.Enumeration e in
    let spelled = spell_construction-enumeration e in
    record {
      starts = λ rest. ap (λ (w : Lexemes). begins_construction (first (w ++ rest))) spelled;
      again = λ n le. spelled_reads nothing (spell_construction c) (spell_enumeration e) (construction_at (suc n)) c spelled
          (mapped_reads nothing (spell_enumeration e) enumeration_at construction.Enumeration e (enumeration_reads e));
      unit = λ n le. spelled_reads nothing (spell_construction c ++ end) (spell_enumeration e ++ end) (unit_at n) (tree.Construction c) (ap (λ (w : Lexemes). w ++ end) spelled)
          (ended_reads nothing (λ e. tree.Construction (construction.Enumeration e)) (spell_enumeration e) enumeration_at e refl (enumeration_reads e));
    }

by_construction : (y : Construction-F (Such IsConstructionAgain) (Such IsMemberTypeAgain) (Such IsCaseAgain) (Such IsMemberAgain) (Such IsStructureAgain) (Such IsUnionAgain))
    → IsConstructionAgain (roll-Construction (map-Construction (Such IsConstructionAgain) (Such IsMemberTypeAgain) (Such IsCaseAgain) (Such IsMemberAgain) (Such IsStructureAgain) (Such IsUnionAgain)
    Construction MemberType Case Member Structure Union (λ e. e.0) (λ e. e.0) (λ e. e.0) (λ e. e.0) (λ e. e.0) (λ e. e.0) y))
by_construction (Construction-F.Structure s) = subst IsConstructionAgain (sym (rolls-Structure s.0)) (construction_of_structure s.0 s.1)
by_construction (Construction-F.Union u) = subst IsConstructionAgain (sym (rolls-Union u.0)) (construction_of_union u.0 u.1)
by_construction (Construction-F.Enumeration e) = subst IsConstructionAgain (sym (rolls-Enumeration e)) (construction_of_enumeration e)

by_member_type : (y : MemberType-F (Such IsConstructionAgain) (Such IsMemberTypeAgain) (Such IsCaseAgain) (Such IsMemberAgain) (Such IsStructureAgain) (Such IsUnionAgain))
    → IsMemberTypeAgain (roll-MemberType (map-MemberType (Such IsConstructionAgain) (Such IsMemberTypeAgain) (Such IsCaseAgain) (Such IsMemberAgain) (Such IsStructureAgain) (Such IsUnionAgain)
    Construction MemberType Case Member Structure Union (λ e. e.0) (λ e. e.0) (λ e. e.0) (λ e. e.0) (λ e. e.0) (λ e. e.0) y))
by_member_type (MemberType-F.Type t) = subst IsMemberTypeAgain (sym (rolls-Type t)) (type_member_is_again t)
by_member_type (MemberType-F.Construction c) = subst IsMemberTypeAgain (sym (rolls-Construction c.0)) (construction_member_is_again c.0 c.1)

pub construction_is_again : (c : Construction) → IsConstructionAgain c
construction_is_again = ind-Construction IsConstructionAgain IsMemberTypeAgain IsCaseAgain IsMemberAgain IsStructureAgain IsUnionAgain
    (λ x y is. subst (λ z. IsConstructionAgain (roll-Construction z)) is (by_construction y))
    (λ x y is. subst (λ z. IsMemberTypeAgain (roll-MemberType z)) is (by_member_type y))
    (λ x y is. subst (λ z. IsCaseAgain (roll-Case z)) is (case_is_again y.labels y.kind.0 y.declarator y.kind.1))
    (λ x y is. subst (λ z. IsMemberAgain (roll-Member z)) is (member_is_again y.kind.0 y.declarators y.kind.1))
    (λ x y is. subst (λ z. IsStructureAgain (roll-Structure z)) is (structure_is_again y.name y.base y.members))
    (λ x y is. subst (λ z. IsUnionAgain (roll-Union z)) is (union_is_again y.name y.discriminator y.first y.rest))

pub member_type_is_again : (t : MemberType) → IsMemberTypeAgain t
member_type_is_again = ind-MemberType IsConstructionAgain IsMemberTypeAgain IsCaseAgain IsMemberAgain IsStructureAgain IsUnionAgain
    (λ x y is. subst (λ z. IsConstructionAgain (roll-Construction z)) is (by_construction y))
    (λ x y is. subst (λ z. IsMemberTypeAgain (roll-MemberType z)) is (by_member_type y))
    (λ x y is. subst (λ z. IsCaseAgain (roll-Case z)) is (case_is_again y.labels y.kind.0 y.declarator y.kind.1))
    (λ x y is. subst (λ z. IsMemberAgain (roll-Member z)) is (member_is_again y.kind.0 y.declarators y.kind.1))
    (λ x y is. subst (λ z. IsStructureAgain (roll-Structure z)) is (structure_is_again y.name y.base y.members))
    (λ x y is. subst (λ z. IsUnionAgain (roll-Union z)) is (union_is_again y.name y.discriminator y.first y.rest))

pub member_again : (m : Member) → IsMemberAgain m
member_again = ind-Member IsConstructionAgain IsMemberTypeAgain IsCaseAgain IsMemberAgain IsStructureAgain IsUnionAgain
    (λ x y is. subst (λ z. IsConstructionAgain (roll-Construction z)) is (by_construction y))
    (λ x y is. subst (λ z. IsMemberTypeAgain (roll-MemberType z)) is (by_member_type y))
    (λ x y is. subst (λ z. IsCaseAgain (roll-Case z)) is (case_is_again y.labels y.kind.0 y.declarator y.kind.1))
    (λ x y is. subst (λ z. IsMemberAgain (roll-Member z)) is (member_is_again y.kind.0 y.declarators y.kind.1))
    (λ x y is. subst (λ z. IsStructureAgain (roll-Structure z)) is (structure_is_again y.name y.base y.members))
    (λ x y is. subst (λ z. IsUnionAgain (roll-Union z)) is (union_is_again y.name y.discriminator y.first y.rest))
