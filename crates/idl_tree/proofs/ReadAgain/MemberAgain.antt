-- What members are made of is read again: declared names, labels, discriminators, enums.
-- ---- declared names
use Rattle.std.proofs.Common.{Bool, List, None, Ok, Option, Result, [], ap, arith, false, flat_map, length, refl, true, ℕ, ◌++◌, ◌∙◌, ◌∷◌, ◌≡◌}
use Rattle.std.proofs.lemmas.List.{length-append}
use Rattle.idl_lex.specs.declared.kinds.keyword.Keyword.{Keyword}
use Rattle.idl_lex.specs.declared.kinds.mark.Mark.TheVariants as mark
use Rattle.idl_tree.specs.Construction.{spell_discriminator, spell_enumeration, spell_label}
use Rattle.idl_tree.specs.DataType.{spell_declarator, spell_discrete, spell_length}
use Rattle.idl_tree.specs.Expression.{spell_expression}
use Rattle.idl_tree.specs.Lexeme.{Identifier, Lexeme, Lexemes, Punctuation}
use Rattle.idl_tree.specs.Name.{spell_name}
use Rattle.idl_tree.specs.reading.ReadConstruction.{all_with, begins_label, discriminator_at, discriminator_by, enumerated, enumeration_at, label_with, listed_with}
use Rattle.idl_tree.specs.reading.ReadExpression.{expression_at}
use Rattle.idl_tree.specs.reading.ReadType.{declarator_with, declared, discrete_at, length_with}
use Rattle.idl_tree.specs.reading.Reading.{Reader, expect, first, many_of, ◌>>=◌}
use Rattle.idl_tree.specs.Several.{spell_all, spell_listed}
use Rattle.idl_tree.specs.reading.Tests.{identifier_at, is_mark, keyword_of}
use Rattle.idl_tree.specs.declared.declarations.construction.Discriminator.{Discriminator}
use Rattle.idl_tree.specs.declared.declarations.construction.Discriminator.TheVariants as discriminator
use Rattle.idl_tree.specs.declared.declarations.construction.Enumeration.{Enumeration}
use Rattle.idl_tree.specs.declared.declarations.construction.Label.{Label}
use Rattle.idl_tree.specs.declared.declarations.construction.Label.TheVariants as label
use Rattle.idl_tree.specs.declared.declarations.data_type.DiscreteType.{DiscreteType}
use Rattle.idl_tree.specs.declared.declarations.declarator.Declarator.{Declarator}
use Rattle.idl_tree.specs.declared.expression.Expression.{Expression}
use Rattle.idl_tree.specs.declared.name.ScopedName.{ScopedName}
use Rattle.idl_tree.specs.declared.several.Several.{Several}
use Rattle.idl_tree.proofs.ReadAgain.Again.{Later, Opens, goes_or}
use Rattle.idl_tree.proofs.ReadAgain.AgainParts.{Deep, Reads, all_read, listed_reads, mapped_reads, nothing, several_read, spelled_reads, then_reads}
use Rattle.idl_tree.proofs.Readers.ConstructionLaws.{declarators_at, spell_declarators}
use Rattle.idl_tree.proofs.ReadAgain.ExpressionAgain.{goes_expression, name_again}
use Rattle.idl_tree.proofs.Many.{many_spell}
use Rattle.idl_tree.proofs.Readers.NameLaws.{flat_map-many, named}
use Rattle.idl_tree.proofs.Readers.TokenLaws.{one_token}
use Rattle.idl_tree.proofs.ReadAgain.TypeAgain.{discrete_reads, discrete_words, expression_reads, goes_type, is_discrete_word, type_stops}

abbrev pub goes_declarator : Option Lexeme → Bool
goes_declarator = goes_or (is_mark mark.OpenBracket) nothing

length_deep : (e : Expression) → Deep nothing (is_mark mark.OpenBracket) spell_length (λ n. length_with (expression_at n)) e
unfolding length_with
length_deep e = (
  record { passes = λ rest. refl; stops = λ rest. refl; some = omega arith },
  λ n le rest h. then_reads goes_expression nothing (spell_expression e) (Punctuation mark.CloseBracket ∷ []) (expression_at n) (λ e ts. expect (is_mark mark.CloseBracket) ts >>= λ r. Ok (e, r)) e e
      (expression_reads e n (omega (arith, le, length-append (spell_expression e) (Punctuation mark.CloseBracket ∷ [])))) (λ rest h. refl) (λ rest h. refl) rest refl,
)

pub declarator_later : (d : Declarator) → Later goes_declarator spell_declarator (λ n. declarator_with (expression_at n)) d
unfolding declarator_with
declarator_later d n le rest h =
    let many : Reader (List Expression) = many_of (is_mark mark.OpenBracket) (length_with (expression_at n)) in
    let same_lengths = flat_map-many spell_length d.lengths in
    mapped_reads goes_declarator (flat_map spell_length d.lengths) many (declared d.name) d.lengths
    (spelled_reads goes_declarator (flat_map spell_length d.lengths) (many_spell spell_length d.lengths) many d.lengths same_lengths
    (all_read nothing (is_mark mark.OpenBracket) spell_length (λ n. length_with (expression_at n)) length_deep d.lengths n (omega (arith, le, ap length same_lengths)))) rest h

abbrev pub goes_declarators : Option Lexeme → Bool
goes_declarators = goes_or (is_mark mark.Comma) goes_declarator

pub declarators_later : (ds : Several Declarator) → Later goes_declarators spell_declarators (declarators_at expression_at) ds
declarators_later = listed_reads goes_declarator spell_declarator (λ n. declarator_with (expression_at n)) refl declarator_later

-- ---- labels

abbrev pub goes_labels : Option Lexeme → Bool
goes_labels = goes_or begins_label nothing

label_opens : (l : Label) → Opens nothing begins_label spell_label l
label_opens (label.Case e) = record { passes = λ rest. refl; stops = λ rest. refl; some = omega arith }
label_opens label.Default = record { passes = λ rest. refl; stops = λ rest. refl; some = omega arith }

label_later : (l : Label) → Later nothing spell_label (λ n. label_with (expression_at n)) l
unfolding label_with
label_later (label.Case e) n le rest h =
    then_reads goes_expression nothing (spell_expression e) (Punctuation mark.Colon ∷ []) (expression_at n) (λ e ts. expect (is_mark mark.Colon) ts >>= λ r. Ok (label.Case e, r)) e (label.Case e)
    (expression_reads e n (omega (arith, le, length-append (spell_expression e) (Punctuation mark.Colon ∷ [])))) (λ rest h. refl) (λ rest h. refl) rest refl
label_later label.Default n le rest h = refl

pub labels_later : (ls : Several Label) → Later goes_labels (spell_all spell_label) (λ n. all_with begins_label (label_with (expression_at n))) ls
labels_later = several_read nothing begins_label spell_label (λ n. label_with (expression_at n)) (λ l. (label_opens l, label_later l))

-- ---- discriminators

discriminator_name : (b : Bool) (s : List ℕ) (ss : List (List ℕ)) (rest : Lexemes) → is_mark mark.ColonColon (first rest) ≡ false
    → discriminator_at (spell_name (named b s ss) ++ rest) ≡ Ok (discriminator.Name (named b s ss), rest)
unfolding discriminator_at
discriminator_name true s ss rest h = ap (λ (o : Result (ScopedName × Lexemes) ℕ). o >>= λ n. Ok (discriminator.Name n.0, n.1)) (name_again (named true s ss) rest h)
discriminator_name false s ss rest h = ap (λ (o : Result (ScopedName × Lexemes) ℕ). o >>= λ n. Ok (discriminator.Name n.0, n.1)) (name_again (named false s ss) rest h)

abbrev as_discriminator : Result (DiscreteType × Lexemes) ℕ → Result (Discriminator × Lexemes) ℕ
as_discriminator o = o >>= λ d. Ok (discriminator.Discrete d.0, d.1)

discriminator_by_discrete : (k : Option Keyword) → is_discrete_word k ≡ true → (ts : Lexemes) → discriminator_by k ts ≡ as_discriminator (discrete_at ts)
discriminator_by_discrete None h ts = absurd cc
discriminator_by_discrete _ h ts = refl

discriminator_discrete : (d : DiscreteType) (rest : Lexemes) → discriminator_at (spell_discrete d ++ rest) ≡ as_discriminator (discrete_at (spell_discrete d ++ rest))
unfolding discriminator_at
discriminator_discrete d rest = discriminator_by_discrete (keyword_of (first (spell_discrete d ++ rest))) (discrete_words d rest) (spell_discrete d ++ rest)

pub discriminator_reads : (x : Discriminator) → Reads goes_type (spell_discriminator x) discriminator_at x
discriminator_reads (discriminator.Name m) rest h = discriminator_name m.is_global m.first m.rest rest (type_stops (first rest) h).name
discriminator_reads (discriminator.Discrete d) rest h = discriminator_discrete d rest ∙ ap as_discriminator (discrete_reads d rest h)

-- ---- enums

pub enumeration_reads : (e : Enumeration) → Reads nothing (spell_enumeration e) enumeration_at e
unfolding enumeration_at
enumeration_reads e rest h =
    let spell_names : Lexemes = spell_listed (one_token Identifier) e.enumerators in
    then_reads (goes_or (is_mark mark.Comma) nothing) nothing spell_names (Punctuation mark.CloseBrace ∷ []) (listed_with identifier_at) (λ ids ts. expect (is_mark mark.CloseBrace) ts >>= λ r. Ok (enumerated e.name ids, r)) e.enumerators e
    (listed_reads nothing (one_token Identifier) (λ n. identifier_at) refl (λ name n le rest h. refl) e.enumerators (length spell_names) (omega arith)) (λ rest h. refl) (λ rest h. refl) rest refl
