-- What holds of the readers of members and cases.
use Rattle.std.proofs.Common.{◌≡◌, ℕ, suc, ◌<◌, Bool, cond, List, [], ◌∷◌, ◌++◌, length, Option, refl, ap, arith, ◌⊎◌, inl, inr, None}
use Rattle.idl_lex.specs.declared.kinds.keyword.Keyword.{Keyword}
use Rattle.idl_lex.specs.declared.kinds.keyword.Keyword.TheVariants as word
use Rattle.idl_lex.specs.declared.kinds.mark.Mark.TheVariants as mark
use Rattle.idl_tree.specs.Construction.{spell_discriminator, spell_label, spell_construction, spell_member_type, spell_case, spell_member}
use Rattle.idl_tree.specs.DataType.{spell_discrete, spell_type, spell_declarator}
use Rattle.idl_tree.specs.Expression.{spell_expression}
use Rattle.idl_tree.specs.Lexeme.{Lexeme, Lexemes, Word, Punctuation}
use Rattle.idl_tree.specs.Name.{spell_name}
use Rattle.idl_tree.specs.reading.ReadConstruction.{several, listed_with, all_with, discriminator_by, discriminator_at, begins_label, label_with, begins_construction, member_type_with, made_member, made_case, member_with, case_with}
use Rattle.idl_tree.specs.reading.ReadName.{name_at}
use Rattle.idl_tree.specs.reading.ReadType.{discrete_at, declarator_with}
use Rattle.idl_tree.specs.reading.Reading.{Reader, first, many_of}
use Rattle.idl_tree.specs.Several.{spell_listed, spell_all}
use Rattle.idl_tree.specs.reading.Tests.{is_word, keyword_of}
use Rattle.idl_tree.specs.declared.declarations.construction.Construction.{Construction}
use Rattle.idl_tree.specs.declared.declarations.construction.Discriminator.TheVariants as discriminator
use Rattle.idl_tree.specs.declared.declarations.construction.Label.{Label}
use Rattle.idl_tree.specs.declared.declarations.construction.Label.TheVariants as label
use Rattle.idl_tree.specs.declared.declarations.construction.MemberType.{MemberType}
use Rattle.idl_tree.specs.declared.declarations.construction.MemberType.TheVariants as member_type
use Rattle.idl_tree.specs.declared.declarations.data_type.TypeTree.{TypeTree}
use Rattle.idl_tree.specs.declared.declarations.declarator.Declarator.{Declarator}
use Rattle.idl_tree.specs.declared.expression.Expression.{Expression}
use Rattle.idl_tree.specs.declared.several.Several.{Several}
use Rattle.idl_tree.proofs.ConstructionSpelling.{spell_member_type-type, spell_member_type-construction, spell_member-made, spell_case-made}
use Rattle.idl_tree.proofs.Readers.ExpressionLaws.{parted_laws}
use Rattle.idl_tree.proofs.Laws.{Laws, same, either, either_spells, next_at, mapped_at, behind_at, then_laws, last_laws, skip_laws, choice_laws, shape}
use Rattle.idl_tree.proofs.Many.{many_spell, many_laws}
use Rattle.idl_tree.proofs.Readers.NameLaws.{flat_map-many, name_laws}
use Rattle.idl_tree.proofs.Readers.Switch.{by_laws, mapped_laws}
use Rattle.idl_tree.proofs.Readers.TokenLaws.{only_word, close_at, close_laws}
use Rattle.idl_tree.proofs.Readers.TypeLaws.{discrete_laws, declarator_laws}

-- ---- one or more

pub listed_laws : (d N : ℕ) {X : Type 0} (spell : X → Lexemes) (r : ℕ → Reader X) → Laws d N same spell r → Laws d N same (spell_listed spell) (λ n. listed_with (r n))
listed_laws d N spell r laws = parted_laws d N several mark.Comma spell (spell_listed spell) r (λ x xs. ap (λ (w : Lexemes). spell x ++ w) (flat_map-many (λ x. Punctuation mark.Comma ∷ spell x) xs)) laws

pub all_laws : (d N : ℕ) {X : Type 0} (p : Option Lexeme → Bool) (spell : X → Lexemes) (r : ℕ → Reader X) → ((x : X) → 0 < length (spell x)) → Laws d N same spell r → Laws d N same (spell_all spell) (λ n. all_with p (r n))
unfolding all_with
all_laws d N {X} p spell r some laws = shape d N (λ (q : X × List X). several q.0 q.1) (λ q. spell q.0 ++ many_spell spell q.1) (spell_all spell) (next_at r (λ x. mapped_at (several x) (λ n. many_of p (r n)))) (λ n. all_with p (r n))
    (λ q. ap (λ (w : Lexemes). spell q.0 ++ w) (flat_map-many spell q.1)) (λ n ts. refl)
    (then_laws d N spell r several (many_spell spell) (λ x. mapped_at (several x) (λ n. many_of p (r n))) laws
    (λ x. last_laws d N (several x) (many_spell spell) (λ n. many_of p (r n)) (many_laws d N p spell r some laws)))

-- ---- discriminators

discriminator_each : (d N : ℕ) (k : Option Keyword) → Laws d N same spell_discriminator (λ n. discriminator_by k)
discriminator_each d N None = mapped_laws d N discriminator.Name spell_name spell_discriminator (λ n. name_at) (λ n. refl) (name_laws d N)
discriminator_each d N _ = mapped_laws d N discriminator.Discrete spell_discrete spell_discriminator (λ n. discrete_at) (λ n. refl) (discrete_laws d N)

pub discriminator_laws : (d N : ℕ) → Laws d N same spell_discriminator (λ n. discriminator_at)
unfolding discriminator_at
discriminator_laws d N = by_laws d N keyword_of spell_discriminator (λ k n. discriminator_by k) None (discriminator_each d N)

-- ---- labels

abbrev label_value : (Expression × Unit {0}) ⊎ Unit {0} → Label
label_value = either (λ p. label.Case p.0) (λ u. label.Default)

abbrev label_spell : (Expression × Unit {0}) ⊎ Unit {0} → Lexemes
label_spell = either (λ p. Word word.Case ∷ (spell_expression p.0 ++ Punctuation mark.Colon ∷ [])) (λ u. Word word.Default ∷ Punctuation mark.Colon ∷ [])

labels : (x : (Expression × Unit {0}) ⊎ Unit {0}) → spell_label (label_value x) ≡ label_spell x
labels (inl p) = refl
labels (inr u) = refl

abbrev case_label_at : (ℕ → Reader Expression) → ℕ → Reader Label
case_label_at r = behind_at (is_word word.Case) (next_at r (λ e. close_at mark.Colon (label.Case e)))

abbrev default_label_at : ℕ → Reader Label
default_label_at = behind_at (is_word word.Default) (close_at mark.Colon label.Default)

label_laws : (d N : ℕ) (r : ℕ → Reader Expression) → Laws (suc d) N same spell_expression r → Laws d N same spell_label (λ n. label_with (r n))
unfolding label_with
label_laws d N r laws = shape d N label_value label_spell spell_label (λ n ts. cond (is_word word.Case (first ts)) (case_label_at r n ts) (default_label_at n ts)) (λ n. label_with (r n)) labels (λ n ts. refl)
    (choice_laws d N (is_word word.Case) (λ (p : Expression × Unit {0}). label.Case p.0) (λ p. Word word.Case ∷ (spell_expression p.0 ++ Punctuation mark.Colon ∷ [])) (case_label_at r) (λ (u : Unit {0}). label.Default) (λ u. Word word.Default ∷ Punctuation mark.Colon ∷ []) default_label_at
    (skip_laws d N (is_word word.Case) (Word word.Case) (λ (p : Expression × Unit {0}). label.Case p.0) (λ p. spell_expression p.0 ++ Punctuation mark.Colon ∷ []) (next_at r (λ e. close_at mark.Colon (label.Case e))) (only_word word.Case)
    (then_laws (suc d) N spell_expression r (λ (e : Expression) (u : Unit {0}). label.Case e) (λ u. Punctuation mark.Colon ∷ []) (λ e. close_at mark.Colon (label.Case e)) laws (λ e. close_laws (suc d) N mark.Colon (label.Case e))))
    (skip_laws d N (is_word word.Default) (Word word.Default) (λ (u : Unit {0}). label.Default) (λ u. Punctuation mark.Colon ∷ []) (close_at mark.Colon label.Default) (only_word word.Default) (close_laws (suc d) N mark.Colon label.Default)))

label_some : (l : Label) → 0 < length (spell_label l)
label_some (label.Case e) = omega arith
label_some label.Default = omega arith

-- ---- members

abbrev nested_at : (ℕ → Reader Construction) → ℕ → Reader MemberType
nested_at rc = mapped_at member_type.Construction rc

abbrev typed_at : (ℕ → Reader TypeTree) → ℕ → Reader MemberType
typed_at rt = mapped_at member_type.Type rt

pub member_type_laws : (d N : ℕ) (rt : ℕ → Reader TypeTree) (rc : ℕ → Reader Construction) → Laws d N same spell_type rt → Laws d N same spell_construction rc → Laws d N same spell_member_type (λ n. member_type_with (rt n) (rc n))
unfolding member_type_with
member_type_laws d N rt rc types constructions = shape d N (either member_type.Construction member_type.Type) (either spell_construction spell_type) spell_member_type (λ n ts. cond (begins_construction (first ts)) (nested_at rc n ts) (typed_at rt n ts)) (λ n. member_type_with (rt n) (rc n))
    (either_spells spell_member_type member_type.Construction spell_construction member_type.Type spell_type spell_member_type-construction spell_member_type-type) (λ n ts. refl)
    (choice_laws d N begins_construction member_type.Construction spell_construction (nested_at rc) member_type.Type spell_type (typed_at rt)
    (last_laws d N member_type.Construction spell_construction rc constructions) (last_laws d N member_type.Type spell_type rt types))

abbrev pub spell_declarators : Several Declarator → Lexemes
spell_declarators = spell_listed spell_declarator

abbrev pub declarators_at : (ℕ → Reader Expression) → ℕ → Reader (Several Declarator)
declarators_at re n = listed_with (declarator_with (re n))

pub declarators_laws : (d N : ℕ) (re : ℕ → Reader Expression) → Laws (suc d) N same spell_expression re → Laws d N same spell_declarators (declarators_at re)
declarators_laws d N re laws = listed_laws d N spell_declarator (λ n. declarator_with (re n)) (declarator_laws d N re laws)

pub member_laws : (d N : ℕ) (re : ℕ → Reader Expression) (rt : ℕ → Reader TypeTree) (rc : ℕ → Reader Construction) → Laws (suc d) N same spell_expression re → Laws d N same spell_type rt → Laws d N same spell_construction rc
    → Laws d N same spell_member (λ n. member_with (re n) (rt n) (rc n))
unfolding member_with
member_laws d N re rt rc expressions types constructions = shape d N (λ (p : MemberType × (Several Declarator × Unit {0})). made_member p.0 p.1.0) (λ p. spell_member_type p.0 ++ (spell_declarators p.1.0 ++ Punctuation mark.Semicolon ∷ [])) spell_member
    (next_at (λ n. member_type_with (rt n) (rc n)) (λ t. next_at (declarators_at re) (λ ds. close_at mark.Semicolon (made_member t ds)))) (λ n. member_with (re n) (rt n) (rc n))
    (λ p. spell_member-made p.0 p.1.0) (λ n ts. refl)
    (then_laws d N spell_member_type (λ n. member_type_with (rt n) (rc n)) (λ (t : MemberType) (q : Several Declarator × Unit {0}). made_member t q.0) (λ q. spell_declarators q.0 ++ Punctuation mark.Semicolon ∷ []) (λ t. next_at (declarators_at re) (λ ds. close_at mark.Semicolon (made_member t ds)))
    (member_type_laws d N rt rc types constructions)
    (λ t. then_laws d N spell_declarators (declarators_at re) (λ (ds : Several Declarator) (u : Unit {0}). made_member t ds) (λ u. Punctuation mark.Semicolon ∷ []) (λ ds. close_at mark.Semicolon (made_member t ds))
    (declarators_laws d N re expressions) (λ ds. close_laws d N mark.Semicolon (made_member t ds))))

pub case_laws : (d N : ℕ) (re : ℕ → Reader Expression) (rt : ℕ → Reader TypeTree) (rc : ℕ → Reader Construction) → Laws (suc d) N same spell_expression re → Laws d N same spell_type rt → Laws d N same spell_construction rc
    → Laws d N same spell_case (λ n. case_with (re n) (rt n) (rc n))
unfolding case_with
case_laws d N re rt rc expressions types constructions =
    let labels_at : ℕ → Reader (Several Label) = λ n. all_with begins_label (label_with (re n)) in
    let kind_at : ℕ → Reader MemberType = λ n. member_type_with (rt n) (rc n) in
    let name_at : ℕ → Reader Declarator = λ n. declarator_with (re n) in
    shape d N (λ (p : Several Label × (MemberType × (Declarator × Unit {0}))). made_case p.0 p.1.0 p.1.1.0) (λ p. spell_all spell_label p.0 ++ (spell_member_type p.1.0 ++ (spell_declarator p.1.1.0 ++ Punctuation mark.Semicolon ∷ []))) spell_case
    (next_at labels_at (λ ls. next_at kind_at (λ t. next_at name_at (λ d. close_at mark.Semicolon (made_case ls t d))))) (λ n. case_with (re n) (rt n) (rc n))
    (λ p. spell_case-made p.0 p.1.0 p.1.1.0) (λ n ts. refl)
    (then_laws d N (spell_all spell_label) labels_at (λ (ls : Several Label) (q : MemberType × (Declarator × Unit {0})). made_case ls q.0 q.1.0) (λ q. spell_member_type q.0 ++ (spell_declarator q.1.0 ++ Punctuation mark.Semicolon ∷ [])) (λ ls. next_at kind_at (λ t. next_at name_at (λ d. close_at mark.Semicolon (made_case ls t d))))
    (all_laws d N begins_label spell_label (λ n. label_with (re n)) label_some (label_laws d N re expressions))
    (λ ls. then_laws d N spell_member_type kind_at (λ (t : MemberType) (q : Declarator × Unit {0}). made_case ls t q.0) (λ q. spell_declarator q.0 ++ Punctuation mark.Semicolon ∷ []) (λ t. next_at name_at (λ d. close_at mark.Semicolon (made_case ls t d)))
    (member_type_laws d N rt rc types constructions)
    (λ t. then_laws d N spell_declarator name_at (λ (x : Declarator) (u : Unit {0}). made_case ls t x) (λ u. Punctuation mark.Semicolon ∷ []) (λ d. close_at mark.Semicolon (made_case ls t d))
    (declarator_laws d N re expressions) (λ x. close_laws d N mark.Semicolon (made_case ls t x)))))
