-- What holds of the reader of operations.
use Rattle.std.proofs.Common.{Bool, Err, List, None, Option, Some, [], cond, drop, false, inl, inr, length, refl, suc, true, ℕ, ◌++◌, ◌∷◌, ◌≡◌, ◌⊎◌}
use Rattle.idl_lex.specs.declared.kinds.keyword.Keyword.TheVariants as word
use Rattle.idl_lex.specs.declared.kinds.mark.Mark.TheVariants as mark
use Rattle.idl_tree.specs.DataType.{spell_type}
use Rattle.idl_tree.specs.Interface.{spell_context, spell_operation, spell_parameter, spell_raises, spell_result, spell_text}
use Rattle.idl_tree.specs.Lexeme.{Identifier, Lexemes, Punctuation, Word}
use Rattle.idl_tree.specs.reading.ReadConstruction.{listed_with}
use Rattle.idl_tree.specs.reading.ReadInterface.{context_at, context_if, made_operation, operation_rest_with, operation_with, parameter_with, parameters_with, raises_if, result_with, text_at}
use Rattle.idl_tree.specs.reading.Reading.{Reader, first, ◌>>=◌}
use Rattle.idl_tree.specs.Several.{spell_if, spell_listed}
use Rattle.idl_tree.specs.reading.Tests.{identifier_at, is_mark, is_word}
use Rattle.idl_tree.specs.declared.declarations.data_type.TypeTree.{TypeTree}
use Rattle.idl_tree.specs.declared.name.ScopedName.{ScopedName}
use Rattle.idl_tree.specs.declared.declarations.operation.Operation.{Operation}
use Rattle.idl_tree.specs.declared.declarations.operation.Parameter.{Parameter}
use Rattle.idl_tree.specs.declared.several.Several.{Several}
use Rattle.idl_tree.proofs.Readers.ConstructionLaws.{listed_laws}
use Rattle.idl_tree.proofs.Readers.InterfaceLaws.{parameter_laws, raises_if_laws, text_laws}
use Rattle.idl_tree.proofs.Laws.{Laws, behind_at, choice_laws, deeper, done_laws, either, either_spells, ends_at, last_laws, mapped_at, next_at, ok, same, shape, skip_laws, then_laws}
use Rattle.idl_tree.proofs.Readers.Switch.{word_at, word_laws}
use Rattle.idl_tree.proofs.Readers.TokenLaws.{close_at, close_laws, identifier_laws, one_token, only_mark, only_word}

parameters_laws : (d N : ℕ) (rt : ℕ → Reader TypeTree) → Laws d N same spell_type rt → Laws d N same (spell_if (spell_listed spell_parameter)) (λ n. parameters_with (rt n))
unfolding parameters_with
parameters_laws d N rt types =
    let some_at : ℕ → Reader (Option (Several Parameter)) = mapped_at (λ (ps : Several Parameter). Some ps) (λ n. listed_with (parameter_with (rt n))) in
    shape d N (either (λ (u : Unit {0}). None) (λ (ps : Several Parameter). Some ps)) (either (λ u. []) (spell_listed spell_parameter)) (spell_if (spell_listed spell_parameter))
    (λ n ts. cond (is_mark mark.CloseParenthesis (first ts)) (ends_at None n ts) (some_at n ts)) (λ n. parameters_with (rt n)) spells (λ n ts. refl)
    (choice_laws d N (is_mark mark.CloseParenthesis) (λ (u : Unit {0}). None) (λ u. []) (ends_at None) (λ (ps : Several Parameter). Some ps) (spell_listed spell_parameter) some_at (done_laws d N None)
    (last_laws d N (λ (ps : Several Parameter). Some ps) (spell_listed spell_parameter) (λ n. listed_with (parameter_with (rt n)))
    (listed_laws d N spell_parameter (λ n. parameter_with (rt n)) (parameter_laws d N rt types))))
  where
    spells : (x : Unit {0} ⊎ Several Parameter) → spell_if (spell_listed spell_parameter) (either (λ (u : Unit {0}). None) (λ (ps : Several Parameter). Some ps) x) ≡ either (λ u. []) (spell_listed spell_parameter) x
    spells (inl u) = refl
    spells (inr ps) = refl

result_laws : (d N : ℕ) (rt : ℕ → Reader TypeTree) → Laws d N same spell_type rt → Laws d N same spell_result (λ n. result_with (rt n))
unfolding result_with
result_laws d N rt types =
    let some_at : ℕ → Reader (Option TypeTree) = mapped_at (λ (t : TypeTree). Some t) rt in
    shape d N (either (λ (u : Unit {0}). None) (λ (t : TypeTree). Some t)) (either (λ u. Word word.Void ∷ []) spell_type) spell_result
    (λ n ts. cond (is_word word.Void (first ts)) (word_at word.Void None n ts) (some_at n ts)) (λ n. result_with (rt n)) spells (λ n ts. refl)
    (choice_laws d N (is_word word.Void) (λ (u : Unit {0}). None) (λ u. Word word.Void ∷ []) (word_at word.Void None) (λ (t : TypeTree). Some t) spell_type some_at (word_laws d N word.Void None)
    (last_laws d N (λ (t : TypeTree). Some t) spell_type rt types))
  where
    spells : (x : Unit {0} ⊎ TypeTree) → spell_result (either (λ (u : Unit {0}). None) (λ (t : TypeTree). Some t) x) ≡ either (λ u. Word word.Void ∷ []) spell_type x
    spells (inl u) = refl
    spells (inr t) = refl

abbrev texts : Type 0
texts = Several (Several (List ℕ))

context_laws : (d N : ℕ) → Laws d N same spell_context (λ n. context_at)
unfolding context_at
context_laws d N =
    let inside : ℕ → Reader texts = next_at (λ n. listed_with text_at) (λ xs. close_at mark.CloseParenthesis xs) in
    let value : texts × Unit {0} → texts = λ p. p.0 in
    shape d N value (λ p. Word word.Context ∷ Punctuation mark.OpenParenthesis ∷ (spell_listed spell_text p.0 ++ Punctuation mark.CloseParenthesis ∷ [])) spell_context
    (behind_at (is_word word.Context) (behind_at (is_mark mark.OpenParenthesis) inside)) (λ n. context_at) (λ p. refl) (λ n ts. refl)
    (skip_laws d N (is_word word.Context) (Word word.Context) value (λ p. Punctuation mark.OpenParenthesis ∷ (spell_listed spell_text p.0 ++ Punctuation mark.CloseParenthesis ∷ [])) (behind_at (is_mark mark.OpenParenthesis) inside) (only_word word.Context)
    (skip_laws (suc d) N (is_mark mark.OpenParenthesis) (Punctuation mark.OpenParenthesis) value (λ p. spell_listed spell_text p.0 ++ Punctuation mark.CloseParenthesis ∷ []) inside (only_mark mark.OpenParenthesis)
    (then_laws (suc (suc d)) N (spell_listed spell_text) (λ n. listed_with text_at) (λ (xs : texts) (u : Unit {0}). xs) (λ u. Punctuation mark.CloseParenthesis ∷ []) (λ xs. close_at mark.CloseParenthesis xs)
    (listed_laws (suc (suc d)) N spell_text (λ n. text_at) (text_laws (suc (suc d)) N)) (λ xs. close_laws (suc (suc d)) N mark.CloseParenthesis xs))))

context_if_laws : (d N : ℕ) → Laws d N same (spell_if spell_context) (λ n. context_if)
unfolding context_if
context_if_laws d N = shape d N (either (λ (xs : texts). Some xs) (λ (u : Unit {0}). None)) (either spell_context (λ u. [])) (spell_if spell_context)
    (λ n ts. cond (is_word word.Context (first ts)) (mapped_at (λ (xs : texts). Some xs) (λ n. context_at) n ts) (ends_at None n ts)) (λ n. context_if) spells (λ n ts. refl)
    (choice_laws d N (is_word word.Context) (λ (xs : texts). Some xs) spell_context (mapped_at (λ (xs : texts). Some xs) (λ n. context_at)) (λ (u : Unit {0}). None) (λ u. []) (ends_at None)
    (last_laws d N (λ (xs : texts). Some xs) spell_context (λ n. context_at) (context_laws d N)) (done_laws d N None))
  where
    spells : (x : texts ⊎ Unit {0}) → spell_if spell_context (either (λ (xs : texts). Some xs) (λ (u : Unit {0}). None) x) ≡ either spell_context (λ u. []) x
    spells (inl xs) = refl
    spells (inr u) = refl

-- ---- operations

abbrev ends : Type 0
ends = Option (Several ScopedName) × Option texts

abbrev rest_parts : Type 0
rest_parts = Option (Several Parameter) × ends

abbrev spell_ends : ends → Lexemes
spell_ends q = spell_if spell_raises q.0 ++ spell_if spell_context q.1

abbrev spell_rest : rest_parts → Lexemes
spell_rest p = Punctuation mark.OpenParenthesis ∷ (spell_if (spell_listed spell_parameter) p.0 ++ (Punctuation mark.CloseParenthesis ∷ spell_ends p.1))

abbrev operation_of : Bool → Option TypeTree → List ℕ → rest_parts → Operation
operation_of is_oneway result name p = made_operation is_oneway result name p.0 p.1.0 p.1.1

operation_rest_laws : (d N : ℕ) (rt : ℕ → Reader TypeTree) → Laws (suc d) N same spell_type rt
    → (is_oneway : Bool) (result : Option TypeTree) (name : List ℕ) → Laws d N (operation_of is_oneway result name) spell_rest (λ n. operation_rest_with (rt n) is_oneway result name)
unfolding operation_rest_with
operation_rest_laws d N rt types is_oneway result name =
    let made : Option (Several Parameter) → Option (Several ScopedName) → Option texts → Operation = made_operation is_oneway result name in
    let end_at : Option (Several Parameter) → ℕ → Reader Operation = λ ps. next_at (λ n. raises_if word.Raises) (λ rs. mapped_at (made ps rs) (λ n. context_if)) in
    let closed_at : Option (Several Parameter) → ℕ → Reader Operation = λ ps. behind_at (is_mark mark.CloseParenthesis) (end_at ps) in
    skip_laws d N (is_mark mark.OpenParenthesis) (Punctuation mark.OpenParenthesis) (operation_of is_oneway result name) (λ p. spell_if (spell_listed spell_parameter) p.0 ++ (Punctuation mark.CloseParenthesis ∷ spell_ends p.1))
    (next_at (λ n. parameters_with (rt n)) closed_at) (only_mark mark.OpenParenthesis)
    (then_laws (suc d) N (spell_if (spell_listed spell_parameter)) (λ n. parameters_with (rt n)) (λ (ps : Option (Several Parameter)) (q : ends). made ps q.0 q.1) (λ q. Punctuation mark.CloseParenthesis ∷ spell_ends q) closed_at (parameters_laws (suc d) N rt types)
    (λ ps. skip_laws (suc d) N (is_mark mark.CloseParenthesis) (Punctuation mark.CloseParenthesis) (λ (q : ends). made ps q.0 q.1) spell_ends (end_at ps) (only_mark mark.CloseParenthesis)
    (then_laws (suc (suc d)) N (spell_if spell_raises) (λ n. raises_if word.Raises) (made ps) (spell_if spell_context) (λ rs. mapped_at (made ps rs) (λ n. context_if)) (raises_if_laws (suc (suc d)) N word.Raises)
    (λ rs. last_laws (suc (suc d)) N (made ps rs) (spell_if spell_context) (λ n. context_if) (context_if_laws (suc (suc d)) N)))))

abbrev tail_parts : Type 0
tail_parts = Option TypeTree × (List ℕ × rest_parts)

abbrev tail_value : Bool → tail_parts → Operation
tail_value is_oneway p = operation_of is_oneway p.0 p.1.0 p.1.1

abbrev spell_tail : tail_parts → Lexemes
spell_tail p = spell_result p.0 ++ (one_token Identifier p.1.0 ++ spell_rest p.1.1)

-- what follows `oneway`
abbrev tail_at : (ℕ → Reader TypeTree) → Bool → ℕ → Reader Operation
tail_at rt is_oneway = next_at (λ n. result_with (rt n)) (λ result. next_at (λ n. identifier_at) (λ name n. operation_rest_with (rt n) is_oneway result name))

tail_laws : (d N : ℕ) (rt : ℕ → Reader TypeTree) → Laws d N same spell_type rt → (is_oneway : Bool) → Laws d N (tail_value is_oneway) spell_tail (tail_at rt is_oneway)
tail_laws d N rt types is_oneway =
    then_laws d N spell_result (λ n. result_with (rt n)) (λ (result : Option TypeTree) (q : List ℕ × rest_parts). operation_of is_oneway result q.0 q.1) (λ q. one_token Identifier q.0 ++ spell_rest q.1)
    (λ result. next_at (λ n. identifier_at) (λ name n. operation_rest_with (rt n) is_oneway result name)) (result_laws d N rt types)
    (λ result. then_laws d N (one_token Identifier) (λ n. identifier_at) (operation_of is_oneway result) spell_rest (λ name n. operation_rest_with (rt n) is_oneway result name) (identifier_laws d N)
    (λ name. operation_rest_laws d N rt (deeper d N same spell_type rt types) is_oneway result name))

pub operation_laws : (d N : ℕ) (rt : ℕ → Reader TypeTree) → Laws d N same spell_type rt → Laws d N same spell_operation (λ n. operation_with (rt n))
unfolding operation_with
operation_laws d N rt types = shape d N (either (tail_value true) (tail_value false)) (either (λ p. Word word.Oneway ∷ spell_tail p) spell_tail) spell_operation
    (λ n ts. cond (is_word word.Oneway (first ts)) (behind_at (is_word word.Oneway) (tail_at rt true) n ts) (tail_at rt false n ts)) (λ n. operation_with (rt n))
    (either_spells spell_operation (tail_value true) (λ p. Word word.Oneway ∷ spell_tail p) (tail_value false) spell_tail (λ p. refl) (λ p. refl))
    (λ n ts. reads (suc n) (is_word word.Oneway (first ts)) ts (length ts))
    (choice_laws d N (is_word word.Oneway) (tail_value true) (λ p. Word word.Oneway ∷ spell_tail p) (behind_at (is_word word.Oneway) (tail_at rt true)) (tail_value false) spell_tail (tail_at rt false)
    (skip_laws d N (is_word word.Oneway) (Word word.Oneway) (tail_value true) spell_tail (tail_at rt true) (only_word word.Oneway) (tail_laws (suc d) N rt (deeper d N same spell_type rt types) true))
    (tail_laws d N rt types false))
  where
    reads : (n : ℕ) (b : Bool) (ts : Lexemes) (l : ℕ)
        → (result_with (rt n) (cond b (drop 1 ts) ts) >>= λ result. identifier_at result.1 >>= λ name. operation_rest_with (rt n) b result.0 name.0 name.1)
        ≡ cond b (cond b (ok (drop 1 ts)) (Err l) >>= λ rest. tail_at rt true n rest) (tail_at rt false n ts)
    reads n true ts l = refl
    reads n false ts l = refl
