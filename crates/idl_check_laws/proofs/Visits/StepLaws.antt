-- A faulty unit does to the open scopes what it would do without fault, but for the name.
use Rattle.std.proofs.Common.{◌≡◌, ◌∙◌, ◌+◌, ℕ, Bool, true, false, cond, List, [], ◌∷◌, ◌++◌, map, Option, None, Some, refl, sym, ap, append_assoc}
use Rattle.idl_check.specs.walk.Placing.{faulty_step, heading_kind, is_module, step_of}
use Rattle.std.specs.Prelude.{is_some}
use Rattle.idl_check.specs.walk.Judging.{without_name}
use Rattle.idl_lex.specs.kinds.Kind.{kind_of, name_of}
use Rattle.idl_lex.specs.kinds.Literal.{literal_value}
use Rattle.idl_lex.specs.kinds.Number.{integer_value}
use Rattle.idl_lex.specs.tokens.Tokens.{Token}
use Rattle.idl_lex.specs.declared.kinds.keyword.Keyword.TheVariants as word
use Rattle.idl_lex.specs.declared.kinds.kind.TokenKind.{TokenKind}
use Rattle.idl_lex.specs.declared.kinds.kind.TokenKind.TheVariants as token
use Rattle.idl_lex.specs.declared.kinds.mark.Mark.TheVariants as mark
use Rattle.idl_env.specs.declared.additions.addition.Step.{Step}
use Rattle.idl_env.specs.declared.additions.addition.Step.TheVariants.{Stays, OpensNameless, Closes}
use Rattle.idl_entity.specs.declared.kind.Kind.{Kind}
use Rattle.idl_entity.specs.declared.kind.Kind.TheVariants.{Module, Interface}
use Rattle.idl_tree.specs.DataType.{spell_type}
use Rattle.idl_tree.specs.Interface.{spell_bases, spell_context, spell_local, spell_oneway, spell_parameter, spell_raises, spell_result}
use Rattle.idl_tree.specs.Lexeme.{Lexeme, Lexemes, Word, Punctuation, Identifier, Integer, Character, WideCharacter, Text, WideText, lexeme_by, lexeme_of, lexemes, one_character, valued}
use Rattle.idl_tree.specs.reading.ReadConstruction.{begins_construction}
use Rattle.idl_tree.specs.reading.Reading.{first}
use Rattle.idl_tree.specs.Construction.{spell_construction}
use Rattle.idl_tree.specs.Several.{spell_if, spell_listed}
use Rattle.idl_tree.specs.Unit.{spell}
use Rattle.idl_tree.specs.declared.declarations.data_type.TypeTree.{TypeTree}
use Rattle.idl_tree.specs.declared.declarations.interface.Forward.TheVariants as forward
use Rattle.idl_tree.specs.declared.unit.Tree.{Tree}
use Rattle.idl_tree.specs.declared.unit.Tree.TheVariants as tree
use Rattle.idl_tree.proofs.ReadAgain.ConstructionAgain.{construction_is_again}
use Rattle.idl_tree.proofs.ReadAgain.TypeAgain.{is_type_start, type_is_again}
use Rattle.idl_unit.specs.Ending.{begins, is_interface, opens, role, role_of, rule_by, rule_of}
use Rattle.idl_unit.specs.Scoping.{brace_by, brace_from, is_closing_by}
use Rattle.idl_unit.specs.declared.role.Role.{Role}
use Rattle.idl_unit.specs.declared.role.Role.TheVariants as roles
use Rattle.idl_unit.specs.declared.role.Rule.{Rule}
use Rattle.idl_unit.specs.declared.role.Rule.TheVariants.{Closing, Heading, Declaration}

-- ---- what tokens are for the cut, by what the grammar knows of them

abbrev lexeme_role : Lexeme → Role
lexeme_role (Word k) = role_of (token.Accepted k)
lexeme_role (Punctuation m) = role_of (token.Punctuation m)
lexeme_role _ = roles.Other

valued-other : {A : Type 0} (make : A → Lexeme) → ((a : A) → lexeme_role (make a) ≡ roles.Other) → (o : Option A) → lexeme_role (valued make o) ≡ roles.Other
valued-other make other None = refl
valued-other make other (Some a) = other a

kind-role : (k : TokenKind) (t : List ℕ) → lexeme_role (lexeme_by k t) ≡ role_of k
kind-role token.Identifier t = valued-other Identifier (λ a. refl) (name_of t)
kind-role token.Escaped t = valued-other Identifier (λ a. refl) (name_of t)
kind-role token.Integer t = valued-other Integer (λ a. refl) (integer_value t)
kind-role token.Character t = valued-other Character (λ a. refl) (one_character (literal_value t))
kind-role token.WideCharacter t = valued-other WideCharacter (λ a. refl) (one_character (literal_value t))
kind-role token.String t = valued-other Text (λ a. refl) (literal_value t)
kind-role token.WideString t = valued-other WideText (λ a. refl) (literal_value t)
kind-role other t = refl

token-role : (t : Token) → role t ≡ lexeme_role (lexeme_of t)
unfolding lexeme_of
token-role t = sym (kind-role (kind_of t) t)

abbrev roles_of : List Token → List Role
roles_of tokens = map role tokens

abbrev roles_in : Lexemes → List Role
roles_in xs = map lexeme_role xs

roles-same : (tokens : List Token) → roles_of tokens ≡ roles_in (lexemes tokens)
roles-same [] = refl
roles-same (t ∷ ts) = ap (λ r. r ∷ roles_of ts) (token-role t) ∙ ap (λ rs. lexeme_role (lexeme_of t) ∷ rs) (roles-same ts)

-- ---- the faulty step, by those alone

abbrev begins_so : (Role → Bool) → List Role → Bool
begins_so p [] = false
begins_so p (r ∷ rs) = p r

abbrev braced_so : List Role → Bool
braced_so [] = false
braced_so (r ∷ rs) = cond (opens r) true (braced_so rs)

abbrev rule_from : Role → List Role → Rule
rule_from roles.CloseBrace rest = Closing
rule_from roles.Module rest = Heading
rule_from roles.Interface rest = Heading
rule_from roles.Local rest = cond (begins_so is_interface rest) Heading Declaration
rule_from _ rest = Declaration

abbrev rule_so : List Role → Rule
rule_so [] = Declaration
rule_so (r ∷ rs) = rule_from r rs

-- by the rule, whether there is a `{`, and whether `module` is first
abbrev step_by : Rule → Bool → Bool → Step
step_by Heading true is_first = OpensNameless (cond is_first Module Interface)
step_by Heading false is_first = Stays
step_by Closing has_brace is_first = Closes
step_by Declaration has_brace is_first = Stays

abbrev step_so : List Role → Step
step_so rs = step_by (rule_so rs) (braced_so rs) (begins_so is_module rs)

begins-same : (p : Role → Bool) (tokens : List Token) → begins p tokens ≡ begins_so p (roles_of tokens)
begins-same p [] = refl
begins-same p (t ∷ ts) = refl

brace-if : (b c : Bool) (n : ℕ) (o : Option ℕ) → is_some o ≡ c → is_some (cond b (Some n) o) ≡ cond b true c
brace-if true c n o h = refl
brace-if false c n o h = h

braced-same : (n : ℕ) (tokens : List Token) → is_some (brace_from n tokens) ≡ braced_so (roles_of tokens)
braced-same n [] = refl
braced-same n (t ∷ ts) = brace-if (opens (role t)) (braced_so (roles_of ts)) n (brace_from (n + 1) ts) (braced-same (n + 1) ts)

rule-from-same : (r : Role) (ts : List Token) → rule_by r ts ≡ rule_from r (roles_of ts)
rule-from-same roles.Local ts = ap (λ b. cond b Heading Declaration) (begins-same is_interface ts)
rule-from-same r ts = refl

rule-same : (tokens : List Token) → rule_of tokens ≡ rule_so (roles_of tokens)
rule-same [] = refl
rule-same (t ∷ ts) = rule-from-same (role t) ts

-- what is done where this is opened, or else by the rule
abbrev done_by : Rule → Option Kind → Step
done_by rule o = elim o [ Some kind ↦ OpensNameless kind | None ↦ cond (is_closing_by rule) Closes Stays ]

abbrev opened_at : Kind → Option ℕ → Option Kind
opened_at kind o = elim o [ None ↦ None | Some n ↦ Some kind ]

heading-step : (brace : Option ℕ) (is_first : Bool) → done_by Heading (opened_at (cond is_first Module Interface) brace) ≡ step_by Heading (is_some brace) is_first
heading-step None is_first = refl
heading-step (Some n) is_first = refl

rule-step : (rule : Rule) (tokens : List Token) → done_by rule (opened_at (heading_kind tokens) (brace_by rule tokens)) ≡ step_by rule (is_some (brace_from 0 tokens)) (begins is_module tokens)
rule-step Heading tokens = heading-step (brace_from 0 tokens) (begins is_module tokens)
rule-step Closing tokens = refl
rule-step Declaration tokens = refl

step-same : (tokens : List Token) → faulty_step tokens ≡ step_so (roles_of tokens)
step-same tokens =
    rule-step (rule_of tokens) tokens
    ∙ ap (λ r. step_by r (is_some (brace_from 0 tokens)) (begins is_module tokens)) (rule-same tokens)
    ∙ ap (λ b. step_by (rule_so (roles_of tokens)) b (begins is_module tokens)) (braced-same 0 tokens)
    ∙ ap (λ b. step_by (rule_so (roles_of tokens)) (braced_so (roles_of tokens)) b) (begins-same is_module tokens)

-- ---- the steps of trees

abbrev first_role : Option Lexeme → Role
first_role None = roles.Other
first_role (Some x) = lexeme_role x

type-role : (o : Option Lexeme) → is_type_start o ≡ true → first_role o ≡ roles.Other
type-role (Some (Word word.Module)) h = cc
type-role (Some (Word word.Interface)) h = cc
type-role (Some (Word word.Local)) h = cc
type-role (Some (Punctuation mark.OpenBrace)) h = cc
type-role (Some (Punctuation mark.CloseBrace)) h = cc
type-role (Some (Punctuation mark.Semicolon)) h = cc
type-role _ h = refl

construction-role : (o : Option Lexeme) → begins_construction o ≡ true → first_role o ≡ roles.Other
construction-role (Some (Word word.Module)) h = cc
construction-role (Some (Word word.Interface)) h = cc
construction-role (Some (Word word.Local)) h = cc
construction-role (Some (Punctuation mark.OpenBrace)) h = cc
construction-role (Some (Punctuation mark.CloseBrace)) h = cc
construction-role (Some (Punctuation mark.Semicolon)) h = cc
construction-role _ h = refl

-- what begins with no brace, and no word of a heading
other-stays : (xs : Lexemes) → first_role (first xs) ≡ roles.Other → step_so (roles_in xs) ≡ Stays
other-stays [] h = refl
other-stays (x ∷ xs) h = ap (λ r. step_so (r ∷ roles_in xs)) h

one-brace : (b c : Bool) → c ≡ true → cond b true c ≡ true
one-brace true c h = refl
one-brace false c h = h

last-brace : (front : Lexemes) → braced_so (roles_in (front ++ Punctuation mark.OpenBrace ∷ [])) ≡ true
last-brace [] = refl
last-brace (x ∷ front) = one-brace (opens (lexeme_role x)) (braced_so (roles_in (front ++ Punctuation mark.OpenBrace ∷ []))) (last-brace front)

interface-step : (is_local : Bool) (name : List ℕ) (bases : Lexemes)
    → step_so (roles_in (spell_local is_local ++ (Word word.Interface ∷ Identifier name ∷ (bases ++ Punctuation mark.OpenBrace ∷ [])))) ≡ OpensNameless Interface
interface-step true name bases =
    ap (λ b. step_by Heading b false) (last-brace (Word word.Local ∷ Word word.Interface ∷ Identifier name ∷ bases))
interface-step false name bases =
    ap (λ b. step_by Heading b false) (last-brace (Word word.Interface ∷ Identifier name ∷ bases))

abbrev end : Lexemes
end = Punctuation mark.Semicolon ∷ []

operation-step : (is_oneway : Bool) (result : Option TypeTree) (rest : Lexemes) → step_so (roles_in ((spell_oneway is_oneway ++ (spell_result result ++ rest)) ++ end)) ≡ Stays
operation-step true result rest = refl
operation-step false None rest = refl
operation-step false (Some t) rest =
    other-stays ((spell_type t ++ rest) ++ end)
    (ap (λ w. first_role (first w)) (append_assoc (spell_type t) rest end)
    ∙ type-role (first (spell_type t ++ (rest ++ end))) ((type_is_again t).starts (rest ++ end)))

tree-step : (t : Tree) (scope : List (List ℕ)) → step_so (roles_in (spell t)) ≡ without_name (step_of t scope)
unfolding spell
tree-step tree.Closing scope = refl
tree-step (tree.Module name) scope = refl
tree-step (tree.Interface i) scope = interface-step i.is_local i.name (spell_bases i.bases)
tree-step (tree.Forward (forward.Interface true name)) scope = refl
tree-step (tree.Forward (forward.Interface false name)) scope = refl
tree-step (tree.Forward (forward.Structure name)) scope = refl
tree-step (tree.Forward (forward.Union name)) scope = refl
tree-step (tree.Typedef t) scope = refl
tree-step (tree.Construction c) scope = other-stays (spell_construction c ++ end) (construction-role (first (spell_construction c ++ end)) ((construction_is_again c).starts end))
tree-step (tree.Native name) scope = refl
tree-step (tree.Constant c) scope = refl
tree-step (tree.Exception e) scope = refl
tree-step (tree.ReadonlyAttribute a) scope = refl
tree-step (tree.Attribute a) scope = refl
tree-step (tree.Typeid t) scope = refl
tree-step (tree.Typeprefix t) scope = refl
tree-step (tree.Operation o) scope =
    operation-step o.is_oneway o.result
    (Identifier o.name ∷ Punctuation mark.OpenParenthesis
    ∷ (spell_if (spell_listed spell_parameter) o.parameters ++ (Punctuation mark.CloseParenthesis ∷ (spell_if spell_raises o.raises ++ spell_if spell_context o.context))))

pub same-step : (tokens : List Token) (t : Tree) (scope : List (List ℕ)) → lexemes tokens ≡ spell t → faulty_step tokens ≡ without_name (step_of t scope)
same-step tokens t scope spelled = step-same tokens ∙ ap step_so (roles-same tokens ∙ ap roles_in spelled) ∙ tree-step t scope
