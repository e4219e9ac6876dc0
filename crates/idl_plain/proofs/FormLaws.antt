-- A test of one form holds of that alone, and of a beginning where a text begins so.
use Rattle.std.proofs.Common.{◌≡◌, ◌∙◌, ◌⊎◌, ◌&&◌, ℕ, zero, suc, ℤ, pos, negsuc, Bool, false, true, List, [], ◌∷◌, codes, inl, inr, map, nat_eq, not, refl, slice_get, ap}
use Rattle.std.specs.Option.{unwrap_or}
use Rattle.std.specs.Cmp.{nat_eq_equiv}
use Rattle.std.specs.List.{list_any, starts_with}
use Rattle.std.specs.Prelude.{◌↔◌}
use Rattle.idl_check.specs.tables.Rules.{has_id, is_type}
use Rattle.idl_check.specs.told.Bodies.{is_nothing as raises_none}
use Rattle.idl_check.specs.walk.Placing.{is_module}
use Rattle.idl_entity.specs.Identity.{no_prefix}
use Rattle.idl_entity.specs.Kind.{has_bases, is_scope, kind_eq}
use Rattle.idl_entity.specs.declared.kind.Kind.{Kind}
use Rattle.idl_entity.specs.declared.kind.Kind.TheVariants as kind
use Rattle.idl_entity.specs.declared.kind.Stage.{Stage}
use Rattle.idl_entity.specs.declared.kind.Stage.TheVariants.{Ahead, Begun, Complete, Open}
use Rattle.idl_entity.specs.declared.identity.Prefix.{Prefix}
use Rattle.idl_env.specs.Facts.{given_back, innermost, path_around}
use Rattle.idl_env.specs.declared.answering.answer.Scope.{Scope}
use Rattle.idl_lex.specs.bytes.Context.{is_include, is_newline, is_nothing}
use Rattle.idl_lex.specs.bytes.Piece.{is_empty}
use Rattle.idl_lex.specs.declared.bytes.context.Beginning.{Beginning}
use Rattle.idl_lex.specs.declared.bytes.context.Beginning.TheVariants.{Include, Nothing}
use Rattle.idl_lex.specs.declared.kinds.kind.Defect.{Defect}
use Rattle.idl_lex.specs.declared.kinds.kind.Defect.TheVariants.{BadEscape}
use Rattle.idl_lex.specs.declared.kinds.kind.TokenKind.{TokenKind}
use Rattle.idl_lex.specs.declared.kinds.kind.TokenKind.TheVariants.{HeaderName, Miscased, Punctuation}
use Rattle.idl_lex.specs.declared.kinds.mark.Mark.TheVariants.{ColonColon}
use Rattle.idl_lex.specs.kinds.Kind.{begins_block}
use Rattle.idl_lex.specs.tokens.Tokens.{Token}
use Rattle.idl_macro.specs.conditions.Arithmetic.{is_zero}
use Rattle.idl_plain.proofs.ConditionLaws.{untrue}
use Rattle.idl_prep.specs.Include.{begins_quoted, is_bad_escape, is_header_kind}
use Rattle.idl_source.specs.names.Path.{is_rooted}
use Rattle.idl_source.specs.texts.Line.{newline}
use Rattle.idl_text.specs.Tree.{is_else, is_endif}
use Rattle.idl_text.specs.declared.groups.kind.DirectiveKind.{DirectiveKind}
use Rattle.idl_text.specs.declared.groups.kind.DirectiveKind.TheVariants as directive
use Rattle.idl_tree.specs.Pragma.{is_separator}
use Rattle.idl_unit.specs.Ending.{closes, is_empty as ends_text, is_semicolon, opens}
use Rattle.idl_unit.specs.TokenRules.{is_miscased}
use Rattle.idl_unit.specs.declared.role.Role.{Role}
use Rattle.idl_unit.specs.declared.role.Role.TheVariants as role

pub nothing-told : (x : Beginning) → (is_nothing x ≡ true) ↔ (x ≡ Nothing)
nothing-told Nothing = (λ h. refl, λ e. refl)
nothing-told x = (λ h. absurd (untrue h), λ e. ap is_nothing e)

pub included-told : (x : Beginning) → (is_include x ≡ true) ↔ (x ≡ Include)
included-told Include = (λ h. refl, λ e. refl)
included-told x = (λ h. absurd (untrue h), λ e. ap is_include e)

pub headers-told : (x : TokenKind) → (is_header_kind x ≡ true) ↔ (x ≡ HeaderName)
headers-told HeaderName = (λ h. refl, λ e. refl)
headers-told x = (λ h. absurd (untrue h), λ e. ap is_header_kind e)

pub miscased-told : (x : TokenKind) → (is_miscased x ≡ true) ↔ (x ≡ Miscased)
miscased-told Miscased = (λ h. refl, λ e. refl)
miscased-told x = (λ h. absurd (untrue h), λ e. ap is_miscased e)

pub separators-told : (x : TokenKind) → (is_separator x ≡ true) ↔ (x ≡ Punctuation ColonColon)
separators-told (Punctuation ColonColon) = (λ h. refl, λ e. refl)
separators-told x = (λ h. absurd (untrue h), λ e. ap is_separator e)

pub escapes-told : (x : Defect) → (is_bad_escape x ≡ true) ↔ (x ≡ BadEscape)
escapes-told BadEscape = (λ h. refl, λ e. refl)
escapes-told x = (λ h. absurd (untrue h), λ e. ap is_bad_escape e)

pub modules-told : (x : Role) → (is_module x ≡ true) ↔ (x ≡ role.Module)
modules-told role.Module = (λ h. refl, λ e. refl)
modules-told x = (λ h. absurd (untrue h), λ e. ap is_module e)

pub openings-told : (x : Role) → (opens x ≡ true) ↔ (x ≡ role.OpenBrace)
openings-told role.OpenBrace = (λ h. refl, λ e. refl)
openings-told x = (λ h. absurd (untrue h), λ e. ap opens e)

pub closings-told : (x : Role) → (closes x ≡ true) ↔ (x ≡ role.CloseBrace)
closings-told role.CloseBrace = (λ h. refl, λ e. refl)
closings-told x = (λ h. absurd (untrue h), λ e. ap closes e)

pub semicolons-told : (x : Role) → (is_semicolon x ≡ true) ↔ (x ≡ role.Semicolon)
semicolons-told role.Semicolon = (λ h. refl, λ e. refl)
semicolons-told x = (λ h. absurd (untrue h), λ e. ap is_semicolon e)

pub otherwise-told : (x : DirectiveKind) → (is_else x ≡ true) ↔ (x ≡ directive.Else)
otherwise-told directive.Else = (λ h. refl, λ e. refl)
otherwise-told x = (λ h. absurd (untrue h), λ e. ap is_else e)

pub endings-told : (x : DirectiveKind) → (is_endif x ≡ true) ↔ (x ≡ directive.Endif)
endings-told directive.Endif = (λ h. refl, λ e. refl)
endings-told x = (λ h. absurd (untrue h), λ e. ap is_endif e)

pub zeros-told : (x : ℤ) → (is_zero x ≡ true) ↔ (x ≡ pos 0)
zeros-told (pos zero) = (λ h. refl, λ e. refl)
zeros-told (pos (suc n)) = (λ h. absurd (untrue h), λ e. ap is_zero e)
zeros-told (negsuc n) = (λ h. absurd (untrue h), λ e. ap is_zero e)

pub bytes-told : (x : List ℕ) → (is_empty x ≡ true) ↔ (x ≡ [])
bytes-told [] = (λ h. refl, λ e. refl)
bytes-told (x ∷ xs) = (λ h. absurd (untrue h), λ e. ap is_empty e)

pub ends-told : (x : List Token) → (ends_text x ≡ true) ↔ (x ≡ [])
ends-told [] = (λ h. refl, λ e. refl)
ends-told (x ∷ xs) = (λ h. absurd (untrue h), λ e. ap ends_text e)

pub raised-told : (x : List (List (List ℕ))) → (raises_none x ≡ true) ↔ (x ≡ [])
raised-told [] = (λ h. refl, λ e. refl)
raised-told (x ∷ xs) = (λ h. absurd (untrue h), λ e. ap raises_none e)

of-two : (s : Stage) → (s ≡ Open) ⊎ (s ≡ Complete) → has_bases s ≡ true
of-two s (inl e) = ap has_bases e
of-two s (inr e) = ap has_bases e

pub bases-told : (s : Stage) → (has_bases s ≡ true) ↔ ((s ≡ Open) ⊎ (s ≡ Complete))
bases-told Open = (λ h. inl refl, λ e. refl)
bases-told Complete = (λ h. inr refl, λ e. refl)
bases-told Ahead = (λ h. absurd (untrue h), of-two Ahead)
bases-told Begun = (λ h. absurd (untrue h), of-two Begun)

-- ---- beginnings

ended : (b : Bool) → b ≡ b && true
ended true = refl
ended false = refl

-- a first byte, whichever of the two is asked
first-told : (b n : ℕ) → nat_eq b n ≡ nat_eq n b && true
first-told b n = nat_eq_equiv.symm b n ∙ ended (nat_eq n b)

pub rooted-told : (bytes : List ℕ) → is_rooted bytes ≡ starts_with nat_eq bytes (codes "/")
rooted-told [] = refl
rooted-told (b ∷ bytes) = first-told b 47

pub quoted-told : (bytes : List ℕ) → begins_quoted bytes ≡ starts_with nat_eq bytes (34 ∷ [])
quoted-told [] = refl
quoted-told (b ∷ bytes) = first-told b 34

pub ended-told : (bytes : List ℕ) → is_newline bytes ≡ starts_with nat_eq bytes (newline ∷ [])
ended-told [] = refl
ended-told (b ∷ bytes) = first-told b newline

pub blocks-told : (bytes : List ℕ) → begins_block bytes ≡ starts_with nat_eq bytes (codes "/*")
blocks-told [] = refl
blocks-told (b ∷ []) = by (nat_eq b 47) (nat_eq 47 b) (nat_eq_equiv.symm b 47)
  where
    by : (x y : Bool) → x ≡ y → x && false ≡ y && false
    by x y e = ap (λ z. z && false) e
blocks-told (b ∷ c ∷ bytes) = λ i. nat_eq_equiv.symm b 47 i && first-told c 42 i

-- ---- kinds

pub kinds-types : (k : Kind) → is_type k ≡ list_any (kind_eq k) (kind.Interface ∷ kind.Structure ∷ kind.Union ∷ kind.Enumeration ∷ kind.Alias ∷ kind.Native ∷ [])
kinds-types kind.Module = refl
kinds-types kind.Interface = refl
kinds-types kind.Structure = refl
kinds-types kind.Union = refl
kinds-types kind.Exception = refl
kinds-types kind.Enumeration = refl
kinds-types kind.Enumerator = refl
kinds-types kind.Alias = refl
kinds-types kind.Native = refl
kinds-types kind.Constant = refl
kinds-types kind.Attribute = refl
kinds-types kind.Operation = refl
kinds-types kind.Parameter = refl
kinds-types kind.Member = refl

pub kinds-scopes : (k : Kind) → is_scope k ≡ list_any (kind_eq k) (kind.Module ∷ kind.Interface ∷ kind.Structure ∷ kind.Union ∷ kind.Exception ∷ [])
kinds-scopes kind.Module = refl
kinds-scopes kind.Interface = refl
kinds-scopes kind.Structure = refl
kinds-scopes kind.Union = refl
kinds-scopes kind.Exception = refl
kinds-scopes kind.Enumeration = refl
kinds-scopes kind.Enumerator = refl
kinds-scopes kind.Alias = refl
kinds-scopes kind.Native = refl
kinds-scopes kind.Constant = refl
kinds-scopes kind.Attribute = refl
kinds-scopes kind.Operation = refl
kinds-scopes kind.Parameter = refl
kinds-scopes kind.Member = refl

pub kinds-ids : (k : Kind) → has_id k ≡ not (list_any (kind_eq k) (kind.Enumerator ∷ kind.Parameter ∷ kind.Member ∷ []))
kinds-ids kind.Module = refl
kinds-ids kind.Interface = refl
kinds-ids kind.Structure = refl
kinds-ids kind.Union = refl
kinds-ids kind.Exception = refl
kinds-ids kind.Enumeration = refl
kinds-ids kind.Enumerator = refl
kinds-ids kind.Alias = refl
kinds-ids kind.Native = refl
kinds-ids kind.Constant = refl
kinds-ids kind.Attribute = refl
kinds-ids kind.Operation = refl
kinds-ids kind.Parameter = refl
kinds-ids kind.Member = refl

-- ---- the first of a list

pub prefix-first : (prefixes : List Prefix) → given_back prefixes ≡ unwrap_or (slice_get prefixes 0) no_prefix
prefix-first [] = refl
prefix-first (p ∷ ps) = refl

pub operations-first : (inside : List (List (List (List ℕ)))) → innermost inside ≡ unwrap_or (slice_get inside 0) []
operations-first [] = refl
operations-first (own ∷ outer) = refl

pub path-first : (scopes : List Scope) → path_around scopes ≡ unwrap_or (slice_get (map (λ s. s.path) scopes) 0) []
path-first [] = refl
path-first (s ∷ scopes) = refl
