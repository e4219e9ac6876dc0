-- Tokens that have no fault beside one another.
use Rattle.std.proofs.Common.{◌≡◌, ◌∙◌, ◌+◌, ◌≤◌, Bool, true, false, List, [], ◌∷◌, ◌++◌, length, map, drop, Option, None, Some, refl, ap, arith}
use Rattle.std.specs.Prelude.{◌&&◌, count_by, not, ⊤}
use Rattle.std.specs.List.{list_all}
use Rattle.std.proofs.lemmas.Bool.{or_from, and_right, le-ltb}
use Rattle.std.proofs.lemmas.List.{length-map}
use Rattle.std.proofs.lemmas.List.Folds.{list_all-map}
use Rattle.std.proofs.lemmas.List.Sums.{count_by-le-length}
use Rattle.idl_fault.specs.declared.code.Code.TheVariants.{MixedWidths, LeftOut}
use Rattle.idl_lex.specs.kinds.Kind.{kind_of}
use Rattle.idl_lex.specs.tokens.Tokens.{Token}
use Rattle.idl_lex.specs.declared.kinds.keyword.Keyword.{Keyword}
use Rattle.idl_lex.specs.declared.kinds.keyword.Keyword.TheVariants as keyword
use Rattle.idl_lex.specs.declared.kinds.kind.TokenKind.{TokenKind}
use Rattle.idl_lex.specs.declared.kinds.kind.TokenKind.TheVariants.{Accepted, Refused, Miscased, Identifier, Escaped, Integer, Character, WideCharacter, String, WideString, Punctuation, HeaderName, Preprocessing, Bad}
use Rattle.idl_unit.specs.Faults.{least_fault}
use Rattle.idl_unit.specs.TokenRules.{code_if, codes_beside, fault_at, faults_after, first, is_const, is_harmless, is_left_out, is_long, is_other_width, is_too_deep, nests, token_codes, token_faults, unnests}

-- a kind before a token, if one is there, is harmless
abbrev IsSafe : Option TokenKind → Type 0
IsSafe None = ⊤
IsSafe (Some kind) = is_harmless kind ≡ true

off : (b : Bool) → not b ≡ true → b ≡ false
off true e = cc
off false e = refl

both : (a b : Bool) → (a && b) ≡ true → (a ≡ true) × (b ≡ true)
both true b e = (refl, e)
both false b e = cc

not-const : (last : Option TokenKind) → IsSafe last → is_const last ≡ false
not-const None safe = refl
not-const (Some (Accepted word)) safe = off (is_const (Some (Accepted word))) safe
not-const (Some Refused) safe = refl
not-const (Some Miscased) safe = refl
not-const (Some Identifier) safe = refl
not-const (Some Escaped) safe = refl
not-const (Some Integer) safe = refl
not-const (Some Character) safe = refl
not-const (Some WideCharacter) safe = refl
not-const (Some String) safe = refl
not-const (Some WideString) safe = refl
not-const (Some (Punctuation mark)) safe = refl
not-const (Some HeaderName) safe = refl
not-const (Some (Preprocessing mark)) safe = refl
not-const (Some (Bad why)) safe = refl

not-left-out : (word : Keyword) (last second : Option TokenKind) → IsSafe last → IsSafe second → is_left_out (Accepted word) last second ≡ false
not-left-out keyword.Float last second l s = not-const last l
not-left-out keyword.Double last second l s = or_from _ _ (not-const last l) (and_right (is_long last) _ (not-const second s))
not-left-out other last second l s = refl

one-width : (last : Option TokenKind) → IsSafe last → is_other_width String last ≡ false
one-width None safe = refl
one-width (Some (Accepted word)) safe = refl
one-width (Some Refused) safe = refl
one-width (Some Miscased) safe = refl
one-width (Some Identifier) safe = refl
one-width (Some Escaped) safe = refl
one-width (Some Integer) safe = refl
one-width (Some Character) safe = refl
one-width (Some WideCharacter) safe = refl
one-width (Some String) safe = refl
one-width (Some WideString) safe = cc
one-width (Some (Punctuation mark)) safe = refl
one-width (Some HeaderName) safe = refl
one-width (Some (Preprocessing mark)) safe = refl
one-width (Some (Bad why)) safe = refl

-- a harmless token has no code beside harmless ones
no-codes : (kind : TokenKind) (last second : Option TokenKind) → is_harmless kind ≡ true → IsSafe last → IsSafe second → codes_beside kind last second false ≡ []
no-codes (Accepted word) last second safe l s = ap (λ b. code_if b LeftOut ++ []) (not-left-out word last second l s)
no-codes Refused last second safe l s = cc
no-codes Miscased last second safe l s = cc
no-codes Identifier last second safe l s = refl
no-codes Escaped last second safe l s = refl
no-codes Integer last second safe l s = refl
no-codes Character last second safe l s = refl
no-codes WideCharacter last second safe l s = refl
no-codes String last second safe l s = ap (λ b. code_if b MixedWidths ++ []) (one-width last l)
no-codes WideString last second safe l s = cc
no-codes (Punctuation mark) last second safe l s = refl
no-codes HeaderName last second safe l s = refl
no-codes (Preprocessing mark) last second safe l s = cc
no-codes (Bad why) last second safe l s = cc

safe-first : (before : List TokenKind) → list_all is_harmless before ≡ true → IsSafe (first before)
safe-first [] all = tt
safe-first (kind ∷ before) all = (both (is_harmless kind) (list_all is_harmless before) all).0

safe-second : (before : List TokenKind) → list_all is_harmless before ≡ true → IsSafe (first (drop 1 before))
safe-second [] all = tt
safe-second (kind ∷ before) all = safe-first before (both (is_harmless kind) (list_all is_harmless before) all).1

-- of 64 tokens no more brackets are open
not-too-deep : (kinds : List TokenKind) → length kinds ≤ 64 → is_too_deep kinds ≡ false
not-too-deep kinds few = le-ltb (count_by unnests kinds + 64) (count_by nests kinds) (omega (arith, count_by-le-length nests kinds, few))

no-faults : (before kinds : List TokenKind) → list_all is_harmless before ≡ true → list_all is_harmless kinds ≡ true → length before + length kinds ≤ 64
    → faults_after before kinds ≡ []
no-faults before [] safe all few = refl
no-faults before (kind ∷ kinds) safe all few =
    let parts = both (is_harmless kind) (list_all is_harmless kinds) all in
    let codes : token_codes before kind ≡ [] =
    ap (codes_beside kind (first before) (first (drop 1 before))) (not-too-deep (kind ∷ before) (omega (arith, few)))
    ∙ no-codes kind (first before) (first (drop 1 before)) parts.0 (safe-first before safe) (safe-second before safe) in
    ap (λ cs. map (fault_at (length before)) cs ++ faults_after (kind ∷ before) kinds) codes
    ∙ no-faults (kind ∷ before) kinds (ap (λ b. b && list_all is_harmless before) parts.0 ∙ safe) parts.1 (omega (arith, few))

-- up to 64 harmless tokens have no fault
pub harmless-unit : (unit : List Token) → list_all (λ token. is_harmless (kind_of token)) unit ≡ true → length unit ≤ 64 → least_fault (token_faults unit) ≡ None
harmless-unit unit all few =
    ap least_fault (no-faults [] (map kind_of unit) refl (list_all-map is_harmless kind_of unit ∙ all) (omega (arith, length-map unit kind_of, few)))
