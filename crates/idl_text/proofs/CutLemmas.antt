-- The one way to cut a text into its longest pieces.
use Rattle.std.proofs.Common.{◌≡◌, ◌∙◌, ◌++◌, ◌↔◌, ℕ, zero, suc, List, [], ◌∷◌, drop, length, take, refl, sym, ap, subst, arith}
use Rattle.idl_lex.proofs.PieceLemmas.{further-within, is_piece-further, largest-is, longer-fails, longest-further}
use Rattle.idl_lex.proofs.TokensLemmas.{bytes_of-take, from_piece, length-bytes_of, tokens_after-drop, tokens_after-nil, tokens_after-piece}
use Rattle.idl_lex.specs.bytes.Context.{is_include, context_after}
use Rattle.idl_text.specs.Cut.{first_bytes, AreTokensOf, IsLongest}
use Rattle.idl_text.specs.Cut.AreTokensOf.{nothing, piece}
use Rattle.idl_lex.specs.bytes.Piece.{is_piece, longest}
use Rattle.idl_lex.specs.bytes.Scan.{further}
use Rattle.idl_lex.specs.bytes.Text.{Placed, bytes_of}
use Rattle.idl_lex.specs.tokens.Tokens.{token_if, tokens_after}
use Rattle.idl_lex.specs.declared.bytes.context.Context.{Context}
use Rattle.idl_lex.specs.declared.tokens.token.PlacedToken.{PlacedToken}

-- the further bytes of the longest piece
abbrev rest_of : Context → Placed → List Placed → ℕ
rest_of c p text = further (is_include c.beginning) p.byte (bytes_of text)

first_bytes-take : (p : Placed) (text : List Placed) (m : ℕ) → first_bytes m (p ∷ text) ≡ take m (p.byte ∷ bytes_of text)
first_bytes-take p text m = bytes_of-take m (p ∷ text)

IsLongest-rest_of : (c : Context) (p : Placed) (text : List Placed) → IsLongest c (p ∷ text) (suc (rest_of c p text))
IsLongest-rest_of c p text =
    let includes = is_include c.beginning in
    let le = further-within includes p.byte (bytes_of text) in
    record {
      within = omega (arith, le, length-bytes_of text);
      is = ap (is_piece includes) (first_bytes-take p text (suc (rest_of c p text))) ∙ is_piece-further includes p.byte (bytes_of text);
      no_longer = λ m more within. ap (is_piece includes) (first_bytes-take p text m) ∙ longer-fails includes p.byte (bytes_of text) m more (omega (arith, within, length-bytes_of text));
    }

IsLongest-one : (c : Context) (p : Placed) (text : List Placed) (n : ℕ) → IsLongest c (p ∷ text) (suc n) → rest_of c p text ≡ n
unfolding longest
IsLongest-one c p text n h =
    let includes = is_include c.beginning in
    let bytes = p.byte ∷ bytes_of text in
    let within = h.within in
    let one : longest (is_piece includes) bytes ≡ suc n =
    largest-is (λ k. is_piece includes (take k bytes)) (suc (length (bytes_of text))) (suc n) (omega (arith, within, length-bytes_of text))
    (ap (is_piece includes) (sym (first_bytes-take p text (suc n))) ∙ h.is)
    (λ m more le. ap (is_piece includes) (sym (first_bytes-take p text m)) ∙ h.no_longer m more (omega (arith, le, length-bytes_of text))) in
    omega (arith, one, longest-further includes p.byte (bytes_of text))

AreTokensOf-cons : (c : Context) (p : Placed) (text : List Placed) → ((d : Context) (n : ℕ) → AreTokensOf d (drop n text) (tokens_after d n text)) → AreTokensOf c (p ∷ text) (from_piece c p text (rest_of c p text))
AreTokensOf-cons c p text rest =
    let n = rest_of c p text in
    let d = context_after c (p.byte ∷ bytes_of (take n text)) in
    piece c p text n (tokens_after d n text) (IsLongest-rest_of c p text) (rest d n)

AreTokensOf-after : (c : Context) (n : ℕ) (text : List Placed) → AreTokensOf c (drop n text) (tokens_after c n text)
unfolding tokens_after
AreTokensOf-after c zero [] = nothing c
AreTokensOf-after c (suc n) [] = nothing c
AreTokensOf-after c (suc n) (p ∷ text) = AreTokensOf-after c n text
AreTokensOf-after c zero (p ∷ text) =
    subst (λ ts. AreTokensOf c (p ∷ text) ts) (sym (tokens_after-piece c p text (rest_of c p text) refl)) (AreTokensOf-cons c p text (λ d n. AreTokensOf-after d n text))

-- no other tokens are those of the text
AreTokensOf-one : (c : Context) (text : List Placed) (tokens : List PlacedToken) → AreTokensOf c text tokens → tokens ≡ tokens_after c 0 text
AreTokensOf-one c text tokens (nothing d) = sym (tokens_after-nil c)
AreTokensOf-one c text tokens (piece d p later n rest long are) =
    let after = context_after c (p.byte ∷ bytes_of (take n later)) in
    ap (λ ts. token_if c (p.byte ∷ bytes_of (take n later)) p.line ++ ts) (AreTokensOf-one after (drop n later) rest are ∙ sym (tokens_after-drop after n later))
    ∙ sym (tokens_after-piece c p later n (IsLongest-one c p later n long))

pub AreTokensOf-tokens_after : (c : Context) (text : List Placed) (tokens : List PlacedToken) → AreTokensOf c text tokens ↔ (tokens ≡ tokens_after c 0 text)
AreTokensOf-tokens_after c text tokens =
    (AreTokensOf-one c text tokens, λ e. subst (λ ts. AreTokensOf c text ts) (sym e) (AreTokensOf-after c 0 text))
