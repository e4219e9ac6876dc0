use Rattle.std.proofs.Common.{◌≡◌, ◌∙◌, ◌+◌, ◌<◌, inl, inr, ap, arith, codes, drop, false, get_or, length, refl, rules}
use Rattle.std.proofs.lemmas.List.{length-map, take_rest}
use Rattle.std.specs.List.{prefix_len}
use Rattle.std.specs.Str.{bytes_eq}
use Rattle.std.specs.Prelude.{not}
use Rattle.idl_lex.specs.tokens.Tokens.{followers_on_line, tokens_in}
use Rattle.idl_lex.specs.declared.tokens.chunk_tokens.TokenPlace.{TokenPlace}
use Rattle.idl_lex.specs.declared.tokens.token.PlacedToken.{PlacedToken}
use Rattle.idl_text.proofs.TextLemmas.{IsMoreText-next, IsText-none, is_text-read}
use Rattle.idl_text.proofs.WalkLemmas.{followers-from}
use Rattle.idl_text.proofs.tokens.file_tokens.FileTokens.text_len.Goals as goal

pub lines-init : goal.lines-init
lines-init c = record { within = omega arith; begins = inl refl; text = IsText-none }

pub lines-preserved : goal.lines-preserved
lines-preserved c =
    let it = c.self.inside in
    let all = it.tokens.now in
    let now = c.args.self.now in
    let count = c.lines.count in
    let token = c.index-tokens-count.result in
    let places = c.places.result.now in
    let here : count < length now = omega (arith, c.lines-test.true, ap length c.as_slice-tokens.ensures, length-map now (λ (t : PlacedToken). t.token)) in
    let token_is : token ≡ get_or (tokens_in now) count token = c.index-tokens-count.is ∙ ap (λ ts. get_or ts count token) c.as_slice-tokens.ensures in
    let differs : bytes_eq token (codes "#") ≡ false = search rules in
    let rest : 1 + c.line_rest.result ≡ 1 + followers_on_line (drop (count + 1) now) =
    ap (λ n. 1 + n)
    (c.line_rest.ensures.len
    ∙ ap (prefix_len (λ (p : TokenPlace). not p.starts_line)) (take_rest _ (count + 1))
    ∙ followers-from it.lines_before all now places it.from it.to (count + 1) c.places.ensures c.self.view_is) in
    let more = IsMoreText-next now count (1 + c.line_rest.result) here c.lines.invariant.begins c.lines.invariant.text rest (is_text-read now count token here token_is differs) in
    record { within = more.within; begins = inr more.begins; text = more.text }
