use Rattle.std.proofs.Common.{◌≡◌, ◌∙◌, ◌+◌, ◌<◌, ◌≤◌, ◌∷◌, [], false, ap, arith, get_or, length, map, sym}
use Rattle.std.proofs.lemmas.List.{get_or-map}
use Rattle.std.proofs.lemmas.List.Elements.{All-get_or}
use Rattle.std.specs.List.{slice_range}
use Rattle.idl_lex.specs.tokens.Apart.{place_of, placed_at}
use Rattle.idl_text.specs.Moved.{moved_token, moved_tokens}
use Rattle.idl_lex.specs.tokens.Tokens.{tokens_in}
use Rattle.idl_lex.specs.declared.tokens.chunk_tokens.TokenPlace.{TokenPlace}
use Rattle.idl_lex.specs.declared.tokens.token.PlacedToken.{PlacedToken}
use Rattle.idl_lex.proofs.ApartLemmas.{placed_at-read}
use Rattle.idl_base.proofs.PartLemmas.{part-first}
use Rattle.idl_text.proofs.tokens.file_tokens.FileTokens.split_first.Goals as goal

abbrev nowhere : TokenPlace
nowhere = record { line = 0; starts_line = false; follows_word = false }

pub invariant_of-first : goal.invariant_of-first
invariant_of-first c =
    let it = c.self.inside in
    let all = it.tokens.now in
    let i = it.from in
    let here : i < length all = omega (arith, c.if-self.false, c.self.invariant.0, c.self.invariant.1) in
    let d = placed_at [] nowhere in
    let same : (get_or c.places.result.now i nowhere).line ≡ (get_or all i d).line = ap (λ ps. (get_or ps i nowhere).line) c.places.ensures ∙ ap (λ (p : TokenPlace). p.line) (get_or-map place_of all i d nowhere here) in
    (c.self.invariant.2, omega (arith, same, All-get_or (λ (t : PlacedToken). t.line ≤ 200000) all i d here c.self.invariant.3))

pub returns : goal.returns
returns c =
    let it = c.self.inside in
    let all = it.tokens.now in
    let i = it.from in
    let some : i < it.to = omega (arith, c.if-self.false, c.self.invariant.0) in
    let here : i < length all = omega (arith, some, c.self.invariant.1) in
    let token = c.index.result.now in
    let place = get_or c.places.result.now i nowhere in
    let token_is : token ≡ get_or (tokens_in all) i token =
    c.index.ensures ∙ ap (λ v. get_or v.items i token) c.deref.ensures ∙ ap (λ ts. get_or ts i token) c.tokens.ensures in
    let place_is : place ≡ get_or (map place_of all) i nowhere = ap (λ ps. get_or ps i nowhere) c.places.ensures in
    sym c.self.view_is
    ∙ ap (moved_tokens it.lines_before) (part-first all i it.to (placed_at token place) some c.self.invariant.1)
    ∙ ap (λ t. moved_token it.lines_before t ∷ moved_tokens it.lines_before (slice_range all (i + 1) it.to)) (sym (placed_at-read all i token place nowhere here token_is place_is))
