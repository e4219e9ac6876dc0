use Rattle.std.proofs.Common.{◌≡◌, ◌∙◌, ◌+◌, ◌<◌, ◌≤◌, [], Some, false, ap, arith, get_or, length, map, sym}
use Rattle.std.proofs.lemmas.List.{get_or-map, length-map}
use Rattle.std.proofs.lemmas.List.Elements.{All-get_or}
use Rattle.std.specs.List.{slice_get, slice_range}
use Rattle.idl_lex.specs.tokens.Apart.{place_of, placed_at}
use Rattle.idl_text.specs.Moved.{moved_token}
use Rattle.idl_lex.specs.declared.tokens.chunk_tokens.TokenPlace.{TokenPlace}
use Rattle.idl_lex.specs.declared.tokens.token.PlacedToken.{PlacedToken}
use Rattle.idl_base.proofs.PartLemmas.{length-part}
use Rattle.idl_text.proofs.WalkLemmas.{line-read}
use Rattle.idl_text.proofs.tokens.file_tokens.FileTokens.line_at.Goals as goal

abbrev nowhere : TokenPlace
nowhere = record { line = 0; starts_line = false; follows_word = false }

pub overflow_add-result-2 : goal.overflow_add-result-2
overflow_add-result-2 c =
    let it = c.self.inside in
    let all = it.tokens.now in
    let i = it.from + c.args.index in
    let part = slice_range all it.from it.to in
    let here : i < length all = omega (arith, c.requires, ap length c.self.view_is, length-map part (moved_token it.lines_before), length-part all it.from it.to c.self.invariant.1, c.self.invariant.1, c.self.invariant.0) in
    let d = placed_at [] nowhere in
    let same : (get_or c.places.result.now i nowhere).line ≡ (get_or all i d).line = ap (λ ps. (get_or ps i nowhere).line) c.places.ensures ∙ ap (λ (p : TokenPlace). p.line) (get_or-map place_of all i d nowhere here) in
    omega (arith, same, All-get_or (λ (t : PlacedToken). t.line ≤ 200000) all i d here c.self.invariant.3, c.self.invariant.2)

pub returns : goal.returns
returns c =
    let it = c.self.inside in
    let all = it.tokens.now in
    let index = c.args.index in
    let part = slice_range all it.from it.to in
    let lt : it.from + index < it.to = omega (arith, c.requires, ap length c.self.view_is, length-map part (moved_token it.lines_before), length-part all it.from it.to c.self.invariant.1, c.self.invariant.0) in
    ap (λ ts. slice_get (map (λ (t : PlacedToken). t.line) ts) index) (sym c.self.view_is)
    ∙ line-read it.lines_before all it.from it.to index nowhere lt c.self.invariant.1
    ∙ ap (λ ps. Some (it.lines_before + (get_or ps (it.from + index) nowhere).line)) (sym c.places.ensures)
