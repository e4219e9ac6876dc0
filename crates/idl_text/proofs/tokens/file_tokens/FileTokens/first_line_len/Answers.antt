use Rattle.std.proofs.Common.{◌≡◌, ◌∙◌, ◌+◌, ◌-◌, ap, arith, drop, length, sym}
use Rattle.std.proofs.lemmas.List.{length-map}
use Rattle.std.specs.List.{drop-map, slice_range}
use Rattle.idl_lex.specs.tokens.Apart.{place_of}
use Rattle.idl_text.specs.Moved.{moved_token, moved_tokens}
use Rattle.idl_lex.specs.tokens.Tokens.{followers_on_line}
use Rattle.idl_base.proofs.PartLemmas.{length-part, part-drop}
use Rattle.idl_text.proofs.WalkLemmas.{followers-range}
use Rattle.idl_text.proofs.tokens.file_tokens.FileTokens.first_line_len.Goals as goal

pub returns : goal.returns
returns c =
    let it = c.self.inside in
    let all = it.tokens.now in
    let down = it.lines_before in
    let part = slice_range all it.from it.to in
    let size : length c.args.self.now ≡ it.to - it.from = sym (ap length c.self.view_is) ∙ length-map part (moved_token down) ∙ length-part all it.from it.to c.self.invariant.1 in
    let places = c.places.result.now in
    let rest : moved_tokens down (slice_range all (it.from + 1) it.to) ≡ drop 1 c.args.self.now =
    sym (ap (drop 1) (sym c.self.view_is) ∙ drop-map (moved_token down) 1 part ∙ ap (moved_tokens down) (part-drop all it.from it.to 1 (omega (arith, c.requires, size)))) in
    record {
      len = ap (λ n. 1 + n) (c.line_rest.ensures.len ∙ followers-range down all places (it.from + 1) it.to c.places.ensures ∙ ap followers_on_line rest);
      within = omega (arith, c.requires, size, c.line_rest.ensures.within, length-part places (it.from + 1) it.to (omega (arith, ap length c.places.ensures, length-map all place_of, c.self.invariant.1)));
    }
