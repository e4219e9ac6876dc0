use Rattle.std.proofs.Common.{◌∙◌, ◌+◌, ◌≤◌, ap, arith, drop, length, sym, take}
use Rattle.std.proofs.lemmas.List.{length-map, take-map}
use Rattle.std.specs.List.{drop-map, slice_range}
use Rattle.idl_text.specs.Moved.{moved_token, moved_tokens}
use Rattle.idl_base.proofs.PartLemmas.{length-part, part-drop, part-take}
use Rattle.idl_text.proofs.tokens.file_tokens.FileTokens.split_at.Goals as goal

pub returns-clause-front : goal.returns-clause-front
returns-clause-front c =
    let it = c.self.inside in
    let all = it.tokens.now in
    let count = c.args.count in
    let part = slice_range all it.from it.to in
    let within : it.from + count ≤ it.to = omega (arith, c.requires, ap length c.self.view_is, length-map part (moved_token it.lines_before), length-part all it.from it.to c.self.invariant.1) in
    sym (ap (take count) (sym c.self.view_is) ∙ take-map (moved_token it.lines_before) count part ∙ ap (moved_tokens it.lines_before) (part-take all it.from it.to count within))

pub returns-clause-back : goal.returns-clause-back
returns-clause-back c =
    let it = c.self.inside in
    let all = it.tokens.now in
    let count = c.args.count in
    let part = slice_range all it.from it.to in
    let within : it.from + count ≤ it.to = omega (arith, c.requires, ap length c.self.view_is, length-map part (moved_token it.lines_before), length-part all it.from it.to c.self.invariant.1) in
    sym (ap (drop count) (sym c.self.view_is) ∙ drop-map (moved_token it.lines_before) count part ∙ ap (moved_tokens it.lines_before) (part-drop all it.from it.to count within))
