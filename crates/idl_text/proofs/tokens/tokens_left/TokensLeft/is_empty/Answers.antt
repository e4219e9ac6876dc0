use Rattle.std.proofs.Common.{◌≡◌, ◌∙◌, ap, arith, drop, leb-true, length, length-drop, sym, []}
use Rattle.std.proofs.lemmas.Bool.{le-leb}
use Rattle.std.proofs.lemmas.List.{drop_all}
use Rattle.idl_text.specs.Chunk.{tokens_in_chunks}
use Rattle.idl_text.proofs.WalkLemmas.{IsPlace-none, IsPlace-past}
use Rattle.idl_text.proofs.tokens.tokens_left.TokensLeft.is_empty.Goals as goal

pub returns : goal.returns
returns c =
    let it = c.self.inside in
    let chunks = it.chunks.now in
    let all = tokens_in_chunks chunks in
    let is = c.self.invariant.1 in (
      λ past. sym c.self.view_is ∙ drop_all it.before all (omega (arith, IsPlace-none chunks it.chunk it.place it.before is (leb-true (length chunks) it.chunk past))),
      λ none.
          let e : drop it.before all ≡ [] = c.self.view_is ∙ none in
          le-leb (length chunks) it.chunk (IsPlace-past chunks it.chunk it.place it.before is (omega (arith, ap length e, length-drop it.before all))),
    )
