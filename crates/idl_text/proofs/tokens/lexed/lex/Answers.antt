use Rattle.std.proofs.Common.{◌≡◌, ◌∙◌, ◌+◌, ◌≤◌, ◌++◌, ◌∷◌, [], ap, arith, drop, length, length-drop, rules, subst, sym}
use Rattle.std.proofs.lemmas.List.{take_rest}
use Rattle.idl_text.specs.Chunk.{AreChunks, IsChunk, lines_in_chunks, tokens_in_chunks}
use Rattle.idl_text.specs.declared.tokens.chunk.Chunk.{Chunk}
use Rattle.idl_text.specs.declared.tokens.chunk.PlacedChunk.{PlacedChunk}
use Rattle.idl_text.proofs.ChunkLemmas.{AreChunks-push, lines_in-push, tokens_in-push}
use Rattle.idl_text.proofs.tokens.lexed.lex.Goals as goal

pub next_chunk-requires-clause-room : goal.next_chunk-requires-clause-room
next_chunk-requires-clause-room c =
    let lines = c.lines-lines.result.now in
    subst (λ ls. length ls ≤ 200000) (sym (take_rest lines c.cut.count)) (omega (arith, length-drop c.cut.count lines, ap length c.lines-lines.ensures, c.line_count-total.ensures.count, c.line_count-total.ensures.within))

pub cut-preserved : goal.cut-preserved
cut-preserved c =
    let lines = c.lines-lines.result.now in
    let count = c.cut.count in
    let chunks = c.cut.placed.items in
    let chunk = c.in_ok-chunk.chunk.value in
    let b : PlacedChunk = record { chunk = c.in_ok-chunk.chunk; lines_before = count; tokens_before = c.cut.tokens } in
    let is : IsChunk (drop count lines) chunk = subst (λ ls. IsChunk ls chunk) (take_rest lines count) c.in_ok-chunk.ensures in
    let there : c.push.new.self.items ≡ chunks ++ b ∷ [] = search rules in
    let same : c.deref.result.now.lines ≡ chunk.lines = ap (λ (x : Chunk). x.lines) c.deref.ensures in
    let more : c.in_ok-tokens.tokens ≡ c.cut.tokens + length chunk.tokens = c.in_ok-tokens.ensures.sum ∙ ap (λ (x : Chunk). c.cut.tokens + length x.tokens) c.deref-in-cut.ensures in
    let here = c.cut.invariant in
    record {
      within = omega (arith, same, is.within, length-drop count lines, here.within);
      chunks = subst (AreChunks lines 0 0) (sym there)
          (AreChunks-push lines 0 0 chunks b here.chunks (omega (arith, here.lines)) (omega (arith, here.tokens)) (subst (λ n. IsChunk (drop n lines) chunk) here.lines is));
      lines = omega (arith, same, here.lines, lines_in-push chunks b, ap lines_in_chunks there);
      room = c.in_ok-tokens.ensures.fits;
      tokens = omega (arith, more, here.tokens, tokens_in-push chunks b, ap (λ bs. length (tokens_in_chunks bs)) there);
    }

pub invariant_of-result : goal.invariant_of-result
invariant_of-result c =
    let lines = c.lines-lines.result.now in
    let file = c.in_ok-clone.field-0 in
    let same : lines ≡ file = c.lines-lines.ensures ∙ sym c.in_ok-clone.ensures.cases in
    let here = c.cut.invariant in
    let size : length lines ≡ c.line_count-total.result = omega (arith, c.line_count-total.ensures.count, ap length c.lines-lines.ensures) in
    record {
      each = subst (λ ls. AreChunks ls 0 0 c.cut.placed.items) same here.chunks;
      whole = omega (arith, here.lines, here.within, c.cut-test.false, size, ap length same);
      few = omega (arith, size, c.line_count-total.ensures.within, ap length same);
      countable = omega (arith, here.tokens, here.room);
    }

pub returns : goal.returns
returns c = c.in_ok-clone.ensures.cases
