use Rattle.std.proofs.Common.{◌≡◌, ◌∙◌, ◌⊎◌, ◌<◌, ◌≤◌, ap, arith, drop, length, length-drop, refl, subst, sym, take}
use Rattle.idl_text.specs.Chunk.{IsChunk}
use Rattle.idl_text.specs.declared.tokens.chunk.Chunk.{Chunk}
use Rattle.idl_text.proofs.ChunkLemmas.{AreChunksOf-Contains, IsChunk-same}
use Rattle.idl_text.proofs.tokens.chunks.Chunks.same_chunk.Goals as goal

pub split_at-requires : goal.split_at-requires
split_at-requires c =
    let chunks = c.args.self.now in
    let b = c.in_ok-placed.placed.now in
    let is = AreChunksOf-Contains chunks.file chunks.placed.items b c.requires c.in_ok-placed.ensures.0 in
    omega (arith, is.some, is.within, c.in_ok-placed.ensures.1, length-drop b.lines_before chunks.file, ap length c.lines.ensures)

pub begin_alike-requires : goal.begin_alike-requires
begin_alike-requires c =
    let chunks = c.args.self.now in
    let b = c.in_ok-placed.placed.now in
    let is = AreChunksOf-Contains chunks.file chunks.placed.items b c.requires c.in_ok-placed.ensures.0 in
    let own : c.split_at.result.1.now ≡ drop b.lines_before chunks.file =
    c.split_at.ensures.back ∙ (λ i. drop (sym c.in_ok-placed.ensures.1 i) (c.lines.ensures i)) in
    omega (arith, is.within, ap length own, ap (λ (x : Chunk). x.lines) c.deref.ensures)

pub returns : goal.returns
returns c =
    let chunks = c.args.self.now in
    let b = c.in_ok-placed.placed.now in
    let chunk = b.chunk.value in
    let is = AreChunksOf-Contains chunks.file chunks.placed.items b c.requires c.in_ok-placed.ensures.0 in
    let own : c.split_at.result.1.now ≡ drop b.lines_before chunks.file =
    c.split_at.ensures.back ∙ (λ i. drop (sym c.in_ok-placed.ensures.1 i) (c.lines.ensures i)) in
    let count : c.deref.result.now.lines ≡ chunk.lines = ap (λ (x : Chunk). x.lines) c.deref.ensures in
    let alike = c.if-not-begin_alike.ensures in
    IsChunk-same c.split_at.result.1.now c.args.lines.now chunk (subst (λ ls. IsChunk ls chunk) (sym own) is)
    (subst (λ n. take n c.args.lines.now ≡ take n c.split_at.result.1.now) count (alike.same refl))
    (subst (λ n. n ≤ length c.args.lines.now) count (alike.within refl))
    (subst (λ n. (n < length c.split_at.result.1.now) ⊎ (n ≡ length c.args.lines.now)) count (alike.end refl))
