use Rattle.std.proofs.Common.{◌≡◌, ◌∙◌, ◌≤◌, ◌<◌, ap, arith, drop, get_or, length, sym, rules, leb, take}
use Rattle.std.proofs.lemmas.Bool.{ltb-false}
use Rattle.std.proofs.lemmas.List.Sorted.{IsPartitionPoint-from_clause, IsPartitionedBy-leb}
use Rattle.idl_lex.specs.tokens.Tokens.{tokens_of}
use Rattle.idl_text.specs.Chunk.{tokens_in_chunks}
use Rattle.idl_text.specs.declared.tokens.chunk.PlacedChunk.{PlacedChunk}
use Rattle.idl_text.proofs.ChunkLemmas.{AreChunksOf-tokens, tokens_in-all}
use Rattle.idl_text.proofs.WalkLemmas.{IsNear-point, no_tokens, tokens_before-rises}
use Rattle.idl_text.proofs.tokens.lexed.Lexed.behind.Goals as goal
use Rattle.idl_text.proofs.tokens.lexed.Lexed.behind.Goals.{in-Some, in-None}

pub overflow_sub-place : goal.overflow_sub-place
overflow_sub-place c =
    let file = c.self.inside.chunks.file in
    let chunks = c.self.inside.chunks.placed.items in
    let before = c.args.before in
    let count = c.partition_point-count.result in
    let chunk = c.saturating_sub-chunk.result in
    let point = IsPartitionPoint-from_clause (λ (x : PlacedChunk). leb x.tokens_before before) chunks count (rw c.deref.ensures.value at c.partition_point-count.ensures.partitioned)
    (IsPartitionedBy-leb (λ (x : PlacedChunk). x.tokens_before) chunks before (tokens_before-rises file chunks c.self.invariant)) (λ a r q k. search rules) in
    let b = c.in-Some.placed.now in
    let there : (chunk < length chunks) × ((d : PlacedChunk) → b ≡ get_or chunks chunk d) = rw c.deref-2.ensures.value at c.in-Some.ensures.lookup.3 in
    let near = IsNear-point file chunks before count chunk b c.self.invariant point.0 c.saturating_sub-chunk.ensures there.0 (there.1 b) in
    near.few

pub new-requires-clause-place : goal.new-requires-clause-place
new-requires-clause-place c =
    let file = c.self.inside.chunks.file in
    let chunks = c.self.inside.chunks.placed.items in
    let before = c.args.before in
    let count = c.partition_point-count.result in
    let chunk = c.saturating_sub-chunk.result in
    let point = IsPartitionPoint-from_clause (λ (x : PlacedChunk). leb x.tokens_before before) chunks count (rw c.deref.ensures.value at c.partition_point-count.ensures.partitioned)
    (IsPartitionedBy-leb (λ (x : PlacedChunk). x.tokens_before) chunks before (tokens_before-rises file chunks c.self.invariant)) (λ a r q k. search rules) in
    let all = c.deref-3.ensures.value in
    let same : tokens_in_chunks chunks ≡ tokens_of c.args.self.now = AreChunksOf-tokens file chunks c.self.invariant ∙ ap tokens_of c.self.view_is in
    elim c.match-get.branch [
      | in-Some w ↦
          let b = w.in-Some.placed.now in
          let there : (chunk < length chunks) × ((d : PlacedChunk) → b ≡ get_or chunks chunk d) = rw c.deref-2.ensures.value at w.in-Some.ensures.lookup.3 in
          let near = IsNear-point file chunks before count chunk b c.self.invariant point.0 c.saturating_sub-chunk.ensures there.0 (there.1 b) in
          omega (arith, near.few, near.is, w.place-is, ap (λ bs. length (tokens_in_chunks (take chunk bs))) all)
      | in-None w ↦
          let past : length chunks ≤ chunk = omega (arith, ltb-false chunk (length c.deref-2.result.now) (sym w.in-None.ensures.lookup.0), ap length c.deref-2.ensures.value) in
          omega (
            arith,
            w.place-is,
            c.requires,
            ap length same,
            ap length (tokens_in-all chunks chunk past),
            ap (λ bs. length (tokens_in_chunks (take chunk bs))) all,
            no_tokens chunks (omega (arith, past, c.saturating_sub-chunk.ensures, c.partition_point-count.ensures.bound, ap length c.deref.ensures.value)),
          )
    ]

pub new-requires-clause-within : goal.new-requires-clause-within
new-requires-clause-within c =
    let it = c.self.inside.chunks in
    let same : tokens_in_chunks it.placed.items ≡ tokens_of c.args.self.now = AreChunksOf-tokens it.file it.placed.items c.self.invariant ∙ ap tokens_of c.self.view_is in
    omega (arith, c.requires, ap length same, ap (λ bs. length (tokens_in_chunks bs)) c.deref-3.ensures.value)

pub returns : goal.returns
returns c =
    let it = c.self.inside.chunks in
    c.new.ensures
    ∙ (λ i. drop c.args.before (tokens_in_chunks (c.deref-3.ensures.value i)))
    ∙ ap (drop c.args.before) (AreChunksOf-tokens it.file it.placed.items c.self.invariant ∙ ap tokens_of c.self.view_is)
