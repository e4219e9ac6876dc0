use Rattle.std.proofs.Common.{◌≡◌, ◌≢◌, ◌∙◌, ◌⊎◌, inl, inr, ◌<◌, ◌-◌, ℕ, zero, suc, true, List, ap, arith, get_or, length, rules, sym}
use Rattle.std.proofs.Math.Dec.{ltb}
use Rattle.std.proofs.lemmas.Bool.{eqb-false, ltb-false, ltb-true}
use Rattle.std.proofs.lemmas.List.Sorted.{IsPartitionPoint-from_clause, IsPartitionedBy-ltb}
use Rattle.std.specs.List.{AllWithin}
use Rattle.idl_text.specs.declared.tokens.chunk.PlacedChunk.{PlacedChunk}
use Rattle.idl_text.proofs.WalkLemmas.{lines_before-rises}
use Rattle.idl_text.proofs.tokens.chunks.Chunks.chunk_of.Goals as goal

-- the chunk before the first that doesn't begin above a line
above-line : (chunks : List PlacedChunk) (line count place : ℕ) (b : PlacedChunk) → AllWithin (λ (x : PlacedChunk). ltb x.lines_before line ≡ true) chunks 0 count → place ≡ count - 1 → get_or chunks place b ≡ b
    → (place ≡ 0) ⊎ (b.lines_before < line)
above-line chunks line zero place b all is same = inl (omega (arith, is))
above-line chunks line (suc count) place b all is same =
    let before = all place b (omega arith) (omega (arith, is)) in
    inr (ltb-true b.lines_before line (sym (ap (λ (x : PlacedChunk). ltb x.lines_before line) same) ∙ before))

pub returns : goal.returns
returns c =
    let it = c.args.self.now in
    let chunks = it.placed.items in
    let line = c.args.line in
    let count = c.partition_point-count.result in
    let place = c.saturating_sub.result in
    let b = c.index.result.now in
    let point = IsPartitionPoint-from_clause (λ (x : PlacedChunk). ltb x.lines_before line) chunks count (rw c.deref.ensures.value at c.partition_point-count.ensures.partitioned)
    (IsPartitionedBy-ltb (λ (x : PlacedChunk). x.lines_before) chunks line (lines_before-rises it.file chunks c.requires)) (λ a r q k. search rules) in
    let same : get_or chunks place b ≡ b = sym c.index.ensures in
    let some : it.placed.len ≢ 0 = eqb-false it.placed.len 0 (sym c.is_empty.ensures ∙ c.if-is_empty.false) in
    record {
      place = place;
      within = omega (arith, some, it.placed.ok.0, c.saturating_sub.ensures, c.partition_point-count.ensures.bound, ap length c.deref.ensures.value);
      is = same;
      above = above-line chunks line count place b point.0 c.saturating_sub.ensures same;
      others = λ j more less. ltb-false (get_or chunks j b).lines_before line (point.1 j b (omega (arith, more, c.saturating_sub.ensures)) less);
    }
