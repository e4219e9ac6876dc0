use Rattle.std.proofs.Common.{◌≡◌, ◌<◌, length, get_or, ap, sym, ◌∙◌, rules}
use Rattle.std.proofs.lemmas.Cmp.{ranked}
use Rattle.std.proofs.lemmas.List.Sorted.{answers_always}
use Rattle.std.specs.List.{HoldsAt}
use Rattle.std.specs.Ordering.{nat_cmp}
use Rattle.std.specs.declared.cmp.Ordering.TheVariants.{Equal}
use Rattle.idl_text.specs.declared.tokens.chunk.PlacedChunk.{PlacedChunk}
use Rattle.idl_text.proofs.tokens.chunks.Chunks.chunk_behind.Goals as goal

pub returns-in-Ok : goal.returns-in-Ok
returns-in-Ok c =
    let chunks = c.args.self.now.placed.items in
    let place = c.in-Ok.place in
    let chunk = c.index.result.now in
    let found : HoldsAt (λ (b : PlacedChunk). nat_cmp b.lines_before c.args.before ≡ Equal) chunks place =
    rw c.deref.ensures.value at (c.in-Ok.ensures.position (λ (b : PlacedChunk). b.lines_before) (answers_always _ _ _ (λ f a r g called. search rules))) in
    let within : place < length chunks = rw c.deref.ensures.value at c.in-Ok.ensures.bound in
    let first : (get_or chunks place chunk).lines_before ≡ c.args.before = ranked (get_or chunks place chunk).lines_before c.args.before Equal (sym (found chunk)) in
    ((place, within, sym c.index.ensures), ap (λ (b : PlacedChunk). b.lines_before) c.index.ensures ∙ first)
