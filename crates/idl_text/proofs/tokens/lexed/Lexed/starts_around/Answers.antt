use Rattle.std.proofs.Common.{◌≡◌, ◌∙◌, ◌+◌, List, ℕ, ap, arith, drop, length, sym, take}
use Rattle.idl_lex.specs.bytes.Columns.{text_from}
use Rattle.idl_text.specs.Chunk.{tokens_there}
use Rattle.idl_text.specs.Starts.{on_line, starts_in, starts_left, starts_of}
use Rattle.idl_text.specs.declared.tokens.chunk.Chunk.{Chunk}
use Rattle.idl_text.proofs.ChunkStarts.{near-line, no-starts}
use Rattle.idl_text.proofs.LaidOutLemmas.{line-within}
use Rattle.idl_text.proofs.tokens.lexed.Lexed.starts_around.Goals as goal

pub returns-in_default-clause-line : goal.returns-in_default-clause-line
returns-in_default-clause-line c =
    let it = c.self.inside.chunks in
    ap (λ (ls : List (List ℕ)). on_line c.args.line (starts_of ls)) (sym c.self.view_is) ∙ no-starts it.file it.placed.items c.args.line c.self.invariant c.in_default.ensures

pub split_at-requires : goal.split_at-requires
split_at-requires c =
    let it = c.self.inside.chunks in
    let near = near-line it.file it.placed.items c.args.line c.in-Some.placed.now c.self.invariant c.in-Some.ensures in
    omega (arith, near.within, ap length c.lines.ensures)

pub split_at-requires-2 : goal.split_at-requires-2
split_at-requires-2 c =
    let it = c.self.inside.chunks in
    let b = c.in-Some.placed.now in
    let near = near-line it.file it.placed.items c.args.line b c.self.invariant c.in-Some.ensures in
    let from : c.split_at.result.1.now ≡ drop b.lines_before it.file = c.split_at.ensures.back ∙ ap (λ (ls : List (List ℕ)). drop b.lines_before ls) c.lines.ensures in
    omega (arith, near.chunk.within, ap length from, ap (λ (x : Chunk). x.lines) c.deref.ensures)

pub new-requires-clause-numbers : goal.new-requires-clause-numbers
new-requires-clause-numbers c =
    let it = c.self.inside.chunks in
    (near-line it.file it.placed.items c.args.line c.in-Some.placed.now c.self.invariant c.in-Some.ensures).numbers

-- they begin where those of the chunk do
starts : (c : goal.After-new-starts) → let b = c.in-Some.placed.now in
    starts_left c.new-starts.result ≡ starts_in (tokens_there b) (text_from (b.lines_before + 1) (take b.chunk.value.lines (drop b.lines_before c.self.inside.chunks.file)))
starts c =
    let it = c.self.inside.chunks in
    let b = c.in-Some.placed.now in
    let from : c.split_at.result.1.now ≡ drop b.lines_before it.file = c.split_at.ensures.back ∙ ap (λ (ls : List (List ℕ)). drop b.lines_before ls) c.lines.ensures in
    let count : c.deref.result.now.lines ≡ b.chunk.value.lines = ap (λ (x : Chunk). x.lines) c.deref.ensures in
    let own : c.split_at-2.result.0.now ≡ take b.chunk.value.lines (drop b.lines_before it.file) = c.split_at-2.ensures.front ∙ (λ i. take (count i) (from i)) in
    let text : c.new-2.result ≡ text_from (b.lines_before + 1) (take b.chunk.value.lines (drop b.lines_before it.file)) =
    c.new-2.ensures ∙ ap (λ (ls : List (List ℕ)). text_from (b.lines_before + 1) ls) own in
    let tokens : c.new.result ≡ tokens_there b = c.new.ensures in
    c.new-starts.ensures ∙ (λ i. starts_in (tokens i) (text i))

pub returns-clause-line : goal.returns-clause-line
returns-clause-line c =
    let it = c.self.inside.chunks in
    let near = near-line it.file it.placed.items c.args.line c.in-Some.placed.now c.self.invariant c.in-Some.ensures in
    ap (on_line c.args.line) (starts c) ∙ near.same ∙ ap (λ (ls : List (List ℕ)). on_line c.args.line (starts_of ls)) c.self.view_is

pub returns-clause-chunk : goal.returns-clause-chunk
returns-clause-chunk c = λ line above within.
    let it = c.self.inside.chunks in
    let b = c.in-Some.placed.now in
    let count : c.deref.result.now.lines ≡ b.chunk.value.lines = ap (λ (x : Chunk). x.lines) c.deref.ensures in
    let of = line-within it.file it.placed.items line c.args.line b c.self.invariant c.in-Some.ensures above (omega (arith, within, count)) in
    let near = near-line it.file it.placed.items line b c.self.invariant of in
    ap (on_line line) (starts c) ∙ near.same ∙ ap (λ (ls : List (List ℕ)). on_line line (starts_of ls)) c.self.view_is
