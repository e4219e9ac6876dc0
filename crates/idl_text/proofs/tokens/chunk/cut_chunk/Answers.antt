use Rattle.std.proofs.Common.{◌≡◌, ◌∙◌, ◌++◌, ◌+◌, ◌-◌, ◌≤◌, ◌<◌, [], inl, inr, ap, append-nil, arith, drop, length, length-drop, refl, subst, sym, take}
use Rattle.std.proofs.lemmas.List.{length-take-le, take_rest}
use Rattle.idl_text.specs.Chunk.{IsApart}
use Rattle.idl_lex.specs.bytes.Context.{line_start}
use Rattle.idl_lex.specs.tokens.Lexer.{coming, ended}
use Rattle.idl_lex.specs.tokens.Logical.{joined_count}
use Rattle.idl_text.specs.Moved.{moved_tokens}
use Rattle.idl_lex.specs.bytes.Text.{joined}
use Rattle.idl_lex.specs.tokens.Tokens.{tokens_after, tokens_of}
use Rattle.idl_text.proofs.ChunkLemmas.{CutMore-joined, ended-more, joined_count-pos, tokens_of-behind, tokens_of-joined}
use Rattle.idl_lex.proofs.LogicalLemmas.{joined-nil}
use Rattle.idl_lex.proofs.TokensLemmas.{tokens_after-nil}
use Rattle.idl_text.proofs.tokens.chunk.cut_chunk.Goals.{else-lines-test, then-lines-test+then-is_fresh+then-is_end}
use Rattle.idl_text.proofs.tokens.chunk.cut_chunk.Goals as goal

pub lines-init : goal.lines-init
lines-init c = record {
  within = omega arith;
  ends = λ some less. absurd (omega (arith, some));
  tokens = λ rest closed. ap (λ ts. ts ++ tokens_after line_start 0 (joined 1 rest)) c.in_ok-tokens.ensures ∙ sym (tokens_of-joined rest);
}

pub new-requires-clause-some : goal.new-requires-clause-some
new-requires-clause-some c =
    let lines = c.args.lines.now in
    let start = c.lines.count in
    let count = c.joined_count.result in
    let rest = drop start lines in
    let here : start < length lines = omega (arith, c.lines-test.true) in
    let left = take_rest lines start in
    let is : count ≡ joined_count rest = c.joined_count.ensures.count ∙ ap joined_count left in
    let within : count ≤ length rest = subst (λ ls. count ≤ length ls) left c.joined_count.ensures.within in
    omega (arith, is, joined_count-pos rest (omega (arith, here, length-drop start lines)), length-take-le (start + count - start) rest (omega (arith, within)))

pub lines-preserved : goal.lines-preserved
lines-preserved c =
    let lines = c.args.lines.now in
    let start = c.lines.count in
    let end = start + c.joined_count.result in
    let left = take_rest lines start in
    let here : start < length lines = omega (arith, c.lines-test.true) in
    let is : end ≡ start + joined_count (drop start lines) = ap (λ n. start + n) (c.joined_count.ensures.count ∙ ap joined_count left) in
    let some : c.joined_count.result ≤ length (drop start lines) = subst (λ ls. c.joined_count.result ≤ length ls) left c.joined_count.ensures.within in
    let within : end ≤ length lines = omega (arith, some, here, length-drop start lines) in
    record {
      within = within;
      ends = ended-more lines start end here is;
      tokens = λ rest closed.
          let more = CutMore-joined lines rest start end here is within closed in
          let behind = joined (end + 1) rest in
          c.in_ok-before.ensures more.last_number behind
          ∙ ap (λ ps. c.lines.tokens ++ coming c.lines.before (ps ++ ended more.last_number behind)) c.in_ok-line.ensures
          ∙ ap (λ ps. c.lines.tokens ++ coming c.lines.before ps) (sym more.text)
          ∙ c.lines.invariant.tokens (take (end - start) (drop start lines) ++ rest) (inl here)
          ∙ ap tokens_of more.same;
    }

pub lines-smaller : goal.lines-smaller
lines-smaller c =
    let lines = c.args.lines.now in
    let start = c.lines.count in
    let here : start < length lines = omega (arith, c.lines-test.true) in
    let is : c.joined_count.result ≡ joined_count (drop start lines) = c.joined_count.ensures.count ∙ ap joined_count (take_rest lines start) in
    omega (arith, here, is, joined_count-pos (drop start lines) (omega (arith, here, length-drop start lines)))

pub returns-clause-chunk : goal.returns-clause-chunk
returns-clause-chunk c =
    let lines = c.args.lines.now in
    let count = c.lines.count in
    let front = take count lines in
    let cut : c.in_ok-shared.shared ≡ tokens_of front =
    c.in_ok-shared.ensures
    ∙ c.in_ok-finish.ensures
    ∙ ap (λ ps. c.lines.tokens ++ coming c.lines.before ps) (sym (joined-nil (count + 1)))
    ∙ c.lines.invariant.tokens [] (inr refl)
    ∙ ap tokens_of (append-nil front) in
    elim c.lines-test.branch [
      | else-lines-test w ↦
          let all : count ≡ length lines = omega (arith, w.lines-test, c.lines.invariant.within) in
          record { some = omega (arith, all, c.requires.some); within = c.lines.invariant.within; own = cut; apart = inl all; ends = c.lines.invariant.ends }
      | then-lines-test+then-is_fresh+then-is_end w ↦
          let here : count < length lines = omega (arith, w.lines-test) in
          let fresh = w.is_fresh.ensures w.if-is_fresh.true in
          let apart : IsApart front = λ rest.
          sym (c.lines.invariant.tokens rest (inl here))
          ∙ ap (λ b. c.lines.tokens ++ coming b (joined (count + 1) rest)) fresh
          ∙ (λ i. (sym (append-nil c.lines.tokens) ∙ ap (λ ts. c.lines.tokens ++ ts) (sym (tokens_after-nil line_start)) ∙ ap (λ b. c.lines.tokens ++ coming b []) (sym fresh)
          ∙ sym c.in_ok-finish.ensures ∙ sym c.in_ok-shared.ensures ∙ cut) i ++ (tokens_of-behind count rest ∙ ap (λ n. moved_tokens n (tokens_of rest)) (sym (length-take-le count lines c.lines.invariant.within))) i) in
          record { some = w.is_end.ensures.some w.if-is_end.true; within = c.lines.invariant.within; own = cut; apart = inr apart; ends = c.lines.invariant.ends }
    ]
