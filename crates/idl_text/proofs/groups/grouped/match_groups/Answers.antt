use Rattle.std.proofs.Common.{◌≡◌, ◌≤◌, ◌+◌, ◌++◌, ◌∷◌, List, ℕ, ap, sym, subst, ◌∙◌, IfOk, Result, Ok, Err, [], arith, drop, length, map, true}
use Rattle.std.proofs.lemmas.List.{drop_all, length-drop}
use Rattle.idl_lex.specs.tokens.Tokens.{is_text, lines_of, tokens_of}
use Rattle.idl_lex.specs.declared.tokens.token.PlacedToken.{PlacedToken}
use Rattle.idl_text.specs.Line.{Line, Text, lines_from, read}
use Rattle.idl_text.specs.Matching.{IsMatchedBy, IsSpan, lines_at}
use Rattle.idl_text.specs.declared.groups.matching.Matching.{Matching}
use Rattle.idl_text.specs.declared.groups.table.BranchTable.{BranchTable}
use Rattle.std.specs.List.{All}
use Rattle.std.specs.declared.alloc.AllocError.{AllocError}
use Rattle.idl_text.proofs.LeftLemmas.{behind-first, within-first}
use Rattle.idl_text.proofs.MatchedLemmas.{matched-alone, matched-texts}
use Rattle.idl_text.proofs.GroupTextLemmas.{lines_from-text}
use Rattle.idl_text.proofs.groups.grouped.match_groups.Goals as goal

-- the first line at a place, and those after it
lines_at-first : (tokens left line rest : List PlacedToken) (at count : ℕ) → left ≡ drop at tokens → lines_of left ≡ line ∷ lines_of rest → left ≡ line ++ rest → count ≡ length line
    → lines_at tokens at ≡ read line ∷ lines_at tokens (at + count)
lines_at-first tokens left line rest at count is first all size =
    ap (λ (ts : List PlacedToken). map read (lines_of ts)) (sym is)
    ∙ ap (map read) first
    ∙ ap (λ (ts : List PlacedToken). read line ∷ map read (lines_of ts)) (behind-first tokens left line rest at count is all size)

lines_at-end : (tokens : List PlacedToken) (at : ℕ) → length tokens ≤ at → lines_at tokens at ≡ []
unfolding lines_of
lines_at-end tokens at end = ap (λ (ts : List PlacedToken). map read (lines_of ts)) (drop_all at tokens end)

-- the lines of text at a place, and those after them
lines_at-text : (tokens left text rest : List PlacedToken) (at count : ℕ) → left ≡ drop at tokens → lines_of left ≡ lines_of text ++ lines_of rest → All (λ line. is_text line ≡ true) (lines_of text)
    → left ≡ text ++ rest → count ≡ length text → lines_at tokens at ≡ map Text (lines_of text) ++ lines_at tokens (at + count)
lines_at-text tokens left text rest at count is lines texts all size =
    ap lines_from (sym is)
    ∙ lines_from-text left text rest lines texts
    ∙ ap (λ (ts : List PlacedToken). map Text (lines_of text) ++ lines_from ts) (behind-first tokens left text rest at count is all size)

pub lines-init : goal.lines-init
lines-init c = record { within = omega arith; left = c.all-left.ensures.tokens; matched = c.new-matching.ensures (lines_at (tokens_of c.args.lexed.now)) }

pub overflow_add-at : goal.overflow_add-at
overflow_add-at c =
    let tokens = tokens_of c.args.lexed.now in
    let here = c.lines.invariant in
    omega (arith, within-first tokens c.lines.left c.first_text-text.result.0 c.first_text-text.result.1 c.lines.at c.len-at.result here.left c.first_text-text.ensures.all c.len-at.ensures here.within, c.all-left.ensures.room)

pub lines-preserved-then-not-is_empty : goal.lines-preserved-then-not-is_empty
lines-preserved-then-not-is_empty c =
    let tokens = tokens_of c.args.lexed.now in
    let left = c.lines.left in
    let text = c.first_text-text.result.0 in
    let rest = c.first_text-text.result.1 in
    let at = c.lines.at in
    let count = c.len-at.result in
    let first = c.first_text-text.ensures in
    let here = c.lines.invariant in
    let m = c.lines.matching in
    record {
      within = within-first tokens left text rest at count here.left first.all c.len-at.ensures here.within;
      left = behind-first tokens left text rest at count here.left first.all c.len-at.ensures;
      matched =
          matched-texts (lines_at tokens) at (at + count) (lines_of text) m.branches m.spans.items m.faults.items (omega arith)
          (lines_at-text tokens left text rest at count here.left first.lines first.text first.all c.len-at.ensures) here.matched;
    }

pub overflow_add-after : goal.overflow_add-after
overflow_add-after c =
    let tokens = tokens_of c.args.lexed.now in
    let left = c.lines.left in
    let line = c.first_line-line.result.0 in
    let rest = c.first_line-line.result.1 in
    let at = c.lines.at in
    let count = c.len.result in
    let first = c.first_line-line.ensures in
    let here = c.lines.invariant in
    omega (arith, within-first tokens left line rest at count here.left first.all c.len.ensures here.within, c.all-left.ensures.room)

pub lines-preserved-in_ok-step : goal.lines-preserved-in_ok-step
lines-preserved-in_ok-step c =
    let tokens = tokens_of c.args.lexed.now in
    let left = c.lines.left in
    let line = c.first_line-line.result.0 in
    let rest = c.first_line-line.result.1 in
    let at = c.lines.at in
    let count = c.len.result in
    let first = c.first_line-line.ensures in
    let here = c.lines.invariant in
    record {
      within = within-first tokens left line rest at count here.left first.all c.len.ensures here.within;
      left = behind-first tokens left line rest at count here.left first.all c.len.ensures;
      matched =
          c.in_ok-step.ensures (lines_at tokens)
          (lines_at-first tokens left line rest at count here.left first.lines first.all c.len.ensures ∙ ap (λ (l : Line). l ∷ lines_at tokens (at + count)) c.in-Some.ensures)
          here.matched;
    }

pub lines-preserved : goal.lines-preserved
lines-preserved c =
    let tokens = tokens_of c.args.lexed.now in
    let left = c.lines.left in
    let line = c.first_line-line.result.0 in
    let rest = c.first_line-line.result.1 in
    let at = c.lines.at in
    let count = c.len.result in
    let first = c.first_line-line.ensures in
    let here = c.lines.invariant in
    let m = c.lines.matching in
    record {
      within = within-first tokens left line rest at count here.left first.all c.len.ensures here.within;
      left = behind-first tokens left line rest at count here.left first.all c.len.ensures;
      matched =
          matched-alone (lines_at tokens) at (at + count) (read line) m.branches m.spans.items m.faults.items c.in_default.ensures (omega arith)
          (lines_at-first tokens left line rest at count here.left first.lines first.all c.len.ensures) here.matched;
    }

-- the table of a file whose lines were all read
table-whole : (tokens : List PlacedToken) (at : ℕ) (m : Matching) (made : Result BranchTable AllocError) → at ≤ length tokens → length tokens ≤ at → IsMatchedBy (lines_at tokens) at m
    → IfOk made (λ table. (lines : ℕ → List Line) → lines at ≡ [] → IsMatchedBy lines at m → All (IsSpan lines at table.faults.items) table.spans.items)
    → IfOk made (λ table. All (IsSpan (lines_at tokens) (length tokens) table.faults.items) table.spans.items)
table-whole tokens at m (Err e) within end matched told = tt
table-whole tokens at m (Ok table) within end matched told =
    let whole : at ≡ length tokens = omega (arith, within, end) in
    subst (λ n. All (IsSpan (lines_at tokens) n table.faults.items) table.spans.items) whole (told (lines_at tokens) (lines_at-end tokens at end) matched)

pub returns : goal.returns
returns c =
    let tokens = tokens_of c.args.lexed.now in
    let here = c.lines.invariant in
    let none : drop c.lines.at tokens ≡ [] = sym here.left ∙ c.is_empty.ensures.0 c.lines-test.false in
    table-whole tokens c.lines.at c.lines.matching c.finish.result here.within (omega (arith, ap length none, length-drop c.lines.at tokens)) here.matched c.finish.ensures
