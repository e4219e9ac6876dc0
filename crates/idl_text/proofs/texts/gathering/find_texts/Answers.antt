use Rattle.std.proofs.Common.{◌≡◌, ◌∙◌, ◌<◌, ap, arith, drop, length}
use Rattle.std.proofs.lemmas.List.{length-append, length-drop}
use Rattle.std.proofs.lemmas.List.Elements.{All-nil, All-push, All-same}
use Rattle.idl_lex.specs.tokens.Tokens.{tokens_of}
use Rattle.idl_text.specs.Texts.{IsTextOf}
use Rattle.idl_text.proofs.GatherLemmas.{not_none-some, text-behind, text-placed}
use Rattle.idl_text.proofs.LeftLemmas.{behind-first, within-first}
use Rattle.idl_text.proofs.texts.gathering.find_texts.Goals as goal

pub lines-init : goal.lines-init
lines-init c =
    let tokens = tokens_of c.args.lexed.now in
    record {
      within = omega arith;
      left = c.all-left.ensures.tokens;
      texts = All-same (IsTextOf tokens) c.new-texts.result.items _ c.new-texts.ensures.items (All-nil (IsTextOf tokens));
    }

pub gather_text-requires : goal.gather_text-requires
gather_text-requires c =
    omega (arith, c.all-left.ensures.room, ap length c.lines.invariant.left, length-drop c.lines.at (tokens_of c.args.lexed.now))

pub overflow_add-at : goal.overflow_add-at
overflow_add-at c =
    let tokens = tokens_of c.args.lexed.now in
    let text = c.in_ok-text.text in
    let here = c.lines.invariant in
    omega (arith, c.all-left.ensures.room, (text-behind tokens c.lines.left c.lines.at text.count text.words.items here.left here.within c.in_ok-text.ensures.text).0)

pub lines-preserved-then-text-gt0 : goal.lines-preserved-then-text-gt0
lines-preserved-then-text-gt0 c =
    let tokens = tokens_of c.args.lexed.now in
    let text = c.in_ok-text.text in
    let found = c.in_ok-text.ensures in
    let here = c.lines.invariant in
    let behind = text-behind tokens c.lines.left c.lines.at text.count text.words.items here.left here.within found.text in
    let some : 0 < text.count = omega (arith, c.if-text-gt0.true) in
    record {
      within = behind.0;
      left = found.behind ∙ behind.1;
      texts = All-same (IsTextOf tokens) c.push.new.self.items _ c.in_ok-push.ensures.items
          (All-push (IsTextOf tokens) c.lines.texts.items text here.texts (text-placed tokens c.lines.left c.lines.at text here.left found.from some found.text));
    }

pub lines-smaller-then-text-gt0 : goal.lines-smaller-then-text-gt0
lines-smaller-then-text-gt0 c =
    let text = c.in_ok-text.text in
    let found = c.in_ok-text.ensures in
    omega (arith, c.if-text-gt0.true, found.text.within, ap length found.behind, length-drop text.count c.lines.left)

pub first_line-line-requires : goal.first_line-line-requires
first_line-line-requires c =
    let found = c.in_ok-text.ensures in
    let none : c.in_ok-text.text.count ≡ 0 = omega (arith, c.if-text-gt0.false) in
    let some : 0 < length c.lines.left = not_none-some c.lines.left c.is_empty.result c.is_empty.ensures c.lines-test.true in
    omega (arith, some, none, ap length found.behind, length-drop c.in_ok-text.text.count c.lines.left)

pub overflow_add-at-in-lines : goal.overflow_add-at-in-lines
overflow_add-at-in-lines c =
    let tokens = tokens_of c.args.lexed.now in
    let here = c.lines.invariant in
    let none : c.in_ok-text.text.count ≡ 0 = omega (arith, c.if-text-gt0.false) in
    let is : c.in_ok-text.behind ≡ drop c.lines.at tokens = c.in_ok-text.ensures.behind ∙ ap (λ n. drop n c.lines.left) none ∙ here.left in
    omega (
      arith,
      c.all-left.ensures.room,
      within-first tokens c.in_ok-text.behind c.first_line-line.result.0 c.first_line-line.result.1 c.lines.at c.len-at.result is c.first_line-line.ensures.all c.len-at.ensures here.within,
    )

pub lines-preserved : goal.lines-preserved
lines-preserved c =
    let tokens = tokens_of c.args.lexed.now in
    let behind = c.in_ok-text.behind in
    let line = c.first_line-line.result.0 in
    let rest = c.first_line-line.result.1 in
    let all = c.first_line-line.ensures.all in
    let here = c.lines.invariant in
    let none : c.in_ok-text.text.count ≡ 0 = omega (arith, c.if-text-gt0.false) in
    let is : behind ≡ drop c.lines.at tokens = c.in_ok-text.ensures.behind ∙ ap (λ n. drop n c.lines.left) none ∙ here.left in
    record {
      within = within-first tokens behind line rest c.lines.at c.len-at.result is all c.len-at.ensures here.within;
      left = behind-first tokens behind line rest c.lines.at c.len-at.result is all c.len-at.ensures;
      texts = here.texts;
    }

pub lines-smaller : goal.lines-smaller
lines-smaller c =
    let found = c.in_ok-text.ensures in
    let none : c.in_ok-text.text.count ≡ 0 = omega (arith, c.if-text-gt0.false) in
    omega (
      arith,
      none,
      ap length found.behind,
      length-drop c.in_ok-text.text.count c.lines.left,
      c.first_line-line.ensures.some,
      ap length c.first_line-line.ensures.all,
      length-append c.first_line-line.result.0 c.first_line-line.result.1,
    )

pub returns : goal.returns
returns c =
    let tokens = tokens_of c.args.lexed.now in
    All-same (IsTextOf tokens) c.shrink_to_fit.new.self.items c.lines.texts.items c.shrink_to_fit.ensures.items c.lines.invariant.texts
