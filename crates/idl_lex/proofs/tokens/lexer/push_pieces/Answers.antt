use Rattle.std.proofs.Common.{◌≡◌, ◌∙◌, ◌++◌, [], ◌∷◌, ◌+◌, ◌-◌, ◌≤◌, ◌<◌, append_assoc, ap, arith, codes, drop, get_or, length, sym, subst, false, take, true}
use Rattle.std.proofs.lemmas.List.{drop_all}
use Rattle.idl_lex.specs.bytes.Context.{is_include, context_after}
use Rattle.idl_lex.specs.tokens.Lexer.{after_comment, ended, is_open}
use Rattle.idl_lex.specs.tokens.Logical.{line_at}
use Rattle.idl_lex.specs.bytes.Scan.{further}
use Rattle.idl_lex.specs.bytes.Text.{bytes_of}
use Rattle.idl_lex.specs.tokens.Tokens.{token_if, token_of, tokens_after}
use Rattle.idl_lex.proofs.TokensLemmas.{length-bytes_of, piece_of, EndsAt, tokens_after-piece_of, tokens_after-comment, tokens_after-newline, opening-spelled}
use Rattle.idl_lex.specs.kinds.Marks.{is_lone_mark}
use Rattle.idl_lex.proofs.KindLaws.LoneLemmas.{tokens_after-lone}
use Rattle.idl_lex.proofs.KindLaws.WordLemmas.{IsWordAt, IsWordAt-read, tokens_after-space}
use Rattle.idl_lex.specs.bytes.Byte.{is_space}
use Rattle.idl_lex.specs.kinds.Word.{is_word}
use Rattle.idl_lex.proofs.tokens.lexer.push_pieces.Goals as goal

pub pieces-preserved-then-is_space : goal.pieces-preserved-then-is_space
pieces-preserved-then-is_space c =
    let line = c.args.line.now in
    let i = c.pieces.i in
    let now = c.pieces.now in
    let same = c.as_bytes-bytes.ensures in
    let within : i < length line = omega (arith, c.pieces-test.true, ap length same, length-bytes_of line) in
    let white : is_space (get_or (bytes_of line) i 0) ≡ true = sym (c.is_space.ensures ∙ ap (λ bs. is_space (get_or bs i 0)) same) ∙ c.if-is_space.true in
    let after : c.after_space-now.result ≡ context_after now (get_or (bytes_of line) i 0 ∷ []) = c.after_space-now.ensures ∙ ap (λ bs. context_after now (get_or bs i 0 ∷ [])) same in
    record {
      within = omega (arith, within);
      closing = c.pieces.invariant.closing;
      tokens = λ newline rest.
          ap (λ x. c.pieces.tokens ++ tokens_after x 0 (drop (i + 1) line ++ ended newline rest)) after
          ∙ ap (λ ts. c.pieces.tokens ++ ts) (sym (tokens_after-space now line i newline rest within white))
          ∙ c.pieces.invariant.tokens newline rest;
    }

pub push_word-requires-clause-word : goal.push_word-requires-clause-word
push_word-requires-clause-word c =
    (IsWordAt-read c.pieces.now c.args.line.now c.as_bytes-bytes.result.now c.pieces.i c.word_len-len.result c.as_bytes-bytes.ensures c.pieces-test.true
    (sym c.is_space.ensures ∙ c.if-is_space.false) (sym c.begins_word.ensures ∙ c.if-begins_word.true) c.word_len-len.ensures.len).word

pub push_word-requires-clause-order : goal.push_word-requires-clause-order
push_word-requires-clause-order c =
    (IsWordAt-read c.pieces.now c.args.line.now c.as_bytes-bytes.result.now c.pieces.i c.word_len-len.result c.as_bytes-bytes.ensures c.pieces-test.true
    (sym c.is_space.ensures ∙ c.if-is_space.false) (sym c.begins_word.ensures ∙ c.if-begins_word.true) c.word_len-len.ensures.len).later

pub push_word-requires-clause-within : goal.push_word-requires-clause-within
push_word-requires-clause-within c =
    (IsWordAt-read c.pieces.now c.args.line.now c.as_bytes-bytes.result.now c.pieces.i c.word_len-len.result c.as_bytes-bytes.ensures c.pieces-test.true
    (sym c.is_space.ensures ∙ c.if-is_space.false) (sym c.begins_word.ensures ∙ c.if-begins_word.true) c.word_len-len.ensures.len).within

pub after_word-now-requires : goal.after_word-now-requires
after_word-now-requires c =
    let i = c.pieces.i in
    let end = i + c.word_len-len.result in
    let same = c.as_bytes-bytes.ensures in
    let at : IsWordAt c.pieces.now c.args.line.now i end =
    IsWordAt-read c.pieces.now c.args.line.now c.as_bytes-bytes.result.now i c.word_len-len.result same c.pieces-test.true
    (sym c.is_space.ensures ∙ c.if-is_space.false) (sym c.begins_word.ensures ∙ c.if-begins_word.true) c.word_len-len.ensures.len in
    ap (λ bs. is_word (take (end - i) (drop i bs))) same ∙ at.word

pub pieces-preserved-then-begins_word : goal.pieces-preserved-then-begins_word
pieces-preserved-then-begins_word c =
    let line = c.args.line.now in
    let i = c.pieces.i in
    let now = c.pieces.now in
    let end = i + c.word_len-len.result in
    let same = c.as_bytes-bytes.ensures in
    let at : IsWordAt now line i end =
    IsWordAt-read now line c.as_bytes-bytes.result.now i c.word_len-len.result same c.pieces-test.true
    (sym c.is_space.ensures ∙ c.if-is_space.false) (sym c.begins_word.ensures ∙ c.if-begins_word.true) c.word_len-len.ensures.len in
    let after : c.after_word-now.result ≡ context_after now (piece_of line i end) = c.after_word-now.ensures ∙ ap (λ bs. context_after now (take (end - i) (drop i bs))) same in
    let token = token_of now (piece_of line i end) (line_at line i) in
    record {
      within = at.within;
      closing = c.pieces.invariant.closing;
      tokens = λ newline rest.
          ap (λ ts. ts ++ tokens_after c.after_word-now.result 0 (drop end line ++ ended newline rest)) c.in_ok-push_word.ensures
          ∙ append_assoc c.pieces.tokens (token ∷ []) (tokens_after c.after_word-now.result 0 (drop end line ++ ended newline rest))
          ∙ ap (λ x. c.pieces.tokens ++ (token ∷ tokens_after x 0 (drop end line ++ ended newline rest))) after
          ∙ ap (λ ts. c.pieces.tokens ++ ts) (sym (at.token newline rest))
          ∙ c.pieces.invariant.tokens newline rest;
    }

pub pieces-smaller-then-begins_word : goal.pieces-smaller-then-begins_word
pieces-smaller-then-begins_word c =
    let i = c.pieces.i in
    let at : IsWordAt c.pieces.now c.args.line.now i (i + c.word_len-len.result) =
    IsWordAt-read c.pieces.now c.args.line.now c.as_bytes-bytes.result.now i c.word_len-len.result c.as_bytes-bytes.ensures c.pieces-test.true
    (sym c.is_space.ensures ∙ c.if-is_space.false) (sym c.begins_word.ensures ∙ c.if-begins_word.true) c.word_len-len.ensures.len in
    omega (arith, at.later, at.within)

pub pieces-preserved-then-is_lone_mark : goal.pieces-preserved-then-is_lone_mark
pieces-preserved-then-is_lone_mark c =
    let line = c.args.line.now in
    let i = c.pieces.i in
    let now = c.pieces.now in
    let same = c.as_bytes-bytes.ensures in
    let b = get_or (bytes_of line) i 0 in
    let within : i < length line = omega (arith, c.pieces-test.true, ap length same, length-bytes_of line) in
    let lone : is_lone_mark b ≡ true = sym (c.is_lone_mark.ensures ∙ ap (λ bs. is_lone_mark (get_or bs i 0)) same) ∙ c.if-is_lone_mark.true in
    let after : c.after_mark-now.result ≡ context_after now (b ∷ []) = c.after_mark-now.ensures b lone in
    let token : c.mark.result ≡ token_of now (b ∷ []) (line_at line i) = c.mark.ensures ∙ (λ k. token_of now (get_or (same k) i 0 ∷ []) (c.line_at.ensures k)) in
    record {
      within = omega (arith, within);
      closing = c.pieces.invariant.closing;
      tokens = λ newline rest.
          ap (λ ts. ts ++ tokens_after c.after_mark-now.result 0 (drop (i + 1) line ++ ended newline rest)) c.in_ok-push.ensures
          ∙ append_assoc c.pieces.tokens (c.mark.result ∷ []) (tokens_after c.after_mark-now.result 0 (drop (i + 1) line ++ ended newline rest))
          ∙ (λ k. c.pieces.tokens ++ (token k ∷ tokens_after (after k) 0 (drop (i + 1) line ++ ended newline rest)))
          ∙ ap (λ ts. c.pieces.tokens ++ ts) (sym (tokens_after-lone now line i newline rest within lone))
          ∙ c.pieces.invariant.tokens newline rest;
    }

pub returns-then-is_open : goal.returns-then-is_open
returns-then-is_open c = λ newline rest.
    let line = c.args.line.now in
    let i = c.pieces.i in
    let end = c.piece_end-end.result in
    let now = c.pieces.now in
    let same = c.as_bytes-bytes.ensures in
    let within : i < length line = omega (arith, c.pieces-test.true, ap length same, length-bytes_of line) in
    let is : EndsAt now line i end = subst (λ bs. end ≡ i + 1 + further (is_include now.beginning) (get_or bs i 0) (drop (i + 1) bs)) same c.piece_end-end.ensures.end in
    let opened : is_open (piece_of line i end) ≡ true = sym (c.is_open.ensures ∙ ap (λ bs. is_open (take (end - i) (drop i bs))) same) ∙ c.if-is_open.true in
    let token : c.new-token.result ≡ token_of now (codes "/*") (line_at line i) =
    c.new-token.ensures
    ∙ ap (λ bs. token_of now bs c.line_at-then-is_open.result) (c.in_ok-spelling.ensures ∙ opening-spelled now line i end within is opened)
    ∙ ap (λ n. token_of now (codes "/*") n) c.line_at-then-is_open.ensures in
    ap (λ ts. c.pieces.tokens ++ ts)
    (ap (λ o. after_comment o.token o.context rest) c.in_ok-opening.ensures.ok
    ∙ ap (λ t. after_comment t c.after-context.result rest) token
    ∙ ap (λ x. after_comment (token_of now (codes "/*") (line_at line i)) x rest) c.after-context.ensures
    ∙ sym (tokens_after-comment now line i end newline rest within is opened))
    ∙ c.pieces.invariant.tokens newline rest

pub pieces-preserved : goal.pieces-preserved
pieces-preserved c =
    let line = c.args.line.now in
    let i = c.pieces.i in
    let end = c.piece_end-end.result in
    let now = c.pieces.now in
    let same = c.as_bytes-bytes.ensures in
    let within : i < length line = omega (arith, c.pieces-test.true, ap length same, length-bytes_of line) in
    let is : EndsAt now line i end = subst (λ bs. end ≡ i + 1 + further (is_include now.beginning) (get_or bs i 0) (drop (i + 1) bs)) same c.piece_end-end.ensures.end in
    let closed : is_open (piece_of line i end) ≡ false = sym (c.is_open.ensures ∙ ap (λ bs. is_open (take (end - i) (drop i bs))) same) ∙ c.if-is_open.false in
    let after : c.after-now.result ≡ context_after now (piece_of line i end) = c.after-now.ensures ∙ ap (λ bs. context_after now (take (end - i) (drop i bs))) same in
    let token = token_if now (piece_of line i end) (line_at line i) in
    record {
      closing = c.closing_for-closing.ensures;
      within = omega (arith, c.piece_end-end.ensures.within, ap length same, length-bytes_of line);
      tokens = λ newline rest.
          ap (λ ts. ts ++ tokens_after c.after-now.result 0 (drop end line ++ ended newline rest)) c.in_ok-push_piece.ensures
          ∙ append_assoc c.pieces.tokens token (tokens_after c.after-now.result 0 (drop end line ++ ended newline rest))
          ∙ ap (λ x. c.pieces.tokens ++ (token ++ tokens_after x 0 (drop end line ++ ended newline rest))) after
          ∙ ap (λ ts. c.pieces.tokens ++ ts) (sym (tokens_after-piece_of now line i end newline rest within is closed))
          ∙ c.pieces.invariant.tokens newline rest;
    }

pub returns : goal.returns
returns c = λ newline rest.
    let line = c.args.line.now in
    let past : length line ≤ c.pieces.i = omega (arith, c.pieces-test.false, ap length c.as_bytes-bytes.ensures, length-bytes_of line) in
    ap (λ ts. c.pieces.tokens ++ ts)
    (sym (ap (λ ps. tokens_after c.pieces.now 0 (ps ++ ended newline rest)) (drop_all c.pieces.i line past)
    ∙ tokens_after-newline c.pieces.now newline rest))
    ∙ c.pieces.invariant.tokens newline rest
