use Rattle.std.proofs.Common.{◌≡◌, ◌∙◌, ◌++◌, ap, drop, sym, false, true}
use Rattle.idl_lex.specs.bytes.Context.{ends_block}
use Rattle.idl_lex.specs.tokens.Lexer.{coming, ended}
use Rattle.idl_lex.specs.bytes.Scan.{taken}
use Rattle.idl_lex.specs.bytes.Text.{bytes_of}
use Rattle.idl_lex.specs.tokens.Tokens.{tokens_after}
use Rattle.idl_lex.specs.declared.bytes.state.Inside.TheVariants.{Block}
use Rattle.idl_lex.proofs.TokensLemmas.{after_comment-open, after_comment-closed}
use Rattle.idl_lex.proofs.tokens.lexer.push_line.Goals as goal

pub returns-then-not-ends_block : goal.returns-then-not-ends_block
returns-then-not-ends_block c = λ newline rest.
    let line = c.args.line.now in
    let goes_on : ends_block false (bytes_of line) ≡ false = sym (c.ends_block.ensures ∙ ap (ends_block false) c.as_bytes-bytes.ensures) ∙ c.if-not-ends_block.true in
    ap (λ ts. c.args.tokens.now ++ ts)
    (after_comment-open c.in-Comment.opening.value.token c.in-Comment.opening.value.context line newline rest goes_on
    ∙ ap (λ before. coming before (line ++ ended newline rest)) (sym c.in-Comment.is))

pub returns-in_ok-after-in-Comment : goal.returns-in_ok-after-in-Comment
returns-in_ok-after-in-Comment c = λ newline rest.
    let line = c.args.line.now in
    let opening = c.in-Comment.opening.value in
    let ends : ends_block false (bytes_of line) ≡ true = sym (c.ends_block.ensures ∙ ap (ends_block false) c.as_bytes-bytes.ensures) ∙ c.if-not-ends_block.false in
    c.in_ok-after-in-Comment.ensures newline rest
    ∙ ap (λ ts. c.args.tokens.now ++ ts)
    (ap (λ n. tokens_after c.deref.result.now.context 0 (drop n line ++ ended newline rest)) (c.taken-from.ensures.len ∙ ap (taken (Block false)) c.as_bytes-bytes.ensures)
    ∙ ap (λ o. tokens_after o.context 0 (drop (taken (Block false) (bytes_of line)) line ++ ended newline rest)) c.deref.ensures
    ∙ after_comment-closed opening.token opening.context line newline rest ends
    ∙ ap (λ before. coming before (line ++ ended newline rest)) (sym c.in-Comment.is))
