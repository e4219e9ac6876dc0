use Rattle.std.proofs.Common.{◌∙◌, ◌+◌, drop, get_or, ap, sym}
use Rattle.std.proofs.lemmas.List.{take_rest}
use Rattle.idl_lex.specs.bytes.Context.{is_include}
use Rattle.idl_lex.specs.bytes.Scan.{closing_end, further}
use Rattle.idl_lex.proofs.KindLaws.HeaderLemmas.{further-before}
use Rattle.idl_lex.proofs.tokens.lexer.piece_end.Goals as goal
use Rattle.idl_lex.proofs.tokens.lexer.piece_end.Goals.{then-is_include, else-is_include}

pub returns-clause-end : goal.returns-clause-end
returns-clause-end c =
    let bytes = c.args.bytes.now in
    let i = c.args.i in
    let first = get_or bytes i 0 in
    let rest = drop (i + 1) bytes in
    let includes = is_include c.args.context.beginning in
    ap (λ n. i + 1 + n) (c.further.ensures.len ∙ ap (λ bs. further c.if-is_include.includes first bs) (take_rest bytes (i + 1)) ∙ elim c.if-is_include.branch [
      | then-is_include w ↦ ap (λ b. further b first rest) w.includes-is
          ∙ further-before w.is_before-includes.result includes first bytes (i + 1) (sym c.is_include.ensures ∙ w.if-is_include.true) (λ none. w.is_before-includes.ensures (closing_end bytes) c.requires.closing none)
      | else-is_include w ↦ ap (λ b. further b first rest) (w.includes-is ∙ c.is_include.ensures)
    ])
