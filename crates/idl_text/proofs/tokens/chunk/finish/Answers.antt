use Rattle.std.proofs.Common.{◌∙◌, ◌++◌, [], append-nil, ap, sym}
use Rattle.idl_lex.specs.bytes.Context.{line_start}
use Rattle.idl_lex.specs.tokens.Lexer.{coming}
use Rattle.idl_lex.proofs.TokensLemmas.{tokens_after-nil}
use Rattle.idl_text.proofs.tokens.chunk.finish.Goals as goal

pub returns-in-Fresh : goal.returns-in-Fresh
returns-in-Fresh c =
    let tokens = c.args.tokens.now in
    sym (append-nil tokens)
    ∙ ap (λ ts. tokens ++ ts) (sym (tokens_after-nil line_start))
    ∙ ap (λ before. tokens ++ coming before []) (sym c.in-Fresh.is)
