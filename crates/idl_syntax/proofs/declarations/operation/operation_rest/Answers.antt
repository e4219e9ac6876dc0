use Rattle.std.proofs.lemmas.Result.{err_from_is_err_and}
use Rattle.idl_lex.specs.declared.kinds.keyword.Keyword.TheVariants as word
use Rattle.idl_lex.specs.declared.kinds.mark.Mark.TheVariants as mark
use Rattle.idl_syntax.proofs.Steps.{context_fails}
use Rattle.idl_tree.specs.Lexeme.{lexemes}
use Rattle.idl_tree.specs.reading.ReadInterface.{context_if, made_operation, operation_rest_with, parameters_with, raises_if}
use Rattle.idl_tree.specs.reading.ReadType.{type_at}
use Rattle.idl_tree.specs.reading.Reading.{expect}
use Rattle.idl_tree.specs.reading.Tests.{is_mark}
use Rattle.idl_syntax.proofs.declarations.operation.operation_rest.Goals as goal

pub returns-in_err-context-clause-reads : goal.returns-in_err-context-clause-reads
unfolding operation_rest_with
returns-in_err-context-clause-reads c =
    let head = c.args.head in
    let why = err_from_is_err_and c.from_residual-in_err-context.result c.from_residual-in_err-context.ensures.1 in
    rw (why.1, why.2) (context_fails (expect (is_mark mark.OpenParenthesis) (lexemes c.args.tokens.now)) (parameters_with (type_at c.args.depth)) (expect (is_mark mark.CloseParenthesis)) (raises_if word.Raises) context_if
    (made_operation head.0.0 head.0.1 head.1) _ _ _ _ _ _ _
    c.in_ok-rest.ensures.reads c.in_ok-parameters.ensures.reads c.in_ok-rest-2.ensures.reads c.in_ok-raised.ensures.reads c.in_err-context.ensures.reads)
