use Rattle.std.proofs.Common.{ap, arith, length}
use Rattle.std.proofs.lemmas.List.{length-map}
use Rattle.idl_text.proofs.tokens.chunk_columns.ChunkColumns.new.Goals as goal

pub invariant_of-result : goal.invariant_of-result
invariant_of-result c = λ index less. absurd (omega (arith, less, length-map c.new.result.items (λ starts. starts.items), ap length c.new.ensures.items))

pub invariant_of-result-2 : goal.invariant_of-result-2
invariant_of-result-2 c = c.in_ok-lines_of.ensures c.args.lexed.now c.in-Some.ensures.chunk
