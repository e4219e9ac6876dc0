use Rattle.std.proofs.Common.{◌∙◌, ◌++◌, ◌∷◌, [], ap, get_or, map, rules}
use Rattle.std.proofs.lemmas.List.{map-append}
use Rattle.idl_text.proofs.PutLemmas.{none-more}
use Rattle.idl_text.proofs.tokens.chunk_columns.empty_lines.Goals as goal

pub lines-preserved : goal.lines-preserved
lines-preserved c = record {
  count = search rules;
  empty = λ index.
      ap (λ ls. get_or (map (λ starts. starts.items) ls) index []) c.in_ok-push.ensures.items
      ∙ ap (λ xs. get_or xs index []) (map-append (λ starts. starts.items) c.lines.lines.items _)
      ∙ ap (λ starts. get_or (map (λ starts. starts.items) c.lines.lines.items ++ starts ∷ []) index []) c.new.ensures.items
      ∙ none-more (map (λ starts. starts.items) c.lines.lines.items) c.lines.invariant.empty index;
}
