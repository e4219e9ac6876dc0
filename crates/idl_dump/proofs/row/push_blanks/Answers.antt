use Rattle.std.proofs.Common.{◌++◌, ◌+◌, ◌-◌, ◌∷◌, [], codes, append_assoc, ap, sym, ◌∙◌, arith}
use Rattle.std.specs.List.{repeat}
use Rattle.idl_dump.proofs.RowLemmas.{repeat-more}
use Rattle.idl_dump.proofs.row.push_blanks.Goals as goal

pub loop-scope-preserved : goal.loop-scope-preserved
loop-scope-preserved c =
    let depth = c.args.depth in
    let at = c.loop-scope._scope in
    let old = c.loop-scope.row.items in
    let blanks = codes "  " in
    let rest = repeat (depth - (at + 1)) blanks in
    let both = c.in_ok-push-2.ensures.items ∙ ap (λ l. l ++ 32 ∷ []) c.in_ok-push.ensures.items ∙ append_assoc old (32 ∷ []) (32 ∷ []) in
    record {
      within = omega arith;
      text =
          ap (λ l. l ++ rest) both
          ∙ append_assoc old blanks rest
          ∙ ap (λ l. old ++ l) (sym (repeat-more depth at blanks (omega arith)))
          ∙ c.loop-scope.invariant.text;
    }
