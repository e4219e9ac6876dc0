-- Part by part: its entries go behind.
use Rattle.std.proofs.Common.{◌++◌, append_assoc, sym, ap, ◌∙◌, arith}
use Rattle.std.proofs.lemmas.Grind.{common_steps}
use Rattle.idl_memo.specs.Parts.{lent_entries}
use Rattle.idl_memo.proofs.kept_log.KeptLog.append_to.Goals as goal

pub parts-init : goal.parts-init
parts-init g c = grind (arith, common_steps)

pub parts-preserved : goal.parts-preserved
parts-preserved g c =
    let old = c.parts.entries.items in
    ap (λ l. l ++ c.next.new.self.entries) c.in_ok-append_part.ensures
    ∙ append_assoc old (lent_entries c.in-Some.part) c.next.new.self.entries
    ∙ ap (λ l. old ++ l) (sym c.in-Some.ensures.first)
    ∙ c.parts.invariant

pub returns : goal.returns
returns g c = grind (arith, common_steps)
