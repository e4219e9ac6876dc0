use Rattle.std.proofs.Common.{◌≡◌, ◌∷◌, ◌++◌, ◌∙◌, ℕ, List, [], ap, flat_map, rules}
use Rattle.idl_root.specs.Printed.{closing_finding, entry_row, sought_finding, sought_row}
use Rattle.idl_root.specs.declared.compiling.printing.Sought.{Sought}
use Rattle.idl_root.proofs.PrintLemmas.{printed-more, sought-more}
use Rattle.idl_env.specs.Facts.{UnitFacts}
use Rattle.idl_root.proofs.compiling.printing.print_all.Goals as goal

pub loop-name-preserved : goal.loop-name-preserved
loop-name-preserved c =
    let name = c.name-item.result in
    let env = c.args.env.now in
    let printed = c.loop-name.printed in
    let before = c.loop-name.sought.items in
    let known : List UnitFacts × List (List ℕ) → Sought = λ a. record { answered = a; unit = name.unit } in
    let one = known c.in_ok-answered.answered in
    let more : c.push.new.self.items ≡ before ++ one ∷ [] = search rules in
    let findings = c.in_ok-add_full.ensures.findings ∙ ap (λ s. printed.findings.items ++ flat_map sought_finding s) more ∙ sought-more sought_finding printed.findings.items before one ∙ ap (λ a. (printed.findings.items ++ flat_map sought_finding before) ++ sought_finding (known a)) c.in_ok-answered.ensures in
    let rows = c.in_ok-add_full.ensures.rows ∙ ap (λ s. printed.rows.items ++ flat_map sought_row s) more ∙ sought-more sought_row printed.rows.items before one ∙ ap (λ a. (printed.rows.items ++ flat_map sought_row before) ++ sought_row (known a)) c.in_ok-answered.ensures in (
      printed-more (closing_finding env) (printed.findings.items ++ flat_map sought_finding before) (c.add_full.new.self.findings.items ++ flat_map sought_finding c.add_full.new.sought.items) c.args.listed.now c.loop-name.name-index name c.loop-name-test.true c.name-item.is findings ∙ c.loop-name.invariant.0,
      printed-more (entry_row env) (printed.rows.items ++ flat_map sought_row before) (c.add_full.new.self.rows.items ++ flat_map sought_row c.add_full.new.sought.items) c.args.listed.now c.loop-name.name-index name c.loop-name-test.true c.name-item.is rows ∙ c.loop-name.invariant.1,
    )
