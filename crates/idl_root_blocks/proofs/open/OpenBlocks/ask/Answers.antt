use Rattle.std.proofs.Common.{◌≡◌, ◌+◌, ◌∷◌, arith, drop, drop_of_length-le, map, ap, sym, ◌∙◌}
use Rattle.idl_env.proofs.AnswerLaws.PlaceLemmas.{from_here}
use Rattle.idl_root_blocks.specs.Asking.{with_asked}
use Rattle.idl_root_blocks.proofs.Noting.{all-cons, all-nil}
use Rattle.idl_root_blocks.proofs.open.OpenBlocks.ask.Goals as goal

pub loop-entry-preserved : goal.loop-entry-preserved
loop-entry-preserved c =
    let facts = c.args.env.now in
    let entries = c.args.entries.now in
    let at = c.loop-entry.entry-index in
    let e = c.entry-item.result in
    let blocks = c.loop-entry.self.blocks in
    let rest = drop (at + 1) entries in
    let here : drop at entries ≡ e ∷ rest = from_here entries at e c.loop-entry-test.true c.entry-item.is in (
      ap (map (with_asked facts rest)) c.in_ok-ask_one.ensures.blocks
          ∙ sym (all-cons facts e rest blocks)
          ∙ ap (λ es. map (with_asked facts es) blocks) (sym here)
          ∙ c.loop-entry.invariant.0,
      c.in_ok-ask_one.ensures.noted,
    )

pub returns-clause-blocks : goal.returns-clause-blocks
returns-clause-blocks c =
    let facts = c.args.env.now in
    let entries = c.args.entries.now in
    let at = c.loop-entry.entry-index in
    let blocks = c.loop-entry.self.blocks in
    sym (all-nil facts blocks)
    ∙ ap (λ es. map (with_asked facts es) blocks) (sym (drop_of_length-le entries {i = at} (omega (arith, c.loop-entry-test.false))))
    ∙ c.loop-entry.invariant.0
