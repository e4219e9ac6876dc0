use Rattle.std.proofs.Common.{◌≡◌, ◌≤◌, ◌<◌, ◌^◌, ◌∙◌, List, [], subst, sym, ap}
use Rattle.idl_root_blocks.proofs.IdlCheckLaws.ToldLaws.{told-nothing}
use Rattle.idl_env.specs.Facts.{UnitFacts, answers, count_in}
use Rattle.idl_env.specs.Turns.{most_turns, turns_for}
use Rattle.idl_env.specs.declared.keys.key.Key.TheVariants.{Nameless}
use Rattle.idl_root.specs.Judged.{facts_after}
use Rattle.idl_root.specs.Places.{root_pieces, root_text}
use Rattle.idl_root_blocks.specs.Blocks.{text_in}
use Rattle.idl_root_blocks.specs.Places.{facts_over}
use Rattle.idl_unit.specs.Units.{units_of}
use Rattle.idl_root.proofs.compiling.laws.blocks.Goals as goal

pub returns : goal.returns
returns c = λ events within.
    let pieces = root_pieces events in
    let same : facts_after [] (units_of events) ≡ facts_over [] (text_in pieces) =
    c.texts.ensures.facts [] (units_of events) ∙ ap (facts_over []) (sym (c.cutting.ensures.whole (root_text events))) in
    c.standing.ensures.pieces [] pieces (c.cutting.ensures.blocks (root_text events)) told-nothing
    (subst (λ (fs : List UnitFacts). turns_for fs ≤ most_turns) same within.turns)
    (subst (λ (fs : List UnitFacts). count_in (answers fs Nameless) < 2 ^ 64) same within.nameless)
