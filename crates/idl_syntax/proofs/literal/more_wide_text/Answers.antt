use Rattle.std.proofs.Common.{arith, refl, sym, ◌∙◌}
use Rattle.idl_tree.specs.reading.ReadExpression.{wide_text_of}
use Rattle.idl_syntax.proofs.Turns.{turns_start, loop_pick, loop_pick_ends}
use Rattle.idl_syntax.proofs.literal.more_wide_text.Goals as goal

pub pieces-init : goal.pieces-init
pieces-init c = record { turns = turns_start _ _ _ _ c.new-pieces.ensures.items; long = omega arith }

pub pieces-preserved : goal.pieces-preserved
pieces-preserved c = record {
  turns = loop_pick wide_text_of _ _ c.pieces.rest.now _ c.in-Some.piece refl c.pieces.invariant.turns (sym c.in_ok-piece.ensures ∙ c.in-Some.is) c.in_ok-push.ensures.items;
  long = omega (arith, c.pieces.invariant.long);
}

pub returns-clause-reads : goal.returns-clause-reads
returns-clause-reads c = rw c.from_vec.ensures (loop_pick_ends wide_text_of c.pieces.pieces.items c.pieces.rest.now _ c.pieces.invariant.turns (sym c.in_ok-piece.ensures ∙ c.in_default.is))
