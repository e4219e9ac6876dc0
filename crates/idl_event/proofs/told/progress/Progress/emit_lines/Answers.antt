use Rattle.std.proofs.Common.{◌∙◌, ◌+◌, ◌≤◌, List, ap, arith, length, length-append, sym, subst}
use Rattle.idl_event.specs.Expanding.{Reached, after_text}
use Rattle.idl_event.specs.Items.{tokens_left}
use Rattle.idl_lex.specs.declared.tokens.token.PlacedToken.{PlacedToken}
use Rattle.idl_event.proofs.AfterLemmas.{after_text-append, room-behind}
use Rattle.idl_event.proofs.told.progress.Progress.emit_lines.Goals as goal

pub chunks-init : goal.chunks-init
chunks-init g c = record {
  room = subst (λ (ts : List PlacedToken). length ts ≤ tokens_left c.args.self.now.left) (sym c.parts-left.ensures) c.requires;
  is = ap (λ (ts : List PlacedToken). after_text c.args.file.now ts c.args.self.now) c.parts-left.ensures;
}

pub emit_text-requires-clause-some : goal.emit_text-requires-clause-some
emit_text-requires-clause-some g c = c.in-Some.ensures.1

pub emit_text-requires-clause-room : goal.emit_text-requires-clause-room
emit_text-requires-clause-room g c =
    omega (arith, c.chunks.invariant.room, ap length c.in-Some.ensures.0, length-append c.in-Some.part c.in-Some.rest)

pub chunks-preserved : goal.chunks-preserved
chunks-preserved g c =
    let file = c.args.file.now in
    let p = c.chunks.self in
    let part = c.in-Some.part in
    let rest = c.in-Some.rest in
    let emitted = c.in_ok-emit_text.ensures in
    let room : length part + length rest ≤ tokens_left p.left =
    omega (arith, c.chunks.invariant.room, ap length c.in-Some.ensures.0, length-append part rest) in
    record {
      room = subst (λ (r : Reached). length rest ≤ tokens_left r.left) (sym emitted) (room-behind file part p (length rest) room);
      is = ap (after_text file rest) emitted
          ∙ sym (after_text-append file part rest p)
          ∙ ap (λ (ts : List PlacedToken). after_text file ts p) (sym c.in-Some.ensures.0)
          ∙ c.chunks.invariant.is;
    }

pub chunks-smaller : goal.chunks-smaller
chunks-smaller g c = omega (arith, c.in-Some.ensures.1, ap length c.in-Some.ensures.0, length-append c.in-Some.part c.in-Some.rest)

pub returns : goal.returns
returns g c = ap (λ (ts : List PlacedToken). after_text c.args.file.now ts c.chunks.self) (sym c.in_default.ensures) ∙ c.chunks.invariant.is
