use Rattle.std.proofs.Common.{◌∙◌, ◌+◌, ◌-◌, ◌<◌, ◌++◌, ℕ, List, ap, append_assoc, arith, drop, length, sym, take}
use Rattle.std.proofs.lemmas.List.{append-nil}
use Rattle.idl_tool.specs.Report.{shown_first, shown_text}
use Rattle.idl_tool.proofs.ShownLemmas.{piece-within, shown-end, shown-more}
use Rattle.idl_tool.proofs.report.shown_text.Goals as goal

pub pieces-init : goal.pieces-init
pieces-init c = record {
  within = omega arith;
  shown = ap (λ (t : List ℕ). t ++ shown_text c.args.is_line c.args.text.now) c.new-shown.ensures.items;
}

pub overflow_add-at : goal.overflow_add-at
overflow_add-at c =
    let fits = piece-within c.args.text.now c.pieces.at c.in_ok-size.size (omega arith) c.in_ok-size.ensures.size in
    omega (arith, fits.1)

pub pieces-smaller : goal.pieces-smaller
pieces-smaller c =
    let text = c.args.text.now in
    let fits = piece-within text c.pieces.at c.in_ok-size.size (omega arith) c.in_ok-size.ensures.size in
    let less : length text - (c.pieces.at + c.in_ok-size.size) < length text - c.pieces.at = omega (arith, fits.0, fits.1) in
    less

pub pieces-preserved : goal.pieces-preserved
pieces-preserved c =
    let text = c.args.text.now in
    let at = c.pieces.at in
    let shown = c.pieces.shown.items in
    let size = c.in_ok-size.size in
    let within : at < length text = omega arith in
    let fits = piece-within text at size within c.in_ok-size.ensures.size in
    let more = shown-more c.args.is_line text at size within c.in_ok-size.ensures.size in
    let first = shown_first c.args.is_line (take (length text - at) (drop at text)) in
    let left = shown_text c.args.is_line (drop (at + size) text) in
    record {
      within = fits.1;
      shown = ap (λ (t : List ℕ). t ++ left) c.in_ok-size.ensures.shown ∙ append_assoc shown first left ∙ ap (λ (t : List ℕ). shown ++ t) (sym more) ∙ c.pieces.invariant.shown;
    }

pub returns : goal.returns
returns c =
    let shown = c.pieces.shown.items in
    sym (append-nil shown) ∙ ap (λ (t : List ℕ). shown ++ t) (sym (shown-end c.args.is_line c.args.text.now c.pieces.at (omega arith))) ∙ c.pieces.invariant.shown
