use Rattle.std.proofs.Common.{◌∙◌, ◌<◌, ◌+◌, ◌++◌, [], List, ap, append-nil, arith, get_or, map, sym}
use Rattle.std.proofs.lemmas.List.{length-map}
use Rattle.idl_text.specs.Starts.{Start, on_line, starts_left}
use Rattle.idl_text.proofs.LaidOutLemmas.{put-next}
use Rattle.idl_text.proofs.tokens.chunk_columns.lines_of.Goals as goal

pub starts-init : goal.starts-init
starts-init c = record {
  count = c.in_ok-lines.ensures.count;
  each = λ index less.
      let line = c.args.chunk.now.before + index + 1 in
      ap (λ (ss : List Start). ss ++ on_line line (starts_left c.copied-left.result)) (c.in_ok-lines.ensures.empty index) ∙ ap (on_line line) c.copied-left.ensures;
}

pub starts-preserved : goal.starts-preserved
starts-preserved c = record {
  count = c.in_ok-put.ensures.count ∙ c.starts.invariant.count;
  each = λ index less.
      let chunk = c.args.chunk.now in
      let line = chunk.before + index + 1 in
      let here = c.in_ok-put.ensures.each index (omega (arith, less, c.starts.invariant.count)) in
      ap (λ (ss : List Start). ss ++ on_line line (starts_left c.next.new.self)) here
      ∙ put-next line _ c.in-Some.start (starts_left c.next.new.self) (starts_left chunk.starts)
      (ap (λ (ss : List Start). get_or (map (λ starts. starts.items) c.starts.lines.items) index [] ++ on_line line ss) (sym c.in-Some.ensures) ∙ c.starts.invariant.each index less);
}

pub returns : goal.returns
returns c = λ file laid index less.
    let chunk = c.args.chunk.now in
    let line = chunk.before + index + 1 in
    let within : index < chunk.count = omega (arith, less, length-map c.starts.lines.items (λ starts. starts.items), c.starts.invariant.count) in
    sym (append-nil _)
    ∙ ap (λ (ss : List Start). get_or (map (λ starts. starts.items) c.starts.lines.items) index [] ++ on_line line ss) (sym c.in_default.ensures)
    ∙ c.starts.invariant.each index within
    ∙ laid line (omega (arith)) (omega (arith, within))
