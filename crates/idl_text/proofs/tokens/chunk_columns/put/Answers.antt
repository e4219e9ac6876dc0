use Rattle.std.proofs.Common.{◌≡◌, ◌∙◌, ◌<◌, ◌+◌, ◌++◌, ◌∷◌, [], List, ap, append-nil, arith, get_or, length, map, sym}
use Rattle.idl_text.specs.Starts.{Start, on_line}
use Rattle.idl_text.proofs.PutLemmas.{on-other, put-at}
use Rattle.idl_text.proofs.tokens.chunk_columns.put.Goals as goal

pub returns-in_default-clause-each : goal.returns-in_default-clause-each
returns-in_default-clause-each c = λ index less.
    let line = c.args.before + index + 1 in
    let held = get_or (map (λ starts. starts.items) c.args.lines.now.items) index [] in
    sym (append-nil held)
    ∙ ap (λ (ss : List Start). held ++ ss) (sym (on-other line c.args.start (λ same. omega (arith, c.in_default.ensures.none, c.line.ensures, same))))

pub returns-in_ok-push-clause-each : goal.returns-in_ok-push-clause-each
returns-in_ok-push-clause-each c = λ index less.
    let lines = c.args.lines.now.items in
    let held = get_or (map (λ starts. starts.items) lines) index [] in
    let within : c.in-Some.index < length lines = omega (arith, c.if-index-len.true, c.len.ensures) in
    let is = ◌∙◌ {A = List Start} c.in_ok-push.ensures.items (ap (λ starts. starts.items ++ c.args.start ∷ []) c.index_mut.ensures.value) in
    let e : (c.args.before + 1) + index ≡ c.args.before + index + 1 = omega arith in
    put-at (λ starts. starts.items) lines (c.args.before + 1) c.in-Some.index index c.push.new.self c.index_mut.result.now c.args.start within is
    (omega (arith, c.line.ensures, c.in-Some.ensures.some)) less
    ∙ ap (λ n. held ++ on_line n (c.args.start ∷ [])) e
