-- The steps of the front are the first of all.
use Rattle.std.proofs.Common.{◌≡◌, ℕ, ◌+◌, ◌++◌, arith, flat_map, length, length-append, sym, take, ap, ◌∙◌}
use Rattle.std.proofs.Math.Seq.{take-append-add}
use Rattle.idl_memo.proofs.runs.Runs.run.Goals as goal

pub new-requires : goal.new-requires
new-requires g c =
    let f = g.B.Step.Step.logged c.in-Some.head in
    let front = c.in_ok-front.front in
    let first = front.first.items in
    let count = c.len.result + front.count in
    let long : c.len.result ≡ length first = omega (arith, c.len.ensures, front.first.ok.0) in
    let all = ap (take count) c.in_ok-steps.ensures ∙ ap (λ (n : ℕ). take (n + front.count) (first ++ front.known)) long ∙ take-append-add first front.known front.count in
    let whole = c.in_ok-front.ensures.whole ∙ ap (λ l. flat_map f l ++ front.behind.now) (sym all) in
    let lengths = ap length whole ∙ length-append (flat_map f (take count c.in_ok-steps.steps)) front.behind.now in
    omega (arith, lengths)

pub returns-clause-whole : goal.returns-clause-whole
returns-clause-whole g c =
    let f = g.B.Step.Step.logged c.in-Some.head in
    let front = c.in_ok-front.front in
    let first = front.first.items in
    let count = c.len.result + front.count in
    let long : c.len.result ≡ length first = omega (arith, c.len.ensures, front.first.ok.0) in
    let all = ap (take count) c.in_ok-steps.ensures ∙ ap (λ (n : ℕ). take (n + front.count) (first ++ front.known)) long ∙ take-append-add first front.known front.count in
    c.in_ok-front.ensures.whole ∙ ap (λ l. flat_map f l ++ front.behind.now) (sym all) ∙ ap (λ r. r ++ front.behind.now) (sym c.new.ensures)
