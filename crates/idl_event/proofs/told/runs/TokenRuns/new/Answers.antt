use Rattle.std.proofs.Common.{◌≡◌, ◌∙◌, ◌+◌, ◌<◌, ◌++◌, ◌∷◌, [], List, ap, arith, get_or, length, length-append, sym, take}
use Rattle.std.proofs.lemmas.List.{take_more}
use Rattle.idl_event.specs.Runs.{starts_of, tokens_of}
use Rattle.idl_lex.specs.tokens.Tokens.{Token}
use Rattle.idl_event.proofs.RunsLemmas.{starts_of-push, tokens_of-push}
use Rattle.std.proofs.lemmas.Grind.{common_steps}
use Rattle.idl_event.proofs.told.runs.TokenRuns.new.Goals as goal

pub runs-preserved : goal.runs-preserved
runs-preserved c =
    let runs = c.args.runs.items in
    let i = c.runs.run-index in
    let run = c.run-item.result in
    let here = c.runs.invariant in
    let same = c.deref-run-items.ensures.value in
    let lt : i < length runs = omega (arith, c.runs-test.true, ap length same) in
    let is : run ≡ get_or runs i run = c.run-item.is ∙ ap (λ (rs : List (List Token)). get_or rs i run) same in
    let front = take i runs in
    let taken : take (i + 1) runs ≡ front ++ run ∷ [] = take_more runs i run lt ∙ ap (λ (r : List Token). front ++ r ∷ []) (sym is) in
    let sum : c.runs.count ≡ 0 + length (tokens_of front) = omega (arith, here.count) in
    let total : length (tokens_of (take (i + 1) runs)) ≡ length (tokens_of front) + length run =
    ap (λ (rs : List (List Token)). length (tokens_of rs)) taken ∙ ap length (tokens_of-push front run) ∙ length-append (tokens_of front) run in
    record {
      starts =
          c.in_ok-push.ensures.items
          ∙ (λ j. here.starts j ++ sum j ∷ [])
          ∙ sym (starts_of-push 0 front run)
          ∙ ap (starts_of 0) (sym taken);
      count = omega (arith, c.in_ok-count.ensures, c.len-in-runs.ensures, here.count, total);
    }

pub returns : goal.returns
returns c = grind (arith, common_steps)

pub runs-init : goal.runs-init
runs-init c = grind (arith, common_steps)

pub invariant_of-result : goal.invariant_of-result
invariant_of-result c = grind (arith, common_steps)
