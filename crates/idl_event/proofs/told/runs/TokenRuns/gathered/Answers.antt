use Rattle.std.proofs.Common.{◌≡◌, ◌∙◌, ◌+◌, ◌≤◌, ◌++◌, List, ap, arith, drop, length, length-append, sym, take}
use Rattle.std.proofs.Math.Seq.{take-add}
use Rattle.std.proofs.lemmas.List.{drop-drop, length-take-le, take-append-le}
use Rattle.idl_lex.specs.tokens.Tokens.{Token}
use Rattle.idl_event.proofs.told.runs.TokenRuns.gathered.Goals as goal

pub runs-preserved : goal.runs-preserved
runs-preserved c =
    let all = c.args.self.now in
    let from = c.args.from in
    let got = c.runs.gathered.items in
    let g = length got in
    let some = c.in-Some.ensures.some in
    let front = drop c.in-Some.place c.in-Some.run'.now in
    let more = c.min-more.result in
    let same : c.split_at.result.1.now ≡ front = c.split_at.ensures.back ∙ ap (drop c.in-Some.place) c.as_slice.ensures in
    let pushed : c.push_clones.new.text.items ≡ got ++ take more front = c.in_ok-push_clones.ensures.ok ∙ ap (λ (ts : List Token). got ++ take more ts) same in
    let few : more ≤ length front = omega (arith, c.min-more.ensures, ap length same) in
    let long : length c.push_clones.new.text.items ≡ g + more =
    ap length pushed ∙ length-append got (take more front) ∙ ap (λ n. g + n) (length-take-le more front few) in
    let index : from + g ≡ from + c.len-in-runs.result = omega (arith, c.len-in-runs.ensures, c.runs.gathered.ok.0) in
    let left = drop from all in
    let there : drop g left ≡ front ++ some.1 = drop-drop g from all ∙ ap (λ n. drop n all) index ∙ some.2 in
    record {
      count = omega (arith, long, c.runs.invariant.count, c.min-more.ensures);
      items =
          pushed
          ∙ (λ j. c.runs.invariant.items j ++ take more front)
          ∙ ap (λ (ts : List Token). take g left ++ ts) (sym (take-append-le more front some.1 few) ∙ ap (take more) (sym there))
          ∙ sym (take-add g more left)
          ∙ ap (λ n. take n left) (sym long);
    }
