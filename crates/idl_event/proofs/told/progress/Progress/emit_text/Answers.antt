use Rattle.std.proofs.Common.{◌≡◌, ◌∙◌, ◌≤◌, ◌-◌, Some, length, sym, ap, subst, rules}
use Rattle.std.proofs.lemmas.Result.{on_ok_weaker}
use Rattle.idl_event.proofs.AfterLemmas.{after_text-within}
use Rattle.idl_event.specs.Expanding.{Reached, after_text}
use Rattle.idl_event.specs.Items.{tokens_left}
use Rattle.idl_event.proofs.told.progress.Progress.emit_text.Goals as goal

pub returns : goal.returns
returns g c =
    let p : Reached = record { kept = c.self.inside.kept; left = c.self.inside.left; log = c.self.inside.log } in
    let left = c.in-Some.left in
    let more = c.args.tokens.now in
    let going : p.left ≡ Some left = search rules in
    let there : tokens_left c.args.self.now.left ≡ left.tokens = ap (λ (r : Reached). tokens_left r.left) (sym c.self.view_is) ∙ ap tokens_left going in
    let enough : length more ≤ left.tokens = subst (λ n. length more ≤ n) there c.requires.room in
    let within = after_text-within c.args.file.now more p left going enough in
    on_ok_weaker c.push_text.result
    (λ kept.
    (λ j. record {
      kept = kept j;
      left = Some (record { turns = left.turns; tokens = left.tokens - c.len.ensures j });
      log = p.log;
    })
    ∙ sym within
    ∙ ap (after_text c.args.file.now more) c.self.view_is)
    c.push_text.ensures
