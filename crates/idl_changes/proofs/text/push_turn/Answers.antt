use Rattle.std.proofs.Common.{◌∙◌, ◌++◌, ℕ, List, ap, append_assoc, codes, sym}
use Rattle.std.specs.Prelude.{decimal}
use Rattle.std.proofs.lemmas.Result.{on_ok_weaker}
use Rattle.idl_changes.specs.Changes.{part_text, turn_text}
use Rattle.idl_changes.specs.declared.change.Turn.{Turn}
use Rattle.idl_changes.proofs.text.push_turn.Goals as goal

pub returns-in_ok-push_words-in-NewAt : goal.returns-in_ok-push_words-in-NewAt
returns-in_ok-push_words-in-NewAt c =
    let before = c.args.text.now.items in
    let part = part_text c.args.part.now in
    let words = codes "is new, number " in
    let number = decimal c.in-NewAt.number in
    on_ok_weaker c.push_number.result
    (λ e. e
    ∙ ap (λ (t : List ℕ). t ++ number) c.in_ok-push_words-in-NewAt.ensures
    ∙ append_assoc before (part ++ words) number
    ∙ ap (λ (t : List ℕ). before ++ t) (append_assoc part words number)
    ∙ ap (λ (t : Turn). before ++ turn_text c.args.part.now t) (sym c.in-NewAt.is)) c.push_number.ensures
