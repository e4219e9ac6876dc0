use Rattle.std.proofs.Common.{◌≡◌, ◌∙◌, ◌++◌, ◌∷◌, [], ℕ, List, ap, ap₂}
use Rattle.serde_json.specs.Data.{Data}
use Rattle.serde_json.specs.Written.{compact_text, has_float}
use Rattle.idl_json.specs.Change.{change_line, change_of}
use Rattle.idl_json.proofs.ChangeLemmas.{change-plain}
use Rattle.idl_json.proofs.change.change_line.Goals as goal

pub push_value-requires : goal.push_value-requires
push_value-requires c = ap has_float c.in_ok-value.ensures ∙ change-plain (change_of c.args.change)

pub returns : goal.returns
unfolding change_line
returns c =
    c.in_ok-push.ensures.items
    ∙ ap (λ (t : List ℕ). t ++ 10 ∷ [])
    (c.in_ok-push_value.ensures ∙ ap₂ (λ (t : List ℕ) (d : Data). t ++ compact_text d) c.new-line.ensures.items c.in_ok-value.ensures)
