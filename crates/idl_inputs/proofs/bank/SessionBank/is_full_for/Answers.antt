use Rattle.std.proofs.Common.{◌≡◌, ◌∙◌, ◌&&◌, Bool, true, List, ℕ, not, length, leb, sym, ap, arith}
use Rattle.std.proofs.lemmas.Bool.Decides.{nat_tests}
use Rattle.std.proofs.lemmas.Map.Made.{is_some-lookup}
use Rattle.std.specs.Str.{bytes_eq}
use Rattle.idl_inputs.specs.Project.{Inputs, is_defined}
use Rattle.idl_inputs.proofs.bank.SessionBank.is_full_for.Goals as goal

full : (inputs : Inputs) (word : List ℕ) (b : Bool) → leb 4096 (length inputs.macros) ≡ true → b ≡ is_defined inputs.macros word
    → not b ≡ (leb 4096 (length inputs.macros) && not (is_defined inputs.macros word))
full inputs word b over is = ap not is ∙ ap (λ t. t && not (is_defined inputs.macros word)) (sym over)

pub returns-then-len-ge-MAX_MACROS : goal.returns-then-len-ge-MAX_MACROS
returns-then-len-ge-MAX_MACROS c =
    full c.args.self.now c.args.word.now c.contains_key.result (grind (arith, nat_tests))
    (c.contains_key.ensures ∙ is_some-lookup (bytes_eq c.args.word.now) c.self.inside.macros.entries ∙ ap (λ (inputs : Inputs). is_defined inputs.macros c.args.word.now) c.self.view_is)
