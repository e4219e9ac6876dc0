use Rattle.std.proofs.Common.{◌∙◌, List, ℕ, refl, sym, ap}
use Rattle.std.specs.FinMap.{get-empty}
use Rattle.std.specs.FinMap as finite
use Rattle.std.specs.Map.{lookup}
use Rattle.std.specs.Option.{option_map}
use Rattle.std.specs.Ordering.{nat_cmp}
use Rattle.std.specs.Cmp.Lexicographic.{slice_cmp}
use Rattle.std.specs.Str.{bytes_eq}
use Rattle.idl_event.specs.declared.asked.key.RootAnswer.{RootAnswer}
use Rattle.idl_event.specs.declared.asked.key.RootAnswer.TheVariants as answers
use Rattle.idl_source.specs.texts.Texts.{Texts}
use Rattle.idl_inputs.proofs.bank.SessionBank.new.Goals as goal

pub invariant_of-result : goal.invariant_of-result
invariant_of-result c = (
  λ name.
      ap (λ (es : List (List ℕ × RootAnswer)). lookup (bytes_eq name) es) c.new-2.ensures.empty
      ∙ sym (ap (λ (files : Texts). option_map answers.File (finite.get files name)) c.new.ensures ∙ ap (option_map answers.File) (get-empty (slice_cmp nat_cmp) name)),
  refl,
)
