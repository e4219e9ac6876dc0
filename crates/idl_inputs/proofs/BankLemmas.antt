-- Banks of inputs of which one part is another.
use Rattle.std.proofs.Common.{◌≡◌, ℕ, Bool, true, false, cond, List, [], ◌∷◌, Option, Some, refl, ap, ◌∙◌, if◌then◌else◌}
use Rattle.std.specs.Map.{lookup}
use Rattle.std.specs.Option.{option_map}
use Rattle.std.specs.Str.{bytes_eq}
use Rattle.idl_event.specs.declared.asked.key.RootAnswer.TheVariants as answer
use Rattle.idl_event.specs.declared.asked.key.RootKey.{RootKey}
use Rattle.idl_event.specs.declared.asked.key.RootKey.TheVariants as key
use Rattle.idl_event.specs.Key.{key_eq}
use Rattle.idl_memo.specs.Cause.{changed}
use Rattle.idl_inputs.specs.Bank.{bank_of}
use Rattle.idl_inputs.specs.Project.{Inputs, Macros}

one_of : {X Y : Type 0} (f : X → Y) (b : Bool) (w old : Option X) → option_map f (cond b w old) ≡ (if b then option_map f w else option_map f old)
one_of f true w old = refl
one_of f false w old = refl

module _ (inputs : Inputs) (macros : Macros) (word : List ℕ) (body : Option (List ℕ))
    (is : (q : List ℕ) → lookup (bytes_eq q) macros ≡ cond (bytes_eq word q) body (lookup (bytes_eq q) inputs.macros)) where
  macro_at : (k : RootKey) → bank_of (record inputs { macros = macros }) k ≡ changed key_eq (bank_of inputs) (key.Macro word) (option_map (λ b. answer.Macro (b ∷ [])) body) k
  unfolding bank_of changed
  macro_at (key.Macro q) = ap (option_map (λ b. answer.Macro (b ∷ []))) (is q) ∙ one_of (λ b. answer.Macro (b ∷ [])) (bytes_eq word q) body (lookup (bytes_eq q) inputs.macros)
  macro_at (key.File name) = refl
  macro_at key.Search = refl

  -- macros that are the same, but for one word
  pub macros-changed : bank_of (record inputs { macros = macros }) ≡ changed key_eq (bank_of inputs) (key.Macro word) (option_map (λ b. answer.Macro (b ∷ [])) body)
  macros-changed i k = macro_at k i

search_at : (inputs : Inputs) (directories : List (List ℕ)) (k : RootKey) → bank_of (record inputs { search = directories }) k ≡ changed key_eq (bank_of inputs) key.Search (Some (answer.Search directories)) k
unfolding bank_of changed
search_at inputs directories (key.Macro word) = refl
search_at inputs directories (key.File name) = refl
search_at inputs directories key.Search = refl

-- another search list
pub search-changed : (inputs : Inputs) (directories : List (List ℕ)) → bank_of (record inputs { search = directories }) ≡ changed key_eq (bank_of inputs) key.Search (Some (answer.Search directories))
search-changed inputs directories i k = search_at inputs directories k i
