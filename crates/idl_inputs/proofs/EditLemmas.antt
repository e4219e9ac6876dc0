-- Edits that are refused, and what those that are accepted make.
use Rattle.std.proofs.Common.{◌≡◌, ◌∙◌, ℕ, Bool, true, false, cond, List, None, Some, Result, Ok, Err, refl, ap, sym}
use Rattle.std.specs.Map.{remove_entry}
use Rattle.std.specs.Result.{result_err}
use Rattle.std.specs.Str.{bytes_eq}
use Rattle.indexmap.specs.IndexMap.{insert_entry}
use Rattle.idl_macro.specs.Words.{is_macro_word}
use Rattle.idl_source.specs.declared.refusal.Refusal.{Refusal}
use Rattle.idl_source.specs.declared.refusal.Refusal.TheVariants.{BadMacro, OverLimit}
use Rattle.idl_inputs.specs.Edits.{Define, Search, Undef, after, is_macro_over, macros_with, result_map, search_list}
use Rattle.idl_inputs.specs.Project.{Inputs, Macros, Project, with_macros, with_search}

refused : (project : Project) (part : Result Macros Refusal) (refusal : Refusal) → Some refusal ≡ result_err part
    → result_map (with_macros project) part ≡ Err refusal
refused project (Ok macros) refusal e = absurd (cc)
refused project (Err other) refusal e = cc

-- a macro that is refused
pub define-refused : (project : Project) (word body : List ℕ) (refusal : Refusal) → Some refusal ≡ result_err (macros_with project.inputs.macros word body)
    → after project (Define word body) ≡ Err refusal
define-refused project word body refusal e = refused project (macros_with project.inputs.macros word body) refusal e

-- a macro that isn't refused
not_refused : (over allowed : Bool) (macros : Macros) → None ≡ result_err (cond over (Err OverLimit) (cond allowed (Ok macros) (Err BadMacro)))
    → cond over (Err OverLimit) (cond allowed (Ok macros) (Err BadMacro)) ≡ Ok macros
not_refused true allowed macros h = cc
not_refused false true macros h = refl
not_refused false false macros h = cc

-- a macro that is accepted
pub define-accepted : (project : Project) (word body : List ℕ) (inputs : Inputs) (roots : List (List ℕ)) → None ≡ result_err (macros_with project.inputs.macros word body)
    → inputs ≡ record project.inputs { macros = insert_entry bytes_eq project.inputs.macros word body } → roots ≡ project.roots
    → after project (Define word body) ≡ Ok (record { inputs = inputs; roots = roots })
define-accepted project word body inputs roots none made same =
    ap (result_map (with_macros project)) (not_refused (is_macro_over project.inputs.macros word body) (is_macro_word word) (insert_entry bytes_eq project.inputs.macros word body) none)
    ∙ ap (λ (inputs : Inputs). Ok (record { inputs = inputs; roots = project.roots })) (sym made)
    ∙ ap (λ (roots : List (List ℕ)). Ok (record { inputs = inputs; roots = roots })) (sym same)

-- a macro that is taken out
pub undef-accepted : (project : Project) (word : List ℕ) (inputs : Inputs) (roots : List (List ℕ)) → is_macro_word word ≡ true
    → inputs ≡ record project.inputs { macros = remove_entry (bytes_eq word) project.inputs.macros } → roots ≡ project.roots
    → after project (Undef word) ≡ Ok (record { inputs = inputs; roots = roots })
undef-accepted project word inputs roots allowed made same =
    ap (λ b. result_map (with_macros project) (cond b (Ok (remove_entry (bytes_eq word) project.inputs.macros)) (Err BadMacro))) allowed
    ∙ ap (λ (inputs : Inputs). Ok (record { inputs = inputs; roots = project.roots })) (sym made)
    ∙ ap (λ (roots : List (List ℕ)). Ok (record { inputs = inputs; roots = roots })) (sym same)

-- a search list that is accepted
pub search-accepted : (project : Project) (given list : List (List ℕ)) (inputs : Inputs) (roots : List (List ℕ)) → search_list given ≡ Ok list
    → inputs ≡ record project.inputs { search = list } → roots ≡ project.roots
    → after project (Search given) ≡ Ok (record { inputs = inputs; roots = roots })
search-accepted project given list inputs roots allowed made same =
    ap (result_map (with_search project)) allowed
    ∙ ap (λ (inputs : Inputs). Ok (record { inputs = inputs; roots = project.roots })) (sym made)
    ∙ ap (λ (roots : List (List ℕ)). Ok (record { inputs = inputs; roots = roots })) (sym same)
