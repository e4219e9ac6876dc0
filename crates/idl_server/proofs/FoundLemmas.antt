-- What all roots find.
use Rattle.std.proofs.Common.{◌≡◌, ◌∙◌, ◌+◌, ◌≤◌, ◌||◌, ℕ, zero, suc, Bool, true, false, List, [], ◌∷◌, ◌++◌, Option, None, Some, ap, append-nil, length, refl, sym, take}
use Rattle.std.proofs.lemmas.Grind.{flat_map-append}
use Rattle.std.proofs.lemmas.List.{take_all, take_more}
use Rattle.std.proofs.lemmas.Option.{get_or_from_slice_get, slice_get_within}
use Rattle.std.specs.Cmp.Lexicographic.{bytes_decides}
use Rattle.std.specs.List.{filter, flat_map, list_any, slice_get}
use Rattle.std.specs.Option.{option_map}
use Rattle.std.specs.Str.{bytes_eq}
use Rattle.std.specs.Prelude.{if◌then◌else◌}
use Rattle.idl_finding.specs.declared.finding.Finding.{Finding}
use Rattle.idl_project.specs.idl_sources.Compile.{compiled_root}
use Rattle.idl_inputs.specs.Project.{Project}
use Rattle.idl_project.specs.UpToDate.{findings_of}
use Rattle.idl_project.specs.idl_sources.declared.compile.CompiledRoot.{CompiledRoot}
use Rattle.idl_editor.specs.told.Found.{is_in}
use Rattle.idl_server.specs.Found.{all_found, findings_by, found_by}

-- ---- one root more

pub roots-next : (project : Project) (name root : List ℕ) (before : List (List ℕ)) (found : List Finding)
    → found ≡ flat_map (found_by project.inputs name) before ++ found_by project.inputs name root
    → found ≡ flat_map (found_by project.inputs name) (before ++ root ∷ [])
roots-next project name root before found is =
    let by = found_by project.inputs name in
    is ∙ ap (λ fs. flat_map by before ++ fs) (sym (append-nil (by root))) ∙ sym (flat_map-append by before (root ∷ []))

-- ---- what a root finds

root-there : (names : List (List ℕ)) (at : ℕ) (name : List ℕ) → Some name ≡ slice_get names at → list_any (bytes_eq name) names ≡ true
root-there [] at name is = absurd (cc)
root-there (first ∷ names) zero name is =
    let same : name ≡ first = cc in
    ap (λ b. b || list_any (bytes_eq name) names) ((bytes_decides name first).1 same)
root-there (first ∷ names) (suc at) name is = by (bytes_eq name first) (root-there names at name is)
  where
    by : (b : Bool) → list_any (bytes_eq name) names ≡ true → (b || list_any (bytes_eq name) names) ≡ true
    by true rest = refl
    by false rest = rest

pub found-at : (project : Project) (at : ℕ) (name : List ℕ) → Some name ≡ slice_get project.roots at
    → findings_of project name ≡ option_map (findings_by project.inputs) (slice_get project.roots at)
found-at project at name is =
    ap (λ b. option_map (λ (root : CompiledRoot). root.rows.findings) (if b then Some (compiled_root project.inputs name) else None)) (root-there project.roots at name is)
    ∙ ap (λ (root : Option (List ℕ)). option_map (findings_by project.inputs) root) is

-- ---- up to the last root

take-none : (names : List (List ℕ)) (i : ℕ) → None ≡ slice_get names i → take i names ≡ names
take-none [] zero is = refl
take-none [] (suc i) is = refl
take-none (name ∷ names) zero is = absurd (cc)
take-none (name ∷ names) (suc i) is = ap (λ ns. name ∷ ns) (take-none names i is)

module _ (project : Project) (name : List ℕ) where
  -- what the first roots find
  abbrev found_before : ℕ → List Finding
  found_before i = flat_map (found_by project.inputs name) (take i project.roots)

  pub roots-step : (i : ℕ) (findings before after : List Finding) → Some findings ≡ option_map (findings_by project.inputs) (slice_get project.roots i) → before ≡ found_before i
      → after ≡ before ++ filter (is_in name) findings → after ≡ found_before (i + 1)
  roots-step i findings before after there was now = by (slice_get project.roots i) refl there
    where
      by : (slot : Option (List ℕ)) → slice_get project.roots i ≡ slot → Some findings ≡ option_map (findings_by project.inputs) slot → after ≡ found_before (i + 1)
      by None at some = absurd (cc)
      by (Some root) at some =
          let same : findings ≡ findings_by project.inputs root = cc in
          let more : take (i + 1) project.roots ≡ take i project.roots ++ root ∷ [] =
          take_more project.roots i [] (slice_get_within project.roots i root at) ∙ ap (λ r. take i project.roots ++ r ∷ []) (get_or_from_slice_get project.roots i root [] at) in
          roots-next project name root (take i project.roots) after
          (now ∙ ap (λ fs. fs ++ filter (is_in name) findings) was ∙ ap (λ fs. found_before i ++ filter (is_in name) fs) same)
          ∙ ap (λ roots. flat_map (found_by project.inputs name) roots) (sym more)

  roots-whole : (i : ℕ) (found : List Finding) → take i project.roots ≡ project.roots → found ≡ found_before i → found ≡ all_found project name
  roots-whole i found whole is = is ∙ ap (λ roots. flat_map (found_by project.inputs name) roots) whole

  pub roots-end : (i : ℕ) (found : List Finding) → None ≡ option_map (findings_by project.inputs) (slice_get project.roots i) → found ≡ found_before i → found ≡ all_found project name
  roots-end i found gone is = by (slice_get project.roots i) refl gone
    where
      by : (slot : Option (List ℕ)) → slice_get project.roots i ≡ slot → None ≡ option_map (findings_by project.inputs) slot → found ≡ all_found project name
      by None at none = roots-whole i found (take-none project.roots i (sym at)) is
      by (Some root) at none = absurd (cc)

  pub roots-past : (i : ℕ) (found : List Finding) → length project.roots ≤ i → found ≡ found_before i → found ≡ all_found project name
  roots-past i found past is = roots-whole i found (take_all i project.roots past) is
