-- Names that are tried, and roots that are compiled over what came of them.
use Rattle.std.proofs.Common.{◌≡◌, ◌∙◌, ◌∷◌, ◌⊎◌, [], inl, inr, ℕ, Bool, true, false, cond, All, Contains, Err, List, None, Ok, Result, Some, map, refl, sym, subst, ap}
use Rattle.std.proofs.lemmas.List.Elements.{All-cons, All-contains, All-head, All-nil, All-tail, All-weaker}
use Rattle.std.proofs.lemmas.Map.Text.{is_eq-slice_cmp}
use Rattle.std.specs.Cmp.Lexicographic.{bytes_decides, nat_list_cmp_total, slice_cmp}
use Rattle.std.specs.FinMap as finite
use Rattle.std.specs.Result.{OnOk}
use Rattle.std.specs.FinMap.{get-empty, get-insert}
use Rattle.std.specs.Ordering.{eq_by_cmp, nat_cmp}
use Rattle.idl_source.specs.texts.Texts.{Texts}
use Rattle.idl_sources.specs.Compile.{compiled_root}
use Rattle.idl_inputs.specs.Project.{Inputs}
use Rattle.idl_sources.specs.declared.compile.CompiledRoot.{CompiledRoot}
use Rattle.idl_loader.specs.Holding.{Allows, Holding, NoFile}
use Rattle.idl_driver.specs.Loading.{AreCompiled, AreComplete, AreLoaded, StaysAsked}
use Rattle.idl_loader.specs.Holding.{IsFileOf}
use Rattle.idl_driver.specs.Tried.{AreMissing, AreTried, IsLoading, IsTrue}
use Rattle.idl_driver.specs.declared.loading.Loading.{Loading}

-- one file more
pub AreLoaded-insert : (told : List ℕ → Holding) (files : Texts) (name : List ℕ) (lines : List (List ℕ)) → AreLoaded told files
    → IsFileOf told name lines → AreLoaded told (finite.insert files name lines)
AreLoaded-insert told files name lines are is other found there =
    by (eq_by_cmp (slice_cmp nat_cmp) other name) refl (sym (get-insert nat_list_cmp_total files name lines other) ∙ there)
  where
    by : (same : Bool) → eq_by_cmp (slice_cmp nat_cmp) other name ≡ same → cond same (Some lines) (finite.get files other) ≡ Some found → IsFileOf told other found
    by true same e =
        let names : other ≡ name = (bytes_decides other name).0 (sym (is_eq-slice_cmp other name) ∙ same) in
        let texts : lines ≡ found = cc in
        subst (λ (n : List ℕ). IsFileOf told n found) (sym names) (subst (λ (ls : List (List ℕ)). IsFileOf told name ls) texts is)
    by false same e = are other found e

-- no file
pub AreLoaded-empty : (told : List ℕ → Holding) (files : Texts) → files ≡ finite.empty → AreLoaded told files
AreLoaded-empty told files none name lines there =
    let lost : finite.get files name ≡ None = ap (λ fs. finite.get fs name) none ∙ get-empty (slice_cmp nat_cmp) name in
    let both : None ≡ Some lines = sym lost ∙ there in
    absurd (cc)

-- nothing was loaded, and nothing is known to be missing
pub fresh : (told : List ℕ → Holding) (inputs : Inputs) (missing : List (List ℕ)) → inputs.files ≡ finite.empty → missing ≡ [] → IsTrue told inputs missing
fresh told inputs missing none nothing = record {
  loaded = AreLoaded-empty told inputs.files none;
  absent = subst (λ (names : List (List ℕ)). All (λ (name : List ℕ). Allows (told name) NoFile) names) (sym nothing) (All-nil (λ (name : List ℕ). Allows (told name) NoFile));
}

-- what is true stays so where names were tried, and the loader tells what it told
pub true-then : (told still : List ℕ → Holding) (old new : Inputs) (before after : List (List ℕ)) → AreTried told still old new before after → IsTrue told old before → IsTrue still new after
true-then told still old new before after tried is =
    subst (λ (t : List ℕ → Holding). IsTrue t new after) (sym tried.stays_told) (tried.stays_true is)

-- nothing has changed
pub loading-kept : (told still : List ℕ → Holding) (old new : Loading) → still ≡ told → new.sources ≡ old.sources → new.missing.keys ≡ old.missing.keys → IsLoading told still old new
loading-kept told still old new loader sources missing = record {
  stays_told = loader;
  stays_true = λ is.
      subst (λ (i : Inputs). IsTrue told i new.missing.keys) (sym sources)
      (subst (λ (names : List (List ℕ)). IsTrue told old.sources names) (sym missing) is);
  stays = record { macros = ap (λ (i : Inputs). i.macros) sources; search = ap (λ (i : Inputs). i.search) sources };
}

-- a file was put, or nothing has changed
pub loading-taken : (told still : List ℕ → Holding) (old new : Loading) (name : List ℕ) (lines : List (List ℕ)) → still ≡ told → IsFileOf told name lines
    → (new.sources ≡ record old.sources { files = finite.insert old.sources.files name lines }) ⊎ (new.sources ≡ old.sources) → new.missing.keys ≡ old.missing.keys → IsLoading told still old new
loading-taken told still old new name lines loader own (inl made) missing = record {
  stays_told = loader;
  stays_true = λ is. record {
    loaded = subst (λ (files : Texts). AreLoaded told files) (sym (ap (λ (i : Inputs). i.files) made)) (AreLoaded-insert told old.sources.files name lines is.loaded own);
    absent = subst (λ (names : List (List ℕ)). All (λ (n : List ℕ). Allows (told n) NoFile) names) (sym missing) is.absent;
  };
  stays = record { macros = ap (λ (i : Inputs). i.macros) made; search = ap (λ (i : Inputs). i.search) made };
}
loading-taken told still old new name lines loader own (inr same) missing = loading-kept told still old new loader same missing

-- what is compiled over the inputs in between is compiled over these
pub compiled-from : (told mid : List ℕ → Holding) (before between after : Inputs) (roots : List (List ℕ)) (compiled : List CompiledRoot) → mid ≡ told → StaysAsked before between
    → AreCompiled mid between after roots compiled → AreCompiled told before after roots compiled
compiled-from told mid before between after roots compiled same stays are = record {
  formed = are.formed;
  rows = are.rows;
  loaded = subst (λ (t : List ℕ → Holding). AreLoaded t after.files) same are.loaded;
  complete = subst (λ (t : List ℕ → Holding). AreComplete t after roots) same are.complete;
  stays = record { macros = are.stays.macros ∙ stays.macros; search = are.stays.search ∙ stays.search };
}

-- it holds in any case
pub on_ok : {T E P : Type 0} (r : Result T E) → P → OnOk r P
on_ok (Ok value) p = p
on_ok (Err error) p = tt

-- names were tried, nothing was changed, and more were tried
pub loading-more : (told mid still : List ℕ → Holding) (old between same new : Loading) → IsLoading told mid old between → same.sources ≡ between.sources → same.missing.keys ≡ between.missing.keys
    → IsLoading mid still same new → IsLoading told still old new
loading-more told mid still old between same new first sources missing next =
    let inputs : AreTried told mid old.sources same.sources old.missing.keys between.missing.keys =
    subst (λ (i : Inputs). AreTried told mid old.sources i old.missing.keys between.missing.keys) (sym sources) first in
    let now : IsLoading told mid old same = subst (λ (names : List (List ℕ)). AreTried told mid old.sources same.sources old.missing.keys names) (sym missing) inputs in
    record {
      stays_told = next.stays_told ∙ now.stays_told;
      stays_true = λ is.
          subst (λ (f : List ℕ → Holding). IsTrue f new.sources new.missing.keys) now.stays_told
          (next.stays_true (subst (λ (f : List ℕ → Holding). IsTrue f same.sources same.missing.keys) (sym now.stays_told) (now.stays_true is)));
      stays = record { macros = next.stays.macros ∙ now.stays.macros; search = next.stays.search ∙ now.stays.search };
    }

-- what came of it, by another name
pub loading-named : (told still same : List ℕ → Holding) (old new named : Loading) → IsLoading told still old new → named ≡ new → same ≡ still → IsLoading told same old named
loading-named told still same old new named is self loader =
    subst (λ (s : Loading). IsLoading told same old s) (sym self) (subst (λ (f : List ℕ → Holding). IsLoading told f old new) (sym loader) is)

-- what is missing, the loader hasn't
pub complete : (told : List ℕ → Holding) (inputs : Inputs) (missing roots : List (List ℕ)) (compiled : List CompiledRoot) → IsTrue told inputs missing
    → compiled ≡ map (compiled_root inputs) roots → AreMissing missing compiled → AreComplete told inputs roots
complete told inputs missing roots compiled is rows are =
    by roots (subst (λ (rs : List CompiledRoot). AreMissing missing rs) rows are)
  where
    Tried : CompiledRoot → Type 0
    Tried root = All (λ (name : List ℕ). Contains missing name) root.absent

    Hasnt : List ℕ → Type 0
    Hasnt root = All (λ (name : List ℕ). Allows (told name) NoFile) (compiled_root inputs root).absent

    by : (names : List (List ℕ)) → All Tried (map (compiled_root inputs) names) → All Hasnt names
    by [] all = All-nil Hasnt
    by (root ∷ names) all =
        All-cons Hasnt root names
        (All-weaker (λ (name : List ℕ). Contains missing name) (λ (name : List ℕ). Allows (told name) NoFile)
        (λ name there. All-contains (λ (n : List ℕ). Allows (told n) NoFile) missing name is.absent there) (compiled_root inputs root).absent
        (All-head Tried (compiled_root inputs root) (map (compiled_root inputs) names) all))
        (by names (All-tail Tried (compiled_root inputs root) (map (compiled_root inputs) names) all))
