-- Edits that are done one after another.
use Rattle.std.proofs.Common.{◌≡◌, ◌≢◌, ◌∙◌, ℕ, ◌+◌, List, [], ◌∷◌, ◌++◌, Result, Ok, Err, arith, length, refl, ap, subst}
use Rattle.std.proofs.Math.Seq.{take-append_seam, take-length}
use Rattle.std.proofs.lemmas.List.{length-append}
use Rattle.std.specs.Prelude.{take}
use Rattle.idl_source.specs.declared.refusal.Refusal.{Refusal}
use Rattle.idl_source.specs.declared.refusal.Refusal.TheVariants.{NoMemory}
use Rattle.idl_inputs.specs.Batch.{IsStopped, after_all, after_from}
use Rattle.idl_inputs.specs.Edits.{Edit, after}
use Rattle.idl_inputs.specs.Project.{Project}
use Rattle.idl_inputs.specs.WellFormed.{IsWellFormed}
use Rattle.idl_inputs.proofs.FormLemmas.{after-formed}

-- what becomes of the rest, by what becomes of an edit
abbrev and_on : ℕ → List Edit → Result Project Refusal → Result Project (ℕ × Refusal)
and_on done more made = elim made [ Ok next ↦ after_from (done + 1) next more | Err refusal ↦ Err (done, refusal) ]

-- a project that is reached is the one that it is said to be
reached-same : {X : Type 0} (a b : X) (R : Type 0) → ◌≡◌ {A = Result X R} (Ok a) (Ok b) → a ≡ b
reached-same a b R h = cc

-- edits keep a project well-formed
pub formed-all : (edits : List Edit) (done : ℕ) (project new : Project) → IsWellFormed project → after_from done project edits ≡ Ok new → IsWellFormed new
formed-all [] done project new formed is = subst (λ (p : Project). IsWellFormed p) (reached-same project new (ℕ × Refusal) is) formed
formed-all (edit ∷ more) done project new formed is =
    by (after project edit) refl is (λ next accepted. formed-all more (done + 1) next new (after-formed project next edit formed accepted))
  where
    by : (made : Result Project Refusal) → after project edit ≡ made → and_on done more made ≡ Ok new
        → ((next : Project) → after project edit ≡ Ok next → after_from (done + 1) next more ≡ Ok new → IsWellFormed new) → IsWellFormed new
    by (Ok next) accepted h rest = rest next accepted h
    by (Err refusal) refused h rest = absurd (cc)

-- one edit more
pub done-more : (edits : List Edit) (edit : Edit) (done : ℕ) (project reached new : Project) → after_from done project edits ≡ Ok reached → after reached edit ≡ Ok new
    → after_from done project (edits ++ edit ∷ []) ≡ Ok new
done-more [] edit done project reached new is accepted =
    ap (and_on done []) (ap (λ (p : Project). after p edit) (reached-same project reached (ℕ × Refusal) is) ∙ accepted)
done-more (e ∷ edits) edit done project reached new is accepted =
    by (after project e) refl is (λ next h. done-more edits edit (done + 1) next reached new h accepted)
  where
    by : (made : Result Project Refusal) → after project e ≡ made → and_on done edits made ≡ Ok reached
        → ((next : Project) → after_from (done + 1) next edits ≡ Ok reached → after_from (done + 1) next (edits ++ edit ∷ []) ≡ Ok new)
        → and_on done (edits ++ edit ∷ []) (after project e) ≡ Ok new
    by (Ok next) first h rest = ap (and_on done (edits ++ edit ∷ [])) first ∙ rest next h
    by (Err refusal) refused h rest = absurd (cc)

-- or one that is refused
pub stops-at : (edits : List Edit) (edit : Edit) (more : List Edit) (done : ℕ) (project reached : Project) (refusal : Refusal) → after_from done project edits ≡ Ok reached → after reached edit ≡ Err refusal
    → after_from done project (edits ++ edit ∷ more) ≡ Err (done + length edits, refusal)
stops-at [] edit more done project reached refusal is refused =
    ap (and_on done more) (ap (λ (p : Project). after p edit) (reached-same project reached (ℕ × Refusal) is) ∙ refused) ∙ ap (λ n. Err (n, refusal)) counted
  where
    counted : done ≡ done + 0
    counted = omega arith
stops-at (e ∷ edits) edit more done project reached refusal is refused =
    by (after project e) refl is (λ next h. stops-at edits edit more (done + 1) next reached refusal h refused)
  where
    counted : done + 1 + length edits ≡ done + length (e ∷ edits)
    counted = omega arith

    by : (made : Result Project Refusal) → after project e ≡ made → and_on done edits made ≡ Ok reached
        → ((next : Project) → after_from (done + 1) next edits ≡ Ok reached → after_from (done + 1) next (edits ++ edit ∷ more) ≡ Err (done + 1 + length edits, refusal))
        → and_on done (edits ++ edit ∷ more) (after project e) ≡ Err (done + length (e ∷ edits), refusal)
    by (Ok next) first h rest = ap (and_on done (edits ++ edit ∷ more)) first ∙ rest next h ∙ ap (λ n. Err (n, refusal)) counted
    by (Err other) first h rest = absurd (cc)

-- where edits stop at one of them
pub stopped-at : (project reached : Project) (edits : List Edit) (edit : Edit) (more all : List Edit) (number : ℕ) (refusal : Refusal) → edits ++ edit ∷ more ≡ all → number ≡ length edits
    → after_all project edits ≡ Ok reached → (refusal ≢ NoMemory → after reached edit ≡ Err refusal) → IsStopped project all (number, refusal)
stopped-at project reached edits edit more all number refusal parts counted is refused =
    let number_is : 0 + length edits ≡ number = omega (arith, counted) in
    subst (λ (es : List Edit). IsStopped project es (number, refusal)) parts
    (record {
      least = λ other. stops-at edits edit more 0 project reached refusal is (refused other) ∙ ap (λ n. Err (n, refusal)) number_is;
      fits = let long = length-append edits (edit ∷ more) in omega (arith, counted, long);
      before = (reached, ap (λ n. after_all project (take n (edits ++ edit ∷ more))) counted ∙ ap (after_all project) (take-append_seam edits (edit ∷ more)) ∙ is);
    })

-- or after all of them, for want of memory
pub stopped-after : (project reached : Project) (all : List Edit) (number : ℕ) → number ≡ length all → after_all project all ≡ Ok reached → IsStopped project all (number, NoMemory)
stopped-after project reached all number counted is = record {
  least = λ other. absurd (other refl);
  fits = omega (arith, counted);
  before = (reached, ap (λ n. after_all project (take n all)) counted ∙ ap (after_all project) (take-length all) ∙ is);
}
