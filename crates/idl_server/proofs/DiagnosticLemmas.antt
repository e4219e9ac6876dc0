-- What is told of findings, one after another.
use Rattle.std.proofs.Common.{◌≡◌, ◌∙◌, ◌+◌, ◌-◌, ◌<◌, ◌≤◌, ◌++◌, ◌∷◌, [], ℕ, false, List, None, Some, ap, arith, get_or, length, map, subst, sym, take}
use Rattle.std.proofs.lemmas.Bool.{cond-false, cond-true, le-leb, lt-leb}
use Rattle.std.proofs.lemmas.List.{length-map, map-append, take_more}
use Rattle.std.proofs.lemmas.Option.{slice_get-get_or, slice_get-map}
use Rattle.std.specs.List.{AllZip, slice_get}
use Rattle.std.specs.Option.{option_map}
use Rattle.std.specs.Prelude.{nat_le}
use Rattle.serde_json.specs.Data.{Data}
use Rattle.serde_json.specs.View.{view}
use Rattle.serde_json.specs.declared.value.Value.{Value}
use Rattle.idl_finding.specs.declared.finding.Finding.{Finding}
use Rattle.idl_inputs.specs.Project.{Project}
use Rattle.idl_editor.specs.declared.column.Encoding.{Encoding}
use Rattle.idl_editor.specs.declared.told.found.RootFinding.{RootFinding}
use Rattle.idl_editor.specs.told.Diagnostics.{more_json}
use Rattle.idl_editor.specs.told.Found.{findings_in}
use Rattle.idl_server.specs.Diagnostics.{finding_line, rest_told}

zip-push : (R : Finding → Data → Type 0) (fs : List Finding) (ds : List Data) (f : Finding) (d : Data) → AllZip R fs ds → R f d → AllZip R (fs ++ f ∷ []) (ds ++ d ∷ [])
zip-push R [] [] f d are next = (next, tt)
zip-push R [] (b ∷ ds) f d are next = absurd are
zip-push R (a ∷ fs) [] f d are next = absurd are
zip-push R (a ∷ fs) (b ∷ ds) f d are next = (are.0, zip-push R fs ds f d are.1 next)

-- one more
pub zip-found : (R : Finding → Data → Type 0) (found : List RootFinding) (i : ℕ) (one : RootFinding) (values after : List Value) (value : Value) → i < length found → one ≡ get_or found i one
    → after ≡ values ++ value ∷ [] → AllZip R (findings_in (take i found)) (map view values) → R one.finding.now (view value)
    → AllZip R (findings_in (take (i + 1) found)) (map view after)
zip-found R found i one values after value within is pushed are next =
    let fs : findings_in (take (i + 1) found) ≡ findings_in (take i found) ++ one.finding.now ∷ [] =
    ap findings_in (take_more found i one within ∙ ap (λ y. take i found ++ y ∷ []) (sym is)) ∙ map-append (λ (f : RootFinding). f.finding.now) (take i found) (one ∷ []) in
    let ds : map view after ≡ map view values ++ view value ∷ [] = ap (map view) pushed ∙ map-append view values (value ∷ []) in
    subst (λ gs. AllZip R gs (map view after)) (sym fs)
    (subst (λ es. AllZip R (findings_in (take i found) ++ one.finding.now ∷ []) es) (sym ds) (zip-push R (findings_in (take i found)) (map view values) one.finding.now (view value) are next))

-- ---- how many more there are

module _ (encoding : Encoding) (project : Project) (found : List RootFinding) where
  count : length (findings_in found) ≡ length found
  count = length-map found (λ (r : RootFinding). r.finding.now)

  -- all are told
  pub rest-none : length found ≤ 1000 → rest_told encoding project (findings_in found) ≡ []
  rest-none few = cond-true _ _ _ (ap (λ (n : ℕ). nat_le n 1000) count ∙ le-leb (length found) 1000 few)

  -- some aren't
  pub rest-some : (last : RootFinding) → 1000 < length found → last ≡ get_or found 999 last
      → rest_told encoding project (findings_in found) ≡ more_json (finding_line encoding project last.finding.now) (length found - 1000) ∷ []
  rest-some last many is =
      let more : nat_le (length found) 1000 ≡ false = lt-leb (length found) 1000 many in
      let there : slice_get found 999 ≡ Some last = slice_get-get_or found 999 last (omega (arith, many)) ∙ ap (λ (r : RootFinding). Some r) (sym is) in
      let slot : slice_get (findings_in found) 999 ≡ Some last.finding.now =
      slice_get-map (λ (r : RootFinding). r.finding.now) found 999 ∙ ap (option_map (λ (r : RootFinding). r.finding.now)) there in
      cond-false _ _ _ (ap (λ (n : ℕ). nat_le n 1000) count ∙ more)
      ∙ (λ i. elim (slot i) [ None ↦ [] | Some l ↦ more_json (finding_line encoding project l) (count i - 1000) ∷ [] ])
