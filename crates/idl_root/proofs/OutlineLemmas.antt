-- What comes of a root is told in one.
use Rattle.std.proofs.Common.{◌≡◌, ◌++◌, ◌∷◌, [], Bool, List, None, ap, false, flat_map, length, map, nat_lt, refl, true, ℕ}
use Rattle.std.specs.List.{list_any}
use Rattle.std.specs.Prelude.{if◌then◌else◌}
use Rattle.idl_env.specs.Facts.{answers, scopes_in}
use Rattle.idl_env.specs.declared.additions.addition.Addition.{Addition}
use Rattle.idl_env.specs.declared.additions.addition.Addition.TheVariants.{Appears, Declares, Identifies, TypePrefixes, Uses, UsesFurther}
use Rattle.idl_env.specs.declared.keys.key.Key.TheVariants.{Cursor}
use Rattle.idl_event.specs.declared.told.event.Event.{Event}
use Rattle.idl_fault.specs.Code.{is_error}
use Rattle.idl_fault.specs.declared.code.Code.TheVariants.{OpenScope}
use Rattle.idl_fault.specs.declared.place.Place.{Place}
use Rattle.idl_finding.specs.Findings.{finding_row, in_order, numbered}
use Rattle.idl_finding.specs.declared.finding.Finding.{Finding}
use Rattle.idl_root.specs.Compile.{Outcome, has_error, is_open, open_finding, rows_beside, told}
use Rattle.idl_root.specs.Judged.{Judged}
use Rattle.idl_root.specs.Printed.{closing_finding, entry_row, first_path, first_paths, listed_in}

first-told : (additions : List Addition) → first_paths additions ≡ flat_map first_path additions
first-told [] = refl
first-told (Declares e ∷ additions) = first-told additions
first-told (Uses n path body ∷ additions) = first-told additions
first-told (UsesFurther n path further ∷ additions) = first-told additions
first-told (Appears path prefix ∷ additions) = ap (λ paths. path ∷ paths) (first-told additions)
first-told (Identifies path identity ∷ additions) = first-told additions
first-told (TypePrefixes path text ∷ additions) = first-told additions

pub listed-told : (j : Judged) → listed_in j ≡ map (λ path. record { path = path; text = j.text; sites = j.sites }) (flat_map first_path j.verdict.writes.additions)
listed-told j =
    ap (λ (paths : List (List (List ℕ))). map (λ (path : List (List ℕ)). record { path = path; text = j.text; sites = j.sites }) paths) (first-told j.verdict.writes.additions)

beside-is : (b : Bool) (rows : List (List ℕ)) → rows_beside b rows ≡ (if b then [] else rows)
beside-is true rows = refl
beside-is false rows = refl

module _ (end : Place) where
  abbrev standing : Finding
  standing = record { place = end; code = OpenScope; text = None; number = None }

  standing-is : (b : Bool) → open_finding end b ≡ (if b then standing ∷ [] else [])
  standing-is true = refl
  standing-is false = refl

pub rows-told : (end : Place) (events : List Event) (o : Outcome) → told end events o ≡ (
    let is_open = nat_lt 1 (length (scopes_in (answers o.facts Cursor))) in
    let found = (map (numbered events) (in_order o.found) ++ (if is_open
    then record { place = end; code = OpenScope; text = None; number = None } ∷ [] else []))
    ++ map (numbered events) (flat_map (closing_finding o.facts) o.listed) in
    let is_faulty = list_any (λ f. is_error f.code) found in
    record {
      findings = found;
      diagnostics = map finding_row found;
      listing = if is_faulty then [] else flat_map (entry_row o.facts) o.listed;
      dump = if is_faulty then [] else o.rows;
      is_faulty = is_faulty;
      is_open = is_open;
    })
rows-told end events o = λ i.
    let found = (map (numbered events) (in_order o.found) ++ standing-is end (is_open o.facts) i)
    ++ map (numbered events) (flat_map (closing_finding o.facts) o.listed) in
    record {
      findings = found;
      diagnostics = map finding_row found;
      listing = beside-is (has_error found) (flat_map (entry_row o.facts) o.listed) i;
      dump = beside-is (has_error found) o.rows i;
      is_faulty = has_error found;
      is_open = is_open o.facts;
    }
