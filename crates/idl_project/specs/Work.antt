-- What an edit costs.
use Rattle.std.specs.Prelude.{◌≡◌, ℕ, Bool, true, false, ◌&&◌, List, Option, filter, not}
use Rattle.std.specs.List.{list_any}
use Rattle.std.specs.Option.{option_eq}
use Rattle.std.specs.Str.{bytes_eq}
use Rattle.idl_event.specs.declared.asked.key.RootAnswer.{RootAnswer}
use Rattle.idl_event.specs.declared.asked.key.RootKey.{RootKey}
use Rattle.idl_memo.specs.Fresh.{fresh_among, places_over}
use Rattle.idl_memo.specs.Meter.{compared_after}
use Rattle.idl_prep.specs.Root.{expansion}
use Rattle.idl_sources.specs.idl_root.Results.{fresh_declarations, fresh_entries}
use Rattle.idl_inputs.specs.Bank.{bank_of}
use Rattle.idl_project.specs.Compared.{PlaceMet, compared_in, met_between}
use Rattle.idl_inputs.specs.Project.{Project, is_root}
use Rattle.idl_project.specs.Tasks.{alike_root, answer_eq, declarations_among, entries_among}
use Rattle.idl_project.specs.declared.work.Work.{Work}

-- no work
abbrev pub no_work : Work
no_work = record { expanded = 0; checked = 0; printed = 0; compared = 0 }

-- at how many of these roots no task of the roots before, and none of an earlier one, is alike
abbrev pub fresh_roots : (RootKey → Option RootAnswer) → List (List ℕ)
    → (RootKey → Option RootAnswer) → List (List ℕ) → ℕ
fresh_roots old before new roots =
    fresh_among bytes_eq (option_eq answer_eq) expansion (places_over old before)
    (places_over new roots)

-- the work of an edit, by the answers and the roots before it and those after it: fresh tasks are
-- counted, and known tasks are compared where places are met
abbrev pub work_between : (RootKey → Option RootAnswer) → List (List ℕ)
    → (RootKey → Option RootAnswer) → List (List ℕ) → Work
work_between old before new roots = record {
  expanded = fresh_roots old before new roots;
  checked = fresh_declarations (declarations_among old before) (declarations_among new roots);
  printed = fresh_entries (entries_among old before) (entries_among new roots);
  compared = compared_after 0 (compared_in (met_between old before new roots));
}

-- the work of an edit, by the project before it and the one after it
abbrev pub work_of : Project → Project → Work
work_of old new = work_between (bank_of old.inputs) old.roots (bank_of new.inputs) new.roots

-- a root of before that is alike in the new project: it comes to what it came to
abbrev pub is_untouched : (RootKey → Option RootAnswer) → List (List ℕ)
    → (RootKey → Option RootAnswer) → List ℕ → Bool
is_untouched old before new root =
    list_any (bytes_eq root) before && alike_root (root, new) (root, old)

-- the other ones of these roots, in order
abbrev pub touched_between : (RootKey → Option RootAnswer) → List (List ℕ)
    → (RootKey → Option RootAnswer) → List (List ℕ) → List (List ℕ)
touched_between old before new roots =
    filter (λ root. not (is_untouched old before new root)) roots

-- those that an edit expands anew, by the project before it and the one after it
abbrev pub touched_of : Project → Project → List (List ℕ)
touched_of old new =
    touched_between (bank_of old.inputs) old.roots (bank_of new.inputs) new.roots

-- a root before an edit and after it that this doesn't expand anew
pub record IsPassedOver (old new : Project) (root : List ℕ) : Type 0 where
  pub before : is_root old root ≡ true
  pub after : is_root new root ≡ true
  pub untouched : list_any (bytes_eq root) (touched_of old new) ≡ false

-- what is met at such an edit
abbrev pub met_of : Project → Project → List PlaceMet
met_of old new = met_between (bank_of old.inputs) old.roots (bank_of new.inputs) new.roots
