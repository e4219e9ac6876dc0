-- What becomes of the roots in an edit of what they are answered.
use Rattle.std.specs.Prelude.{◌≡◌, ◌⊎◌, ℕ, ◌+◌, true, false, List, [], ◌∷◌, ◌++◌, Option, length}
use Rattle.std.specs.Map.{keys_of}
use Rattle.idl_event.specs.declared.asked.key.RootAnswer.{RootAnswer}
use Rattle.idl_event.specs.declared.asked.key.RootKey.{RootKey}
use Rattle.idl_sources.specs.idl_root.idl_kept.Drafts.{committed_texts}
use Rattle.idl_store.specs.Stored.{committed}
use Rattle.idl_memo.specs.Meter.{compared_after}
use Rattle.idl_memo.specs.declared.meter.Meter.{Meter}
use Rattle.idl_prep.specs.Root.{expanded}
use Rattle.idl_sources.specs.idl_root.AsBefore.{IsAsBefore, IsMade}
use Rattle.idl_sources.specs.idl_root.declared.kept.keeper.Keeper.{Keeper}
use Rattle.idl_inputs.specs.Bank.{bank_of}
use Rattle.idl_inputs.specs.Project.{Inputs, Project}
use Rattle.idl_project.specs.Tasks.{alike_root, kept_entries, kept_texts}
use Rattle.idl_project.specs.UpToDate.{AreKept, IsKept}
use Rattle.idl_project.specs.Work.{touched_between, work_between}
use Rattle.idl_project.specs.declared.kept_root.KeptRoot.{KeptRoot}
use Rattle.idl_project.specs.declared.work.Work.{Work}

-- nothing that is kept has become another
pub record IsKeeperLeft (old new : Keeper) : Type 0 where
  pub texts : new.texts ≡ old.texts
  pub entries : new.entries ≡ old.entries

-- a root at a place among all comes to what these answers make of it: its lists are in drafts, the
-- fresh tasks are counted, and the keys of known ones are compared
abbrev pub IsDrafted : (RootKey → Option RootAnswer) → ℕ → List ℕ → Keeper → Keeper → Meter → Meter
    → Type 0
IsDrafted bank at root old new before after = IsMade (expanded root bank).0 at old new before after

-- a root has the tasks that it had, and nothing is made of it: the keys are compared that these asked
abbrev pub IsLeft : (RootKey → Option RootAnswer) → (RootKey → Option RootAnswer) → List ℕ → Keeper
    → Keeper → Meter → Meter → Type 0
IsLeft was bank root old new before after =
    IsAsBefore (expanded root was).0 (expanded root bank).0 old new before after

-- a root's own task holds still: it expands to what it did, nothing else is looked at, and the keys
-- are compared that its own task asked
pub record IsHeld (was bank : RootKey → Option RootAnswer) (root : List ℕ) (old new : Keeper)
    (before after : Meter) : Type 0 where
  pub alike : alike_root (root, bank) (root, was) ≡ true
  pub events : (expanded root bank).0 ≡ (expanded root was).0
  pub kept : IsKeeperLeft old new
  pub meter : after ≡ record before {
    compared = compared_after before.compared (length (expanded root bank).1);
  }

-- a root's own task holds no longer: it is expanded anew, and its tasks are those that it had, or it
-- is drafted
pub record IsExpanded (was bank : RootKey → Option RootAnswer) (at : ℕ) (root : List ℕ)
    (old new : Keeper) (before after : Meter) : Type 0 where
  pub stale : alike_root (root, bank) (root, was) ≡ false
  pub count : after.expanded ≡ before.expanded + 1
  pub tasks : IsLeft was bank root old new before after ⊎ IsDrafted bank at root old new before after

-- what becomes of a root at a place among all, over these answers and then over those
abbrev pub IsRenewedAt : (RootKey → Option RootAnswer) → (RootKey → Option RootAnswer) → ℕ → List ℕ
    → Keeper → Keeper → Meter → Meter → Type 0
IsRenewedAt was bank at root old new before after =
    IsHeld was bank root old new before after ⊎ IsExpanded was bank at root old new before after

-- a root more, the last one, with what is kept of it over these inputs
pub record IsAdded (inputs : Inputs) (root : List ℕ) (old new : List (List ℕ × KeptRoot))
    : Type 0 where
  pub kept : KeptRoot
  pub is_kept : IsKept (bank_of inputs) (root, kept)
  pub last : new ≡ old ++ (root, kept) ∷ []

-- the same roots, with what is kept of them over these answers in place of the project's, the work of
-- that, and those of them that were expanded anew; what is kept of their tasks then comes of the
-- keeper once its drafts are in place
pub record IsRenewed (project : Project) (after : RootKey → Option RootAnswer) (keeper : Keeper)
    (renewed : List (List ℕ × KeptRoot) × Work × List (List ℕ)) : Type 0 where
  pub roots : keys_of renewed.0 ≡ project.roots
  pub kept : AreKept after renewed.0
  pub texts : committed_texts keeper.texts ≡ kept_texts after project.roots
  pub entries : committed keeper.entries ≡ kept_entries after project.roots
  pub work : renewed.1 ≡ work_between (bank_of project.inputs) project.roots after project.roots
  pub touched : renewed.2
      ≡ touched_between (bank_of project.inputs) project.roots after project.roots
