-- Which places of a project are fresh against those of another: the work that kept results don't
-- save.
-- Roots have one bank for all, units and entries one each, of what stood before them. What is fresh
-- is a sum over parts; it needs no tables.
use Rattle.std.specs.Prelude.{ℕ, ◌+◌, Bool, ◌&&◌, List, [], ◌∷◌, length, map, sum_by, if◌then◌else◌}
use Rattle.std.specs.List.{list_all, list_any}
use Rattle.idl_memo.specs.Classes.{HaveAlike, new_among, new_at, new_ones, sum_among}
use Rattle.idl_memo.specs.Query.{Query, asked, run}

-- a task where it stands: its text, and the answers there
abbrev pub Place : Type 0 → Type 0 → Type 0 → Type 0
Place K V T = T × (K → V)

-- tasks of these texts, all with the answers of one bank
abbrev pub places_over : {K V T : Type 0} → (K → V) → List T → List (Place K V T)
places_over bank texts = map (λ text. (text, bank)) texts

-- the keys asked of a task where it stands, with their answers
abbrev pub log_at : {K V X T O : Type 0} → (K → K → Bool) → (T → Query K V X O) → Place K V T
    → List (K × V)
log_at key_eq query place = (run key_eq (query place.0) place.1 []).1

module _ {K V X T O : Type 0} (text_eq : T → T → Bool) (answer_eq : V → V → Bool)
    (query : T → Query K V X O) where
  -- whether a task is alike at a place: it has the text of the task there, and each key that it
  -- asked has there the answer that it had
  abbrev pub is_alike : Place K V T → Place K V T → Bool
  is_alike here task =
      text_eq here.0 task.0
      && list_all (λ k. answer_eq (here.1 k) (task.1 k)) (asked (query task.0) task.1)

  -- nothing where a known task is alike at the place, and else one
  abbrev pub fresh_at : List (Place K V T) → Place K V T → ℕ
  fresh_at known here = new_at is_alike known here

  -- at how many places no known task and none of an earlier place is alike
  unfoldable pub fresh_among : List (Place K V T) → List (Place K V T) → ℕ
  fresh_among known places = new_among is_alike known places

  -- each of these tasks is alike at a place of those
  abbrev pub AreAmong : List (Place K V T) → List (Place K V T) → Type 0
  AreAmong these those = HaveAlike is_alike these those

  -- one where a task isn't alike at its own place in the new project, and else nothing
  abbrev pub stale_at : (K → V) → (K → V) → T → ℕ
  stale_at old new task = if is_alike (task, new) (task, old) then 0 else 1

  -- how many tasks aren't alike at their own places in the new project
  abbrev pub stale_among : (K → V) → (K → V) → List T → ℕ
  stale_among old new [] = 0
  stale_among old new (task ∷ tasks) = stale_at old new task + stale_among old new tasks

  module _ (key_eq : K → K → Bool) where
    -- how many keys a task asks where it stands
    abbrev pub keys_at : Place K V T → ℕ
    keys_at place = length (log_at key_eq query place)

    -- those that a known task asked that is alike at the place, and nothing where none is
    abbrev pub shared_at : List (Place K V T) → Place K V T → ℕ
    shared_at known here = if list_any (is_alike here) known then keys_at here else 0

    -- at each place those of a known task, or one of an earlier place, that is alike
    unfoldable pub shared_among : List (Place K V T) → List (Place K V T) → ℕ
    shared_among known places =
        sum_among is_alike (λ is_known here. if is_known then keys_at here else 0) known places

    -- those that the known tasks of its text asked, each task once
    abbrev pub most_shared_at : List (Place K V T) → Place K V T → ℕ
    most_shared_at known here =
        sum_by (λ task. if text_eq here.0 task.0 then keys_at task else 0)
        (new_ones is_alike [] known)

  module _ (key_eq : K → K → Bool) (old : K → V) where
    -- how many keys a task asked
    abbrev pub asked_at : T → ℕ
    asked_at task = length (log_at key_eq query (task, old))

    -- how many keys these tasks asked
    abbrev pub asked_among : List T → ℕ
    asked_among [] = 0
    asked_among (task ∷ tasks) = asked_at task + asked_among tasks
