-- The keys at which known tasks are compared, task by task.
use Rattle.std.proofs.Common.{◌≡◌, ◌∙◌, ◌≤◌, ℕ, ◌+◌, Bool, true, false, inl, inr, List, [], ◌∷◌, ◌++◌, map, refl, ap, sym, subst, arith}
use Rattle.std.specs.Prelude.{sum_by, if◌then◌else◌}
use Rattle.std.specs.List.{list_any}
use Rattle.std.specs.Option.{option_eq}
use Rattle.std.proofs.lemmas.List.{map-append}
use Rattle.std.proofs.lemmas.List.Sums.{sum_by-cons}
use Rattle.idl_entity.specs.Path.{path_eq}
use Rattle.idl_env.specs.SameAnswer.{answer_eq}
use Rattle.idl_env.specs.keys.Key.{key_eq}
use Rattle.idl_memo.specs.Fresh.{Place, fresh_at, is_alike, keys_at, shared_among, shared_at}
use Rattle.idl_memo.specs.Kept.{NoneAlikeAt, SomeAlikeAt, result_over}
use Rattle.idl_memo.specs.Meter.{compared_after, most_compared, raised}
use Rattle.idl_memo.specs.Query.{Query}
use Rattle.idl_memo.specs.declared.meter.Meter.{Meter}
use Rattle.idl_memo.specs.declared.task.TaskKind.{TaskKind}
use Rattle.idl_memo.specs.declared.task.TaskKind.TheVariants.{Expand, Check, Print}
use Rattle.idl_repo.specs.Entry.{entry}
use Rattle.idl_root.specs.Compared.{entry_keys, shared_entries}
use Rattle.idl_root.specs.Places.{EntryPlace}
use Rattle.idl_root.specs.Results.{EntryResult, HasDraft, entry_result}
use Rattle.idl_root.proofs.StoredLemmas.{grown-results}
use Rattle.idl_store.specs.Obtained.{IsObtained}
use Rattle.idl_store.specs.Stored.{Stored, grown, results_in}

-- so many keys, and then more
pub compared-more : (old keys more : ℕ) → compared_after (compared_after old keys) more ≡ compared_after old (keys + more)
compared-more old keys more = omega arith

pub compared-most : (old keys : ℕ) → compared_after old keys ≤ most_compared
compared-most old keys = omega arith

compared-none : (old more : ℕ) → compared_after old more ≡ compared_after old (0 + more)
compared-none old more = omega arith

-- where a task is run, no key is compared
pub raised-compared : (kind : TaskKind) (m : Meter) → (raised kind m).compared ≡ m.compared
raised-compared Expand m = refl
raised-compared Check m = refl
raised-compared Print m = refl

pub one-known : (known : Bool) → ◌≡◌ {A = ℕ} (if known then 0 else 1) 0 → known ≡ true
one-known true is = refl
one-known false is = absurd (omega (arith, is))

pub none-known : (known : Bool) → ◌≡◌ {A = ℕ} (if known then 0 else 1) 1 → known ≡ false
none-known true is = absurd (omega (arith, is))
none-known false is = refl

module _ {K V T O : Type 0} (text_eq : T → T → Bool) (value_eq : V → V → Bool) (query : T → Query K V (Unit {0}) O) (eq : K → K → Bool)
    (some : (known : List (Place K V T)) (here : Place K V T) → SomeAlikeAt here (map (λ p. result_over eq query p) known) → fresh_at text_eq value_eq query known here ≡ 0)
    (none : (known : List (Place K V T)) (here : Place K V T) → NoneAlikeAt here (map (λ p. result_over eq query p) known) → fresh_at text_eq value_eq query known here ≡ 1)
  where
    -- at one place those are compared that a known task asked which is alike there
    pub shared-one : (kind : TaskKind) (known : List (Place K V T)) (here : Place K V T) (old new : Meter)
        → IsObtained here (result_over eq query here) kind (map (λ p. result_over eq query p) known) old new
        → (more : ℕ) → compared_after new.compared more ≡ compared_after old.compared (shared_at text_eq value_eq query eq known here + more)
    shared-one kind known here old new (inl (alike, is)) more =
        let keys = keys_at text_eq value_eq query eq here in
        let yes = one-known (list_any (is_alike text_eq value_eq query here) known) (some known here alike) in
        ap (λ (m : Meter). compared_after m.compared more) is
        ∙ compared-more old.compared keys more
        ∙ ap (λ (b : Bool). compared_after old.compared ((if b then keys else 0) + more)) (sym yes)
    shared-one kind known here old new (inr (fresh, is)) more =
        let keys = keys_at text_eq value_eq query eq here in
        let no = none-known (list_any (is_alike text_eq value_eq query here) known) (none known here fresh) in
        ap (λ (m : Meter). compared_after m.compared more) is
        ∙ ap (λ n. compared_after n more) (raised-compared kind old)
        ∙ compared-none old.compared more
        ∙ ap (λ (b : Bool). compared_after old.compared ((if b then keys else 0) + more)) (sym no)

-- ---- names

module _ (some : (known : List EntryPlace) (here : EntryPlace) → SomeAlikeAt here (map entry_result known) → fresh_at path_eq (option_eq answer_eq) entry known here ≡ 0)
    (none : (known : List EntryPlace) (here : EntryPlace) → NoneAlikeAt here (map entry_result known) → fresh_at path_eq (option_eq answer_eq) entry known here ≡ 1)
  where
    -- at one name more, and at those behind it
    pub shared-entry : (kept next : Stored EntryResult) (known : List EntryPlace) (here : EntryPlace) (old new : Meter) → HasDraft kept → next ≡ grown kept (entry_result here ∷ [])
        → results_in kept ≡ map entry_result known → IsObtained here (entry_result here) Print (results_in kept) old new
        → (results_in next ≡ map entry_result (known ++ here ∷ []))
        × ((rest : List EntryPlace) → compared_after new.compared (shared_entries (known ++ here ∷ []) rest) ≡ compared_after old.compared (shared_entries known (here ∷ rest)))
    unfolding shared_among
    shared-entry kept next known here old new has grows are met =
        let own : IsObtained here (entry_result here) Print (map entry_result known) old new = subst (λ (ks : List EntryResult). IsObtained here (entry_result here) Print ks old new) are met in (
          ap (λ (s : Stored EntryResult). results_in s) grows ∙ grown-results kept (entry_result here ∷ []) has
              ∙ ap (λ (ks : List EntryResult). ks ++ entry_result here ∷ []) are ∙ sym (map-append entry_result known (here ∷ [])),
          λ rest. shared-one path_eq (option_eq answer_eq) entry key_eq some none Print known here old new own (shared_entries (known ++ here ∷ []) rest),
        )

-- the count stays in its bounds
pub compared-met : (here : EntryPlace) (results : List EntryResult) (old new : Meter) → old.compared ≤ most_compared → IsObtained here (entry_result here) Print results old new → new.compared ≤ most_compared
compared-met here results old new fits (inl (alike, is)) =
    let counts = ap (λ (m : Meter). m.compared) is in
    let most = compared-most old.compared (entry_keys here) in
    omega (arith, counts, most)
compared-met here results old new fits (inr (fresh, is)) =
    let counts = ap (λ (m : Meter). m.compared) is in
    omega (arith, counts, fits)

-- no name is left
pub shared-none : (known : List EntryPlace) → shared_entries known [] ≡ 0
unfolding shared_among
shared-none known = refl

-- the keys of one name more, and of those behind it
pub keys-entry : (here : EntryPlace) (rest : List EntryPlace) (old new : ℕ) → new ≡ compared_after old (entry_keys here)
    → compared_after new (sum_by entry_keys rest) ≡ compared_after old (sum_by entry_keys (here ∷ rest))
keys-entry here rest old new is =
    ap (λ n. compared_after n (sum_by entry_keys rest)) is ∙ compared-more old (entry_keys here) (sum_by entry_keys rest)
    ∙ ap (λ n. compared_after old n) (sym (sum_by-cons entry_keys here rest))
