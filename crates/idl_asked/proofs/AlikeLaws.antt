-- A task is alike where its text is, and each key of the table is answered as it was.
use Rattle.std.proofs.Common.{◌≡◌, ℕ, ◌≤◌, Bool, true, List, [], ◌∷◌, Option, refl, inl, inr, subst}
use Rattle.std.proofs.lemmas.Bool.{and_parts}
use Rattle.std.specs.List.{list_all}
use Rattle.std.specs.Prelude.{◌↔◌, ◌&&◌}
use Rattle.idl_asked.proofs.IdLaws.{entry-asks}
use Rattle.idl_asked.proofs.UnitAsks.{unit-in}
use Rattle.idl_asked.specs.Entries.{AsksEntry}
use Rattle.idl_asked.specs.Units.{AsksUnit}
use Rattle.idl_check_laws.specs.idl_check.walk.Verdict.{verdict}
use Rattle.idl_env.proofs.Membership.{IsIn}
use Rattle.idl_env.specs.Facts.{UnitFacts, answers}
use Rattle.idl_env.specs.Turns.{turns_for}
use Rattle.idl_env.specs.declared.answering.answer.Answer.{Answer}
use Rattle.idl_env.specs.declared.keys.key.Key.{Key}
use Rattle.idl_memo.specs.Fresh.{Place, is_alike}
use Rattle.idl_memo.specs.Query.{asked, outcome}
use Rattle.idl_repo.specs.Entry.{entry}
use Rattle.idl_scope.specs.Lookup.{Lookup}
use Rattle.idl_unit.specs.declared.unit.UnitText.{UnitText}

-- a test of all that are in a list
module _ {A : Type 0} (test : A → Bool) where
  all-in : (xs : List A) → list_all test xs ≡ true → (x : A) → IsIn x xs → test x ≡ true
  all-in [] h x i = absurd i
  all-in (y ∷ xs) h x (inl same) = subst (λ z. test z ≡ true) same (and_parts (test y) (list_all test xs) h).0
  all-in (y ∷ xs) h x (inr i) = all-in xs (and_parts (test y) (list_all test xs) h).1 x i

  all-of : (xs : List A) → ((x : A) → IsIn x xs → test x ≡ true) → list_all test xs ≡ true
  all-of [] h = refl
  all-of (y ∷ xs) h = let here = h y (inl refl) in let more = all-of xs (λ x i. h x (inr i)) in λ i. here i && more i

module _ {T O : Type 0} (text_eq : T → T → Bool) (answer_eq : Option Answer → Option Answer → Bool) (query : T → Lookup O) (here task : Place Key (Option Answer) T)
    (Asks : Key → Type 0) (table : (k : Key) → IsIn k (asked (query task.0) task.1) ↔ Asks k) where
  abbrev answered : Key → Bool
  answered k = answer_eq (here.1 k) (task.1 k)

  alike-by : (is_alike text_eq answer_eq query here task ≡ true) ↔ ((text_eq here.0 task.0 ≡ true) × ((k : Key) → Asks k → answer_eq (here.1 k) (task.1 k) ≡ true))
  alike-by = (
    λ h.
        let both = and_parts (text_eq here.0 task.0) (list_all answered (asked (query task.0) task.1)) h in
        (both.0, λ k a. all-in answered (asked (query task.0) task.1) both.1 k ((table k).1 a)),
    λ h.
        let text = h.0 in
        let all = all-of answered (asked (query task.0) task.1) (λ k i. h.1 k ((table k).0 i)) in
        λ i. text i && all i,
  )

pub unit-alike : (facts : List UnitFacts) (turns : ℕ) (text : UnitText) (here : Place Key (Option Answer) UnitText) (text_eq : UnitText → UnitText → Bool) (answer_eq : Option Answer → Option Answer → Bool) → turns_for facts ≤ turns
    → (is_alike text_eq answer_eq (verdict turns) here (text, answers facts) ≡ true)
    ↔ ((text_eq here.0 text ≡ true) × ((k : Key) → AsksUnit turns facts text (outcome (verdict turns text) (answers facts)) k → answer_eq (here.1 k) (answers facts k) ≡ true))
unit-alike facts turns text here text_eq answer_eq enough_for =
    alike-by text_eq answer_eq (verdict turns) here (text, answers facts) (λ k. AsksUnit turns facts text (outcome (verdict turns text) (answers facts)) k) (λ k. unit-in facts turns enough_for k text)

pub entry-alike : (path : List (List ℕ)) (bank : Key → Option Answer) (here : Place Key (Option Answer) (List (List ℕ))) (text_eq : List (List ℕ) → List (List ℕ) → Bool) (answer_eq : Option Answer → Option Answer → Bool)
    → (is_alike text_eq answer_eq entry here (path, bank) ≡ true) ↔ ((text_eq here.0 path ≡ true) × ((k : Key) → AsksEntry bank path k → answer_eq (here.1 k) (bank k) ≡ true))
entry-alike path bank here text_eq answer_eq = alike-by text_eq answer_eq entry here (path, bank) (λ k. AsksEntry bank path k) (λ k. entry-asks bank path k)
