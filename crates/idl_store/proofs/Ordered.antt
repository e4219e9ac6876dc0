-- How a log stands to a bank is how it stands to what its text asks there.
use Rattle.std.proofs.Common.{◌≡◌, ◌≢◌, Bool, true, false, List, [], ◌∷◌, ◌++◌, cond, refl, sym, ap, ◌∙◌, append_assoc}
use Rattle.std.specs.Ordering.{ordering_then}
use Rattle.std.specs.declared.cmp.Ordering.{Ordering}
use Rattle.std.specs.declared.cmp.Ordering.TheVariants.{Less, Equal, Greater}
use Rattle.std.proofs.lemmas.List.{append-nil}
use Rattle.std.proofs.lemmas.List.Elements.{All-head, All-tail, All-push, All-contains}
use Rattle.std.proofs.lemmas.List.Folds.{Any-from_list_any}
use Rattle.idl_store.specs.Order.{bank_cmp, logs_cmp}
use Rattle.idl_memo.specs.Query.{Query, Done, Ask, Tell, HoldsIn, asked, is_logged, noted_all}

module _ {K V : Type 0} (eq : K → K → Bool) where
  -- what is noted stands behind what was there
  pub noted_all-behind : (bank : K → V) (log : List (K × V)) (keys : List K) → (rest : List (K × V)) × (noted_all eq bank log keys ≡ log ++ rest)
  noted_all-behind bank log [] = ([], sym (append-nil log))
  noted_all-behind bank log (k ∷ ks) = behind_by (is_logged eq log k) (noted_all-behind bank log ks) (noted_all-behind bank (log ++ (k, bank k) ∷ []) ks)
    where
      behind_by : (b : Bool) → (rest : List (K × V)) × (noted_all eq bank log ks ≡ log ++ rest) → (rest : List (K × V)) × (noted_all eq bank (log ++ (k, bank k) ∷ []) ks ≡ (log ++ (k, bank k) ∷ []) ++ rest) → (rest : List (K × V)) × (noted_all eq bank (cond b log (log ++ (k, bank k) ∷ [])) ks ≡ log ++ rest)
      behind_by true same more = same
      behind_by false same more = ((k, bank k) ∷ more.0, more.1 ∙ append_assoc log ((k, bank k) ∷ []) more.0)

module _ {K V : Type 0} (cmp : V → V → Ordering) (itself : (v : V) → cmp v v ≡ Equal) where
  -- entries that hold in the bank are passed
  pub bank_cmp-front : (front rest : List (K × V)) (bank : K → V) → HoldsIn bank front → bank_cmp cmp (front ++ rest) bank ≡ bank_cmp cmp rest bank
  bank_cmp-front [] rest bank holds = refl
  bank_cmp-front (e ∷ front) rest bank holds =
      let here : e.1 ≡ bank e.0 = All-head (λ e. e.1 ≡ bank e.0) e front holds in
      let same : cmp e.1 (bank e.0) ≡ Equal = ap (cmp e.1) (sym here) ∙ itself e.1 in
      ap (λ o. ordering_then o (bank_cmp cmp (front ++ rest) bank)) same ∙ bank_cmp-front front rest bank (All-tail (λ e. e.1 ≡ bank e.0) e front holds)

  -- and so are entries of both logs
  logs_cmp-front : (front one other : List (K × V)) → logs_cmp cmp (front ++ one) (front ++ other) ≡ logs_cmp cmp one other
  logs_cmp-front [] one other = refl
  logs_cmp-front (e ∷ front) one other = ap (λ o. ordering_then o (logs_cmp cmp (front ++ one) (front ++ other))) (itself e.1) ∙ logs_cmp-front front one other

  module _ (exact : (v w : V) → cmp v w ≡ Equal → v ≡ w) (eq : K → K → Bool) (same : (k l : K) → eq k l ≡ true → k ≡ l) where
    -- a key that both banks' common log has
    known : (one other : K → V) (log : List (K × V)) (k : K) → is_logged eq log k ≡ true → HoldsIn one log → HoldsIn other log → one k ≡ other k
    known one other log k there in_one in_other =
        let found = Any-from_list_any (λ e. eq k e.0) log there in
        let e = found.1 in
        let key : k ≡ e.0 = same k e.0 found.4 in
        let first : e.1 ≡ one e.0 = All-contains (λ e. e.1 ≡ one e.0) log e in_one (found.0, found.2, found.3) in
        let second : e.1 ≡ other e.0 = All-contains (λ e. e.1 ≡ other e.0) log e in_other (found.0, found.2, found.3) in
        ap one key ∙ sym first ∙ second ∙ ap other (sym key)

    -- how what was logged over one bank stands to another
    abbrev pub Stands : {X A : Type 0} → Query K V X A → (K → V) → (K → V) → List (K × V) → Type 0
    Stands query one other log =
        bank_cmp cmp (noted_all eq one log (asked query one)) other
        ≡ logs_cmp cmp (noted_all eq one log (asked query one)) (noted_all eq other log (asked query other))

    -- where the answers to a key differ
    parting : (one other : K → V) (log : List (K × V)) (k : K) (ks ls : List K) → cmp (one k) (other k) ≢ Equal → HoldsIn other log
        → bank_cmp cmp (noted_all eq one (log ++ (k, one k) ∷ []) ks) other
        ≡ logs_cmp cmp (noted_all eq one (log ++ (k, one k) ∷ []) ks) (noted_all eq other (log ++ (k, other k) ∷ []) ls)
    parting one other log k ks ls differ holds =
        let r = noted_all-behind eq one (log ++ (k, one k) ∷ []) ks in
        let s = noted_all-behind eq other (log ++ (k, other k) ∷ []) ls in
        let first = r.1 ∙ append_assoc log ((k, one k) ∷ []) r.0 in
        let second = s.1 ∙ append_assoc log ((k, other k) ∷ []) s.0 in
        ap (λ l. bank_cmp cmp l other) first
        ∙ bank_cmp-front log ((k, one k) ∷ r.0) other holds
        ∙ decided (cmp (one k) (other k)) differ (bank_cmp cmp r.0 other) (logs_cmp cmp r.0 s.0)
        ∙ sym (logs_cmp-front log ((k, one k) ∷ r.0) ((k, other k) ∷ s.0))
        ∙ (λ i. logs_cmp cmp (sym first i) (sym second i))
      where
        decided : (o : Ordering) → o ≢ Equal → (p q : Ordering) → ordering_then o p ≡ ordering_then o q
        decided Less h p q = refl
        decided Equal h p q = absurd (h refl)
        decided Greater h p q = refl

    module _ {X A : Type 0} (k : K) (next : V → Query K V X A) (one other : K → V) (log : List (K × V)) (in_one : HoldsIn one log) (in_other : HoldsIn other log) where
      -- where a key is asked that was not asked before
      asked_new : (one k ≡ other k → Stands (next (one k)) one other (log ++ (k, one k) ∷ [])) → (o : Ordering) → cmp (one k) (other k) ≡ o
          → bank_cmp cmp (noted_all eq one (log ++ (k, one k) ∷ []) (asked (next (one k)) one)) other
          ≡ logs_cmp cmp (noted_all eq one (log ++ (k, one k) ∷ []) (asked (next (one k)) one)) (noted_all eq other (log ++ (k, other k) ∷ []) (asked (next (other k)) other))
      asked_new more Equal o =
          let agree = exact (one k) (other k) o in
          more agree ∙ ap (λ v. logs_cmp cmp (noted_all eq one (log ++ (k, one k) ∷ []) (asked (next (one k)) one)) (noted_all eq other (log ++ (k, v) ∷ []) (asked (next v) other))) agree
      asked_new more Less o = parting one other log k (asked (next (one k)) one) (asked (next (other k)) other) (λ e. cc) in_other
      asked_new more Greater o = parting one other log k (asked (next (one k)) one) (asked (next (other k)) other) (λ e. cc) in_other

      -- where a key is asked
      asked_by : Stands (next (one k)) one other log → (one k ≡ other k → Stands (next (one k)) one other (log ++ (k, one k) ∷ [])) → (b : Bool) → is_logged eq log k ≡ b
          → bank_cmp cmp (noted_all eq one (cond b log (log ++ (k, one k) ∷ [])) (asked (next (one k)) one)) other
          ≡ logs_cmp cmp (noted_all eq one (cond b log (log ++ (k, one k) ∷ [])) (asked (next (one k)) one)) (noted_all eq other (cond b log (log ++ (k, other k) ∷ [])) (asked (next (other k)) other))
      asked_by same more true h =
          same ∙ ap (λ v. logs_cmp cmp (noted_all eq one log (asked (next (one k)) one)) (noted_all eq other log (asked (next v) other))) (known one other log k h in_one in_other)
      asked_by same more false h = asked_new more (cmp (one k) (other k)) refl

    -- it stands to the bank as to what the query asks there
    pub stands : {X A : Type 0} (query : Query K V X A) (one other : K → V) (log : List (K × V)) → HoldsIn one log → HoldsIn other log → Stands query one other log
    stands (Done a) one other log in_one in_other =
        ap (λ l. bank_cmp cmp l other) (sym (append-nil log)) ∙ bank_cmp-front log [] other in_other
        ∙ sym (logs_cmp-front log [] []) ∙ (λ i. logs_cmp cmp (append-nil log i) (append-nil log i))
    stands (Ask k next) one other log in_one in_other =
        asked_by k next one other log in_one in_other
        (stands (next (one k)) one other log in_one in_other)
        (λ agree. stands (next (one k)) one other (log ++ (k, one k) ∷ []) (All-push (λ e. e.1 ≡ one e.0) log (k, one k) in_one refl) (All-push (λ e. e.1 ≡ other e.0) log (k, one k) in_other agree))
        (is_logged eq log k) refl
    stands (Tell x query) one other log in_one in_other = stands query one other log in_one in_other
