-- Keys that are in a log.
use Rattle.std.proofs.Common.{◌≡◌, ◌⊎◌, Bool, true, false, cond, ◌||◌, List, [], ◌∷◌, ◌++◌, refl, sym, ap, ◌∙◌, arith, inl, inr}
use Rattle.std.specs.Prelude.{All, Contains}
use Rattle.std.proofs.lemmas.List.Elements.{All-nil, All-cons, All-head, All-tail, All-append, All-weaker, Contains-append_cases, Contains-push_cases}
use Rattle.std.proofs.lemmas.List.Folds.{list_any-append}
use Rattle.idl_memo.specs.Query.{is_logged, noted, noted_all}

or_true : (b : Bool) → (b || true) ≡ true
or_true true = refl
or_true false = refl

module _ {K V : Type 0} (eq : K → K → Bool) (bank : K → V) where
  -- these keys are in the log
  abbrev pub AreLogged : List (K × V) → List K → Type 0
  AreLogged log keys = All (λ k. is_logged eq log k ≡ true) keys

  -- logged keys change no log
  pub noted-logged : (log : List (K × V)) (k : K) (b : Bool) → b ≡ true → cond b log (log ++ (k, bank k) ∷ []) ≡ log
  noted-logged log k true h = refl
  noted-logged log k false h = ap (λ b. cond b log (log ++ (k, bank k) ∷ [])) h

  pub noted_all-logged : (keys : List K) (log : List (K × V)) → AreLogged log keys → noted_all eq bank log keys ≡ log
  noted_all-logged [] log all = refl
  noted_all-logged (k ∷ keys) log all =
      ap (λ l. noted_all eq bank l keys) (noted-logged log k (is_logged eq log k) (All-head (λ k. is_logged eq log k ≡ true) k keys all))
      ∙ noted_all-logged keys log (All-tail (λ k. is_logged eq log k ≡ true) k keys all)

  -- what is logged stays so
  pub stays_by : (log : List (K × V)) (q k : K) (b : Bool) → is_logged eq log k ≡ true → is_logged eq (cond b log (log ++ (q, bank q) ∷ [])) k ≡ true
  stays_by log q k true h = h
  stays_by log q k false h = list_any-append (λ e. eq k e.0) log ((q, bank q) ∷ []) ∙ ap (λ b. b || (eq k q || false)) h

  pub stays : (keys : List K) (log : List (K × V)) (k : K) → is_logged eq log k ≡ true → is_logged eq (noted_all eq bank log keys) k ≡ true
  stays [] log k h = h
  stays (q ∷ keys) log k h = stays keys (noted eq bank log q) k (stays_by log q k (is_logged eq log q) h)

  module _ (itself : (x : K) → eq x x ≡ true) where
    -- a noted key is logged
    pub here_by : (log : List (K × V)) (k : K) (b : Bool) → is_logged eq log k ≡ b → is_logged eq (cond b log (log ++ (k, bank k) ∷ [])) k ≡ true
    here_by log k true h = h
    here_by log k false h =
        list_any-append (λ e. eq k e.0) log ((k, bank k) ∷ [])
        ∙ ap (λ b. is_logged eq log k || (b || false)) (itself k)
        ∙ or_true (is_logged eq log k)

    AreLogged-noted_all : (keys : List K) (log : List (K × V)) → AreLogged (noted_all eq bank log keys) keys
    AreLogged-noted_all [] log = All-nil (λ k. is_logged eq log k ≡ true)
    AreLogged-noted_all (k ∷ keys) log =
        let end : List (K × V) = noted_all eq bank (noted eq bank log k) keys in
        All-cons (λ k. is_logged eq end k ≡ true) k keys
        (stays keys (noted eq bank log k) k (here_by log k (is_logged eq log k) refl))
        (AreLogged-noted_all keys (noted eq bank log k))

    pub AreLogged-more : (seen keys : List K) (log : List (K × V)) → AreLogged log seen → AreLogged (noted_all eq bank log keys) (seen ++ keys)
    AreLogged-more seen keys log all =
        let end : List (K × V) = noted_all eq bank log keys in
        All-append (λ k. is_logged eq end k ≡ true) seen keys
        (All-weaker (λ k. is_logged eq log k ≡ true) (λ k. is_logged eq end k ≡ true) (λ k h. stays keys log k h) seen all)
        (AreLogged-noted_all keys log)

    -- ---- logged keys, and one that is not

    -- these keys are logged, or this one
    abbrev pub AreLoggedOr : List (K × V) → K → List K → Type 0
    AreLoggedOr log k keys = All (λ q. (is_logged eq log q ≡ true) ⊎ (q ≡ k)) keys

    -- they are logged once it is noted
    logged-behind : (log : List (K × V)) (k : K) (keys : List K) → AreLoggedOr log k keys → AreLogged (noted eq bank log k) keys
    logged-behind log k keys all =
        All-weaker (λ q. (is_logged eq log q ≡ true) ⊎ (q ≡ k)) (λ q. is_logged eq (noted eq bank log k) q ≡ true) (λ q one. by q one) keys all
      where
        here : is_logged eq (noted eq bank log k) k ≡ true
        here = here_by log k (is_logged eq log k) refl

        by : (q : K) → (is_logged eq log q ≡ true) ⊎ (q ≡ k) → is_logged eq (noted eq bank log k) q ≡ true
        by q (inl h) = stays_by log k q (is_logged eq log k) h
        by q (inr e) = ap (is_logged eq (noted eq bank log k)) e ∙ here

    module _ (same : (x y : K) → eq x y ≡ true → x ≡ y) where
      -- a key that is not the first is among the others
      among : (x k : K) (keys : List K) → eq x k ≡ false → Contains (x ∷ keys) k → Contains keys k
      among x k keys other has = by (Contains-append_cases (x ∷ []) keys k has)
        where
          never : (x ≡ k) → Contains keys k
          never e = let no : true ≡ false = sym (itself x) ∙ ap (eq x) e ∙ other in cc

          first : Contains [] k ⊎ (x ≡ k) → Contains keys k
          first (inl none) = absurd (omega (arith, none.1))
          first (inr e) = never e

          by : Contains (x ∷ []) k ⊎ Contains keys k → Contains keys k
          by (inl c) = first (Contains-push_cases [] x k c)
          by (inr c) = c

      -- so they are noted as it alone
      pub noted_all-one : (keys : List K) (log : List (K × V)) (k : K) → AreLoggedOr log k keys → Contains keys k → noted_all eq bank log keys ≡ noted eq bank log k
      noted_all-one [] log k all has = absurd (omega (arith, has.1))
      noted_all-one (x ∷ keys) log k all has =
          by (λ there. noted_all-one keys log k (All-tail (λ q. (is_logged eq log q ≡ true) ⊎ (q ≡ k)) x keys all) there) (eq x k) refl
        where
          P : K → Type 0
          P = λ q. (is_logged eq log q ≡ true) ⊎ (q ≡ k)

          rest : AreLoggedOr log k keys
          rest = All-tail P x keys all

          logged : eq x k ≡ false → P x → is_logged eq log x ≡ true
          logged other (inl h) = h
          logged other (inr e) = let no : true ≡ false = sym (itself x) ∙ ap (eq x) e ∙ other in cc

          by : (Contains keys k → noted_all eq bank log keys ≡ noted eq bank log k)
              → (b : Bool) → eq x k ≡ b → noted_all eq bank (noted eq bank log x) keys ≡ noted eq bank log k
          by later true is =
              ap (λ q. noted_all eq bank (noted eq bank log q) keys) (same x k is)
              ∙ noted_all-logged keys (noted eq bank log k) (logged-behind log k keys rest)
          by later false is =
              ap (λ l. noted_all eq bank l keys) (noted-logged log x (is_logged eq log x) (logged is (All-head P x keys all)))
              ∙ later (among x k keys is has)

-- keys with the same answers are noted alike
pub noted_all-same : {K V : Type 0} (eq : K → K → Bool) (bank other : K → V) (keys : List K) (log : List (K × V)) → All (λ k. other k ≡ bank k) keys → noted_all eq other log keys ≡ noted_all eq bank log keys
noted_all-same eq bank other [] log all = refl
noted_all-same eq bank other (k ∷ keys) log all =
    ap (λ v. noted_all eq other (cond (is_logged eq log k) log (log ++ (k, v) ∷ [])) keys) (All-head (λ k. other k ≡ bank k) k keys all)
    ∙ noted_all-same eq bank other keys (noted eq bank log k) (All-tail (λ k. other k ≡ bank k) k keys all)
