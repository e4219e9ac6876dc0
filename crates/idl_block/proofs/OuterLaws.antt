-- What a block asks: what its units ask and it has not written before.
use Rattle.std.proofs.Common.{◌≡◌, ◌↔◌, ◌⊎◌, Bool, true, false, cond, List, [], ◌∷◌, ◌++◌, append-nil, refl, sym, ap, ◌∙◌, subst, inl, inr}
use Rattle.std.specs.Prelude.{All, Contains, flat_map}
use Rattle.std.proofs.lemmas.List.Elements.{All-nil, All-append, All-weaker, All-contains, All-contains_itself, Contains-append_left, Contains-append_right, Contains-push_cases, Contains-push}
use Rattle.idl_memo.specs.Query.{Query, outcome, asked, is_logged, noted_all, run, Agree, HoldsIn}
use Rattle.idl_memo.proofs.QueryLaws.{outcome-agree, noted_all-append, IsLogOf-run, Agree-from_log}
use Rattle.idl_block.specs.Blocks.{Part, Ways, block, walk}
use Rattle.idl_block.specs.Questions.{Question, questions, outer_of, outer_asked, looked_at, IsKnown, AreSeen, AreKnown, AreOver}
use Rattle.idl_block.proofs.BlockLaws.{walk-block, asked-block}
use Rattle.idl_block.proofs.Logged.{AreLogged, noted_all-logged, noted_all-one, AreLogged-more}

module _ {X : Type 0} (P : X → Type 0) (xs ys : List X) where
  -- what holds of all holds of the first ones, and of the last ones
  pub All-left : All P (xs ++ ys) → All P xs
  All-left all = All-weaker (Contains xs) P (λ x h. All-contains P (xs ++ ys) x all (Contains-append_left xs ys x h)) xs (All-contains_itself xs)

  pub All-right : All P (xs ++ ys) → All P ys
  All-right all = All-weaker (Contains ys) P (λ x h. All-contains P (xs ++ ys) x all (Contains-append_right xs ys x h)) ys (All-contains_itself ys)

module _ {K V X T D W O : Type 0} (ways : Ways K V X T D W O) (bank : K → V) where
  abbrev pub looked : Question K W → List K
  looked q = looked_at ways q bank

  abbrev pub outer : Question K W → List K
  outer q = outer_of ways q bank

  -- ---- what holds of the keys

  -- what holds of what was seen and of the outer keys holds of all that is asked
  pub all_looked : (P : K → Type 0) (seen : List K) (qs : List (Question K W)) → AreSeen ways seen qs bank → All P seen → All P (flat_map outer qs) → All P (flat_map looked qs)
  all_looked P seen [] known before all = All-nil P
  all_looked P seen (q ∷ qs) known before all =
      let now : All P (seen ++ outer q) = All-append P seen (outer q) before (All-left P (outer q) (flat_map outer qs) all) in
      All-append P (looked q) (flat_map looked qs)
      (All-weaker (Contains (seen ++ outer q)) P (λ k there. All-contains P (seen ++ outer q) k now there) (looked q) known.0.within)
      (all_looked P (seen ++ outer q) qs known.1 now (All-right P (outer q) (flat_map outer qs) all))

  -- what holds of all that is asked holds of the outer keys
  all_outer : (P : K → Type 0) (seen : List K) (qs : List (Question K W)) → AreSeen ways seen qs bank → All P (flat_map looked qs) → All P (flat_map outer qs)
  all_outer P seen [] known all = All-nil P
  all_outer P seen (q ∷ qs) known all =
      let here : All P (looked q) = All-left P (looked q) (flat_map looked qs) all in
      All-append P (outer q) (flat_map outer qs)
      (All-weaker (Contains (looked q)) P (λ k there. All-contains P (looked q) k here there) (outer q) known.0.whole)
      (all_outer P (seen ++ outer q) qs known.1 (All-right P (looked q) (flat_map looked qs) all))

  -- ---- the log

  module _ (eq : K → K → Bool) (itself : (x : K) → eq x x ≡ true) (same : (x y : K) → eq x y ≡ true → x ≡ y) where
    -- a question is noted as its outer key
    one_noted : (seen : List K) (log : List (K × V)) (q : Question K W) → AreLogged eq bank log seen → IsKnown ways seen q bank
        → noted_all eq bank log (looked q) ≡ noted_all eq bank log (outer q)
    one_noted seen log q logged known = by (ways.is_written q.written bank q.key) known.within known.whole
      where
        of : Bool → List K
        of b = cond b [] (q.key ∷ [])

        by : (b : Bool) → All (Contains (seen ++ of b)) (looked q) → All (Contains (looked q)) (of b) → noted_all eq bank log (looked q) ≡ noted_all eq bank log (of b)
        by true within whole =
            noted_all-logged eq bank (looked q) log
            (All-weaker (Contains (seen ++ [])) (λ k. is_logged eq log k ≡ true)
            (λ k there. All-contains (λ k. is_logged eq log k ≡ true) seen k logged (subst (λ ks. Contains ks k) (append-nil seen) there)) (looked q) within)
        by false within whole =
            noted_all-one eq bank itself same (looked q) log q.key
            (All-weaker (Contains (seen ++ q.key ∷ [])) (λ k. (is_logged eq log k ≡ true) ⊎ (k ≡ q.key))
            (λ k there. case_of k (Contains-push_cases seen q.key k there)) (looked q) within)
            (All-contains (Contains (looked q)) (q.key ∷ []) q.key whole (Contains-push [] q.key))
          where
            case_of : (k : K) → Contains seen k ⊎ (q.key ≡ k) → (is_logged eq log k ≡ true) ⊎ (k ≡ q.key)
            case_of k (inl there) = inl (All-contains (λ k. is_logged eq log k ≡ true) seen k logged there)
            case_of k (inr e) = inr (sym e)

    -- from a log that has what was seen, questions leave the log of their outer keys
    log_from : (seen : List K) (log : List (K × V)) (qs : List (Question K W)) → AreLogged eq bank log seen → AreSeen ways seen qs bank
        → noted_all eq bank log (flat_map looked qs) ≡ noted_all eq bank log (flat_map outer qs)
    log_from seen log [] logged known = refl
    log_from seen log (q ∷ qs) logged known =
        let now : List (K × V) = noted_all eq bank log (outer q) in
        noted_all-append eq bank log (looked q) (flat_map looked qs)
        ∙ ap (λ l. noted_all eq bank l (flat_map looked qs)) (one_noted seen log q logged known.0)
        ∙ log_from (seen ++ outer q) now qs (AreLogged-more eq bank itself seen (outer q) log logged) known.1
        ∙ sym (noted_all-append eq bank log (outer q) (flat_map outer qs))

    -- a block leaves the log of its outer keys
    pub log-outer : (parts : List (Part T D)) (written : List W) (log : List (K × V)) → AreKnown ways parts written bank
        → (run eq (block ways parts written) bank log).1 ≡ noted_all eq bank log (outer_asked ways parts written bank)
    log-outer parts written log known =
        ap (noted_all eq bank log) (asked-block ways parts written bank)
        ∙ log_from [] log (questions ways parts written bank) (All-nil (λ k. is_logged eq log k ≡ true)) known

  -- ---- where a block comes to the same

  module _ (parts : List (Part T D)) (written : List W) (known : AreKnown ways parts written bank) where
    abbrev qs : List (Question K W)
    qs = questions ways parts written bank

    pub all_asked : (P : K → Type 0) → All P (outer_asked ways parts written bank) → All P (asked (block ways parts written) bank)
    all_asked P all = subst (All P) (sym (asked-block ways parts written bank)) (all_looked P [] qs known (All-nil P) all)

    -- a block asks its outer keys, and no others
    pub Contains-outer : (k : K) → Contains (asked (block ways parts written) bank) k ↔ Contains (outer_asked ways parts written bank) k
    Contains-outer k =
        let all : List K = asked (block ways parts written) bank in
        let outer_keys : List K = outer_asked ways parts written bank in
        let there : All (Contains all) (flat_map looked qs) = subst (All (Contains all)) (asked-block ways parts written bank) (All-contains_itself all) in (
          λ h. All-contains (Contains outer_keys) all k (all_asked (Contains outer_keys) (All-contains_itself outer_keys)) h,
          λ h. All-contains (Contains all) outer_keys k (all_outer (Contains all) [] qs known there) h,
        )

    -- over a bank that agrees on them it comes to the same
    pub outcome-again : (other : K → V) → Agree (outer_asked ways parts written bank) bank other → outcome (block ways parts written) other ≡ outcome (block ways parts written) bank
    outcome-again other agree = outcome-agree (block ways parts written) bank other (all_asked (λ k. other k ≡ bank k) agree)

-- where the log of a block holds, the block comes to what it came to
pub outcome-taken : {K V X T D W O : Type 0} (ways : Ways K V X T D W O) (parts : List (Part T D)) (written : List W)
    (eq : K → K → Bool) (itself : (x : K) → eq x x ≡ true) (same : (x y : K) → eq x y ≡ true → x ≡ y) (bank other : K → V)
    → HoldsIn other (run eq (block ways parts written) bank []).1 → outcome (block ways parts written) other ≡ outcome (block ways parts written) bank
outcome-taken {K} {V} {X} {T} {D} {W} {O} ways parts written eq itself same bank other holds =
    let query : Query K V X (List O × List W) = block ways parts written in
    outcome-agree query bank other (Agree-from_log (asked query bank) bank other (run eq query bank []).1 (IsLogOf-run eq itself same query bank) holds)

module _ {K V X T D W O : Type 0} (ways : Ways K V X T D W O) (answers : List W → K → V) (before : List W) (parts : List (Part T D)) (written : List W)
    (over : AreOver ways answers before parts written) where
  -- where a block comes to this over what stands before, its units do so one after another
  walk-same : (end : List O × List W) → outcome (block ways parts written) (answers before) ≡ end → walk ways answers parts (before ++ written) ≡ (end.0, before ++ end.1)
  walk-same end is = walk-block ways answers before parts written over ∙ ap (λ (e : List O × List W). (e.0, before ++ e.1)) is

  -- so it is where the answers agree on the outer keys
  pub walk-alike : (earlier : List W) → AreKnown ways parts written (answers earlier) → Agree (outer_asked ways parts written (answers earlier)) (answers earlier) (answers before)
      → let end = outcome (block ways parts written) (answers earlier) in walk ways answers parts (before ++ written) ≡ (end.0, before ++ end.1)
  walk-alike earlier known agree =
      walk-same (outcome (block ways parts written) (answers earlier)) (outcome-again ways (answers earlier) parts written known (answers before) agree)

  -- and where the log of the block holds
  pub walk-taken : (eq : K → K → Bool) (itself : (x : K) → eq x x ≡ true) (same : (x y : K) → eq x y ≡ true → x ≡ y) (bank : K → V)
      → HoldsIn (answers before) (run eq (block ways parts written) bank []).1
      → let end = outcome (block ways parts written) bank in walk ways answers parts (before ++ written) ≡ (end.0, before ++ end.1)
  walk-taken eq itself same bank holds = walk-same (outcome (block ways parts written) bank) (outcome-taken ways parts written eq itself same bank (answers before) holds)
