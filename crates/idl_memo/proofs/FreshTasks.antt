-- Places that are alike, and the fresh ones among them.
use Rattle.std.proofs.Common.{◌≡◌, ℕ, ◌+◌, ◌≤◌, length, subst, Bool, true, false, ◌&&◌, ◌||◌, ◌↔◌, All, Contains, sum_by, Option, None, Some, List, [], ◌∷◌, ◌++◌, append-nil, append_assoc, refl, sym, ap, ◌∙◌, arith, if◌then◌else◌}
use Rattle.std.proofs.lemmas.List.{map-append}
use Rattle.std.proofs.lemmas.List.Elements.{All-nil, All-cons, All-head, All-tail}
use Rattle.std.proofs.lemmas.List.Folds.{list_any-append, list_any_at}
use Rattle.std.specs.Cmp.{IsEquivalence}
use Rattle.std.specs.List.{list_all, list_any, AllByRecursion, IsDistinct}
use Rattle.std.specs.Option.{option_eq}
use Rattle.idl_base.proofs.Bools.{or-true}
use Rattle.idl_base.specs.Exact.{both}
use Rattle.idl_memo.specs.Classes.{new_among, new_ones}
use Rattle.idl_memo.specs.Query.{Query, asked, run, Agree, HoldsIn}
use Rattle.idl_memo.specs.Fresh.{Place, places_over, is_alike, log_at, keys_at, fresh_at, fresh_among, shared_at, shared_among, most_shared_at, AreAmong, stale_among}
use Rattle.idl_memo.proofs.ClassLaws.{one_test, each_new, not_before, new-split, new-none, new-aside, new-distinct, HaveAlike-itself, most-new, sum-aside, sum-known, sum-split}
use Rattle.idl_memo.proofs.QueryLaws.{IsLogOf-run, Agree-from_log, run-agree}

-- an option is equal to itself where what it holds is
pub option_eq-itself : {X : Type 0} (eq : X → X → Bool) → ((x : X) → eq x x ≡ true) → (o : Option X) → option_eq eq o o ≡ true
option_eq-itself eq itself None = refl
option_eq-itself eq itself (Some x) = itself x

absorbed : (a b : Bool) → (a || (b && a)) ≡ a
absorbed true b = refl
absorbed false true = refl
absorbed false false = refl

module _ {K V : Type 0} (answer_eq : V → V → Bool) (itself : (x : V) → answer_eq x x ≡ true) (same : (x y : V) → answer_eq x y ≡ true → x ≡ y) (old new : K → V) where
  -- the test on the answers tells that the banks agree
  pub Agree-from_test : (keys : List K) → list_all (λ k. answer_eq (new k) (old k)) keys ≡ true → Agree keys old new
  Agree-from_test [] h = All-nil (λ k. new k ≡ old k)
  Agree-from_test (k ∷ ks) h =
      let parts = both (answer_eq (new k) (old k)) (list_all (λ k. answer_eq (new k) (old k)) ks) h in
      All-cons (λ k. new k ≡ old k) k ks (same (new k) (old k) parts.0) (Agree-from_test ks parts.1)

  -- and passes where they do
  pub test-from_Agree : (keys : List K) → Agree keys old new → list_all (λ k. answer_eq (new k) (old k)) keys ≡ true
  test-from_Agree [] h = refl
  test-from_Agree (k ∷ ks) h =
      let here : answer_eq (new k) (old k) ≡ true = ap (λ v. answer_eq v (old k)) (All-head (λ k. new k ≡ old k) k ks h) ∙ itself (old k) in
      ap (λ b. b && list_all (λ k. answer_eq (new k) (old k)) ks) here ∙ test-from_Agree ks (All-tail (λ k. new k ≡ old k) k ks h)

-- texts that are equal by a test may be different ones, as long as they ask the same
module _ {K V X T O : Type 0} (text_eq : T → T → Bool) (text_equiv : IsEquivalence text_eq) (answer_eq : V → V → Bool) (itself : (x : V) → answer_eq x x ≡ true) (same : (x y : V) → answer_eq x y ≡ true → x ≡ y)
    (query : T → Query K V X O) (same_query : (x y : T) → text_eq x y ≡ true → query x ≡ query y) where
  abbrev alike : Place K V T → Place K V T → Bool
  alike = is_alike text_eq answer_eq query

  -- whether each key that a task asked has the answer that it had
  abbrev answers : (K → V) → (K → V) → T → Bool
  answers old new task = list_all (λ k. answer_eq (new k) (old k)) (asked (query task) old)

  -- what it means to be alike
  pub is_alike-means : (here task : Place K V T) → (is_alike text_eq answer_eq query here task ≡ true ↔ (text_eq here.0 task.0 ≡ true) × Agree (asked (query task.0) task.1) task.1 here.1)
  is_alike-means here task = (
    (λ h. let parts = both (text_eq here.0 task.0) (answers task.1 here.1 task.0) h in (parts.0, Agree-from_test answer_eq itself same task.1 here.1 (asked (query task.0) task.1) parts.1)),
    (λ h. ap (λ b. b && answers task.1 here.1 task.0) h.0 ∙ test-from_Agree answer_eq itself same task.1 here.1 (asked (query task.0) task.1) h.1),
  )

  -- over one bank all of them have
  answers-here : (bank : K → V) (task : T) → answers bank bank task ≡ true
  answers-here bank task = test-from_Agree answer_eq itself same bank bank (asked (query task) bank) (λ k d below. refl)

  module _ (key_eq : K → K → Bool) (key_itself : (x : K) → key_eq x x ≡ true) (key_same : (x y : K) → key_eq x y ≡ true → x ≡ y) where
    -- alike are those that have equal texts and one log
    pub is_alike-class : (here task : Place K V T) → (is_alike text_eq answer_eq query here task ≡ true ↔ (text_eq here.0 task.0 ≡ true) × (log_at key_eq query here ≡ log_at key_eq query task))
    is_alike-class here task = (
      (λ h. let m = (is_alike-means here task).0 h in
          (m.0, ap (λ (q : Query K V X O). (run key_eq q here.1 []).1) (same_query here.0 task.0 m.0) ∙ ap (λ (r : O × List (K × V)). r.1) (run-agree key_eq (query task.0) task.1 here.1 [] m.1))),
      (λ h. let there : HoldsIn here.1 (log_at key_eq query task) = subst (HoldsIn here.1) h.1 (IsLogOf-run key_eq key_itself key_same (query here.0) here.1).answers in
          (is_alike-means here task).1 (h.0, Agree-from_log (asked (query task.0) task.1) task.1 here.1 (log_at key_eq query task) (IsLogOf-run key_eq key_itself key_same (query task.0) task.1) there)),
    )

    -- so each is alike to itself, two are both ways, and likeness goes on
    alike-itself : (x : Place K V T) → alike x x ≡ true
    alike-itself x = (is_alike-class x x).1 (text_equiv.refl x.0, refl)

    pub alike-turn : (x y : Place K V T) → alike x y ≡ alike y x
    alike-turn x y = one_test (alike x y) (alike y x)
        (λ h. let c = (is_alike-class x y).0 h in (is_alike-class y x).1 (text_equiv.symm y.0 x.0 ∙ c.0, sym c.1))
        (λ h. let c = (is_alike-class y x).0 h in (is_alike-class x y).1 (text_equiv.symm x.0 y.0 ∙ c.0, sym c.1))

    alike-chain : (x y z : Place K V T) → alike x y ≡ true → alike y z ≡ true → alike x z ≡ true
    alike-chain x y z first second =
        let c = (is_alike-class x y).0 first in
        let d = (is_alike-class y z).0 second in
        (is_alike-class x z).1 (text_equiv.congr x.0 y.0 z.0 c.0 ∙ d.0, c.1 ∙ d.1)

    abbrev fresh : List (Place K V T) → List (Place K V T) → ℕ
    fresh = fresh_among text_eq answer_eq query

    abbrev Among : List (Place K V T) → List (Place K V T) → Type 0
    Among = AreAmong text_eq answer_eq query

    pub fresh-none : (known : List (Place K V T)) → fresh known [] ≡ 0
    unfolding fresh_among
    fresh-none known = refl

    pub fresh-one : (known : List (Place K V T)) (here : Place K V T) → fresh known (here ∷ []) ≡ fresh_at text_eq answer_eq query known here
    unfolding fresh_among
    fresh-one known here = omega arith

    pub fresh-split : (old a b : List (Place K V T)) → fresh old (a ++ b) ≡ fresh old a + fresh (old ++ a) b
    unfolding fresh_among
    fresh-split = new-split alike

    pub fresh-aside : (old front stay rest : List (Place K V T)) → Among stay old → fresh old (front ++ (stay ++ rest)) ≡ fresh old (front ++ rest)
    unfolding fresh_among
    fresh-aside = new-aside alike alike-turn alike-chain

    pub fresh-gone : (old stay : List (Place K V T)) → Among stay old → fresh old stay ≡ 0
    unfolding fresh_among
    fresh-gone = new-none alike

    abbrev keys_if : Bool → Place K V T → ℕ
    keys_if known here = if known then keys_at text_eq answer_eq query key_eq here else 0

    -- alike tasks ask as many keys
    keys-class : (x y : Place K V T) → alike x y ≡ true → (b : Bool) → keys_if b x ≡ keys_if b y
    keys-class x y is b = ap (λ (log : List (K × V)). if b then length log else 0) ((is_alike-class x y).0 is).1

    abbrev shared : List (Place K V T) → List (Place K V T) → ℕ
    shared = shared_among text_eq answer_eq query key_eq

    pub shared-none : (known : List (Place K V T)) → shared known [] ≡ 0
    unfolding shared_among
    shared-none known = refl

    pub shared-one : (known : List (Place K V T)) (here : Place K V T) → shared known (here ∷ []) ≡ shared_at text_eq answer_eq query key_eq known here
    unfolding shared_among
    shared-one known here = omega arith

    pub shared-split : (old a b : List (Place K V T)) → shared old (a ++ b) ≡ shared old a + shared (old ++ a) b
    unfolding shared_among
    shared-split = sum-split alike keys_if

    pub shared-known : (a b new : List (Place K V T)) → Among a b → Among b a → shared a new ≡ shared b new
    unfolding shared_among
    shared-known = sum-known alike alike-turn alike-chain keys_if

    pub shared-aside : (old front stay rest : List (Place K V T)) → Among stay old
        → shared old (front ++ (stay ++ rest)) ≡ shared old (front ++ rest) + sum_by (λ p. keys_at text_eq answer_eq query key_eq p) stay
    unfolding shared_among
    shared-aside = sum-aside alike alike-turn alike-chain keys_if

    abbrev counted : Place K V T → Place K V T → ℕ
    counted here task = if text_eq here.0 task.0 then keys_at text_eq answer_eq query key_eq task else 0

    -- no more than all known tasks of its text asked
    pub shared-most : (known : List (Place K V T)) (here : Place K V T) → shared_at text_eq answer_eq query key_eq known here ≤ most_shared_at text_eq answer_eq query key_eq known here
    shared-most known here = by (list_any (alike here) known) refl
      where
        by_class : (task : Place K V T) → alike here task ≡ true → counted here task ≡ counted here here
        by_class task is =
            let own = text_equiv.refl here.0 in
            let other : text_eq here.0 task.0 ≡ true = ((is_alike-class here task).0 is).0 in
            let keys = keys-class here task is true in
            rw own (rw other (sym keys))

        by : (b : Bool) → list_any (alike here) known ≡ b → (if b then keys_at text_eq answer_eq query key_eq here else 0) ≤ sum_by (counted here) (new_ones alike [] known)
        by false none = omega arith
        by true found =
            let most = most-new alike alike-turn alike-chain (counted here) here by_class known found in
            let own = ap (λ b. if b then keys_at text_eq answer_eq query key_eq here else 0) (text_equiv.refl here.0) in
            omega (arith, most, own)

    -- places that are there are among those
    pub Among-there : (these those : List (Place K V T)) → All (Contains those) these → Among these those
    Among-there [] those h = All-nil (λ p. list_any (alike p) those ≡ true)
    Among-there (p ∷ these) those h =
        let found : Contains those p = All-head (Contains those) p these h in
        All-cons (λ p. list_any (alike p) those ≡ true) p these (list_any_at (alike p) those found.0 p found.1 (ap (alike p) found.2 ∙ alike-itself p)) (Among-there these those (All-tail (Contains those) p these h))

    -- with the texts of one project over two banks

    -- distinct texts make distinct places
    IsDistinct-places : (bank : K → V) (texts : List T) → IsDistinct text_eq texts → IsDistinct alike (places_over bank texts)
    unfolding IsDistinct
    IsDistinct-places bank [] h = tt
    IsDistinct-places bank (t ∷ texts) h = (apart texts h.0, IsDistinct-places bank texts h.1)
      where
        apart : (others : List T) → AllByRecursion (λ y. text_eq t y ≡ false) others → AllByRecursion (λ q. alike (t, bank) q ≡ false) (places_over bank others)
        apart [] h = tt
        apart (o ∷ others) h = (ap (λ b. b && answers bank bank o) h.0, apart others h.1)

    -- a task is alike at a place if it has the text there, and the answers to what that text asks are as they were
    any_alike : (old new : K → V) (here : T) (tasks : List T) → list_any (alike (here, new)) (places_over old tasks) ≡ (list_any (text_eq here) tasks && answers old new here)
    any_alike old new here [] = refl
    any_alike old new here (t ∷ ts) = by (text_eq here t) refl (any_alike old new here ts)
      where
        by : (b : Bool) → text_eq here t ≡ b → list_any (alike (here, new)) (places_over old ts) ≡ (list_any (text_eq here) ts && answers old new here)
            → ((b && answers old new t) || list_any (alike (here, new)) (places_over old ts)) ≡ ((b || list_any (text_eq here) ts) && answers old new here)
        by false other rest = rest
        by true is rest =
            let found = ap (λ (q : Query K V X O). list_all (λ k. answer_eq (new k) (old k)) (asked q old)) (sym (same_query here t is)) in
            ap (λ b. b || list_any (alike (here, new)) (places_over old ts)) found
            ∙ ap (λ b. answers old new here || b) rest ∙ absorbed (answers old new here) (list_any (text_eq here) ts)

    -- each of the last texts is one of all
    all_there : (before texts : List T) → AllByRecursion (λ t. list_any (text_eq t) (before ++ texts) ≡ true) texts
    all_there before [] = tt
    all_there before (here ∷ texts) =
        let found : list_any (text_eq here) (before ++ here ∷ texts) ≡ true =
        list_any-append (text_eq here) before (here ∷ texts) ∙ ap (λ b. list_any (text_eq here) before || (b || list_any (text_eq here) texts)) (text_equiv.refl here) ∙ or-true (list_any (text_eq here) before) in
        (found, rw append_assoc at (all_there (before ++ here ∷ []) texts))

    -- where each text is that of a task of the old project, those are fresh whose answers aren't as they were
    each-there : (old new : K → V) (tasks texts : List T) → AllByRecursion (λ t. list_any (text_eq t) tasks ≡ true) texts → each_new alike (places_over old tasks) (places_over new texts) ≡ stale_among text_eq answer_eq query old new texts
    each-there old new tasks [] there = refl
    each-there old new tasks (here ∷ texts) there =
        let test : list_any (alike (here, new)) (places_over old tasks) ≡ alike (here, new) (here, old) =
        any_alike old new here tasks ∙ ap (λ b. b && answers old new here) (there.0 ∙ sym (text_equiv.refl here)) in
        let later = each-there old new tasks texts there.1 in
        λ i. (if test i then 0 else 1) + later i

    -- with the same places, those are fresh whose answers aren't as they were
    pub fresh-same_places : (old new : K → V) (texts : List T) → IsDistinct text_eq texts → fresh (places_over old texts) (places_over new texts) ≡ stale_among text_eq answer_eq query old new texts
    unfolding fresh_among
    fresh-same_places old new texts distinct =
        let each : new_among alike (places_over old texts) (places_over new texts) ≡ each_new alike (places_over old texts) (places_over new texts) =
        rw append-nil at (new-distinct alike alike-turn (places_over old texts) [] (places_over new texts) (IsDistinct-places new texts distinct)) in
        each ∙ each-there old new texts texts (all_there [] texts)

    -- texts that are there make places that are among those
    Among-texts : (bank : K → V) (tasks texts : List T) → All (Contains tasks) texts → Among (places_over bank texts) (places_over bank tasks)
    Among-texts bank tasks [] h = All-nil (λ p. list_any (alike p) (places_over bank tasks) ≡ true)
    Among-texts bank tasks (here ∷ texts) h =
        let found : Contains tasks here = All-head (Contains tasks) here texts h in
        let text : list_any (text_eq here) tasks ≡ true = list_any_at (text_eq here) tasks found.0 here found.1 (ap (text_eq here) found.2 ∙ text_equiv.refl here) in
        let test : list_any (alike (here, bank)) (places_over bank tasks) ≡ true = any_alike bank bank here tasks ∙ ap (λ b. b && answers bank bank here) text ∙ answers-here bank here in
        All-cons (λ p. list_any (alike p) (places_over bank tasks) ≡ true) (here, bank) (places_over bank texts) test (Among-texts bank tasks texts (All-tail (Contains tasks) here texts h))

    -- over one bank, places of the old project are not fresh
    pub fresh-fewer : (bank : K → V) (tasks texts : List T) → All (Contains tasks) texts → fresh (places_over bank tasks) (places_over bank texts) ≡ 0
    fresh-fewer bank tasks texts there = fresh-gone (places_over bank tasks) (places_over bank texts) (Among-texts bank tasks texts there)

    -- over one bank, one more place is fresh, and no other is
    pub fresh-one_more : (bank : K → V) (texts : List T) (here : T) → IsDistinct text_eq (texts ++ here ∷ []) → fresh (places_over bank texts) (places_over bank (texts ++ here ∷ [])) ≡ 1
    fresh-one_more bank texts here distinct =
        let old = places_over bank texts in
        let last : Place K V T = (here, bank) in
        let apart : list_any (alike last) old ≡ false = any_alike bank bank here texts ∙ ap (λ b. b && answers bank bank here) (not_before text_eq text_equiv.symm texts here [] distinct) in
        let test : list_any (alike last) (old ++ old) ≡ false = list_any-append (alike last) old old ∙ ap (λ b. b || list_any (alike last) old) apart ∙ apart in
        let at_last : fresh (old ++ old) (last ∷ []) ≡ 1 = fresh-one (old ++ old) last ∙ ap (λ b. if b then 0 else 1) test in
        let stay : fresh old old ≡ 0 = fresh-gone old old (rw append-nil at (HaveAlike-itself alike alike-itself [] old [])) in
        let split = fresh-split old old (last ∷ []) in
        let sum : fresh old (old ++ last ∷ []) ≡ 1 = omega (arith, split, stay, at_last) in
        let at_place : T → Place K V T = λ text. (text, bank) in
        subst (λ (ps : List (Place K V T)). fresh old ps ≡ 1) (sym (map-append at_place texts (here ∷ []))) sum
