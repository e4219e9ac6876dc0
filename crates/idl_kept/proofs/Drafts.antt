-- Lists and drafts of all roots that change: each root's results are those of one that was there, or are more.
use Rattle.std.proofs.Common.{◌≡◌, ◌≢◌, ◌∙◌, ◌⊎◌, ◌+◌, ◌-◌, ◌<◌, ◌≤◌, ℕ, zero, suc, Bool, true, false, Result, Ok, Err, OnErr, OnOk, List, [], ◌∷◌, ◌++◌, Some, arith, cond, drop, inl, inr, length, map, min, nat_lt, refl, set, slice_get, subst, sym, take, ap}
use Rattle.std.proofs.lemmas.Bool.{cases_eq, cases_lt, ltb-true}
use Rattle.std.proofs.lemmas.List.{get_or-set_other, get_or-set_same, get_or_append_left, get_or_at, get_or_past, length-append, length-drop, length-map, length-set, length-take, map-append}
use Rattle.std.specs.List.{remove}
use Rattle.idl_kept.proofs.Roots.{units-come}
use Rattle.idl_kept.specs.Drafts.{begun_texts, committed_texts, removed_texts}
use Rattle.idl_kept.specs.Texts.{AreBeside, AreKept, AreWhole, BlockResult, DeclarationResult, RootTexts, Texts, root_texts, with_units, without_drafts}
use Rattle.idl_store.specs.Stored.{Stored, begun, grown, last_draft, last_of, list_at, placed, removed, with_results}

-- ---- one root

-- a root of which nothing is kept
pub nothing-whole : AreWhole (record { units = []; blocks = []; begins = [] })
nothing-whole = record { long = refl; whole = λ place kept there. absurd (none place kept there) }
  where
    none : (place : ℕ) (kept : BlockResult) → slice_get [] place ≡ Some kept → ⊥
    none place kept there = cc

-- the same of three lists that are those
pub same-whole : (root : RootTexts) (units : List DeclarationResult) (blocks : List BlockResult) (begins : List ℕ) → units ≡ root.units → blocks ≡ root.blocks → begins ≡ root.begins
    → AreWhole root → AreWhole (record { units = units; blocks = blocks; begins = begins })
same-whole root units blocks begins same_units same_blocks same_begins are =
    subst AreWhole (λ i. record { units = sym same_units i; blocks = sym same_blocks i; begins = sym same_begins i }) are

-- ---- drafts that are begun

begun-at : {X : Type 0} (drafts : List (ℕ × List X)) (at n : ℕ) → list_at (map (λ d. d.1) (drafts ++ (at, []) ∷ [])) n ≡ list_at (map (λ d. d.1) drafts) n
begun-at [] at zero = refl
begun-at [] at (suc n) = refl
begun-at (d ∷ drafts) at zero = refl
begun-at (d ∷ drafts) at (suc n) = begun-at drafts at n

beside-begun : {X Y : Type 0} (these : Stored X) (those : Stored Y) (at : ℕ) → AreBeside these those → AreBeside (begun these at) (begun those at)
beside-begun these those at beside = record {
  lists = beside.lists;
  drafts =
      map-append (λ d. d.0) these.drafts ((at, []) ∷ [])
      ∙ ap (λ (ns : List ℕ). ns ++ at ∷ []) beside.drafts
      ∙ sym (map-append (λ d. d.0) those.drafts ((at, []) ∷ []));
}

pub begun-kept : (texts : Texts) (at : ℕ) → AreKept texts → AreKept (begun_texts texts at)
begun-kept texts at are = record {
  units = beside-begun texts.declarations texts.blocks at are.units;
  numbers = beside-begun texts.begins texts.blocks at are.numbers;
  roots = λ is_draft list. by is_draft list;
}
  where
    by : (is_draft : Bool) (list : ℕ) → AreWhole (root_texts (begun_texts texts at) is_draft list)
    by false list = are.roots false list
    by true list =
        same-whole (root_texts texts true list) (root_texts (begun_texts texts at) true list).units (root_texts (begun_texts texts at) true list).blocks (root_texts (begun_texts texts at) true list).begins
        (begun-at texts.declarations.drafts at list) (begun-at texts.blocks.drafts at list) (begun-at texts.begins.drafts at list) (are.roots true list)

-- ---- no drafts

pub discarded-kept : (texts : Texts) → AreKept texts → AreKept (without_drafts texts)
discarded-kept texts are = record {
  units = record { lists = are.units.lists; drafts = refl };
  numbers = record { lists = are.numbers.lists; drafts = refl };
  roots = λ is_draft list. by is_draft list;
}
  where
    by : (is_draft : Bool) (list : ℕ) → AreWhole (root_texts (without_drafts texts) is_draft list)
    by false list = are.roots false list
    by true list = nothing-whole

-- ---- the last draft grows

pub beside-count : {X Y : Type 0} (these : Stored X) (those : Stored Y) → AreBeside these those → length these.drafts ≡ length those.drafts
beside-count these those beside =
    sym (length-map these.drafts (λ d. d.0)) ∙ ap (λ (ns : List ℕ). length ns) beside.drafts ∙ length-map those.drafts (λ d. d.0)

module _ {X : Type 0} where
  pub at-last : (drafts : List (ℕ × List X)) (n : ℕ) → n + 1 ≡ length drafts → list_at (map (λ d. d.1) drafts) n ≡ last_of drafts
  at-last [] n is = absurd (omega (arith, is))
  at-last (d ∷ []) zero is = refl
  at-last (d ∷ []) (suc n) is = absurd (omega (arith, is))
  at-last (d ∷ e ∷ drafts) zero is = absurd (omega (arith, is))
  at-last (d ∷ e ∷ drafts) (suc n) is = at-last (e ∷ drafts) n (omega (arith, is))

  pub last-more : (drafts : List (ℕ × List X)) (more : List X) (n : ℕ) → n + 1 ≡ length drafts → list_at (map (λ d. d.1) (with_results drafts more)) n ≡ last_of drafts ++ more
  last-more [] more n is = absurd (omega (arith, is))
  last-more (d ∷ []) more zero is = refl
  last-more (d ∷ []) more (suc n) is = absurd (omega (arith, is))
  last-more (d ∷ e ∷ drafts) more zero is = absurd (omega (arith, is))
  last-more (d ∷ e ∷ drafts) more (suc n) is = last-more (e ∷ drafts) more n (omega (arith, is))

  pub other-same : (drafts : List (ℕ × List X)) (more : List X) (n : ℕ) → n + 1 ≢ length drafts → list_at (map (λ d. d.1) (with_results drafts more)) n ≡ list_at (map (λ d. d.1) drafts) n
  other-same [] more n other = refl
  other-same (d ∷ []) more zero other = absurd (other refl)
  other-same (d ∷ []) more (suc n) other = refl
  other-same (d ∷ e ∷ drafts) more zero other = refl
  other-same (d ∷ e ∷ drafts) more (suc n) other = other-same (e ∷ drafts) more n (λ is. other (omega (arith, is)))

  grown-ats : (drafts : List (ℕ × List X)) (more : List X) → map (λ d. d.0) (with_results drafts more) ≡ map (λ d. d.0) drafts
  grown-ats [] more = refl
  grown-ats (d ∷ []) more = refl
  grown-ats (d ∷ e ∷ drafts) more = ap (λ (ns : List ℕ). d.0 ∷ ns) (grown-ats (e ∷ drafts) more)

pub beside-grown : {X Y : Type 0} (these : Stored X) (those : Stored Y) (more : List X) (others : List Y) → AreBeside these those → AreBeside (grown these more) (grown those others)
beside-grown these those more others beside = record {
  lists = beside.lists;
  drafts = grown-ats these.drafts more ∙ beside.drafts ∙ sym (grown-ats those.drafts others);
}

-- what the last draft has of a root
abbrev pub last_texts : Texts → RootTexts
last_texts texts = record {
  units = last_draft texts.declarations;
  blocks = last_draft texts.blocks;
  begins = last_draft texts.begins;
}

-- texts of which the last draft has more
abbrev pub with_more : Texts → RootTexts → Texts
with_more texts more = record {
  declarations = grown texts.declarations more.units;
  blocks = grown texts.blocks more.blocks;
  begins = grown texts.begins more.begins;
}

-- all roots but the last draft's are as they were
module _ (texts : Texts) (are : AreKept texts) where
  abbrev count : ℕ
  count = length texts.declarations.drafts

  in_blocks : count ≡ length texts.blocks.drafts
  in_blocks = beside-count texts.declarations texts.blocks are.units

  in_begins : count ≡ length texts.begins.drafts
  in_begins = in_blocks ∙ sym (beside-count texts.begins texts.blocks are.numbers)

  -- what the last draft has is whole, if there is one
  pub last-whole : (n : ℕ) → n + 1 ≡ count → AreWhole (last_texts texts)
  last-whole n is =
      same-whole (root_texts texts true n) (last_draft texts.declarations) (last_draft texts.blocks) (last_draft texts.begins)
      (sym (at-last texts.declarations.drafts n is)) (sym (at-last texts.blocks.drafts n (is ∙ in_blocks))) (sym (at-last texts.begins.drafts n (is ∙ in_begins))) (are.roots true n)

  module _ (more : RootTexts) where
    other-whole : (n : ℕ) → n + 1 ≢ count → AreWhole (root_texts (with_more texts more) true n)
    other-whole n other =
        let new = root_texts (with_more texts more) true n in
        same-whole (root_texts texts true n) new.units new.blocks new.begins
        (other-same texts.declarations.drafts more.units n other)
        (other-same texts.blocks.drafts more.blocks n (λ is. other (is ∙ sym in_blocks)))
        (other-same texts.begins.drafts more.begins n (λ is. other (is ∙ sym in_begins))) (are.roots true n)

    last-grown : AreWhole (record { units = last_draft texts.declarations ++ more.units; blocks = last_draft texts.blocks ++ more.blocks; begins = last_draft texts.begins ++ more.begins })
        → (n : ℕ) → n + 1 ≡ count → AreWhole (root_texts (with_more texts more) true n)
    last-grown whole n is =
        let new = root_texts (with_more texts more) true n in
        same-whole (record { units = last_draft texts.declarations ++ more.units; blocks = last_draft texts.blocks ++ more.blocks; begins = last_draft texts.begins ++ more.begins })
        new.units new.blocks new.begins
        (last-more texts.declarations.drafts more.units n is)
        (last-more texts.blocks.drafts more.blocks n (is ∙ in_blocks))
        (last-more texts.begins.drafts more.begins n (is ∙ in_begins)) whole

    -- so all is whole where that of the last draft is
    pub more-kept : (AreWhole (last_texts texts) → AreWhole (record { units = last_draft texts.declarations ++ more.units; blocks = last_draft texts.blocks ++ more.blocks; begins = last_draft texts.begins ++ more.begins }))
        → AreKept (with_more texts more)
    more-kept grows = record {
      units = beside-grown texts.declarations texts.blocks more.units more.blocks are.units;
      numbers = beside-grown texts.begins texts.blocks more.begins more.blocks are.numbers;
      roots = λ is_draft list. by is_draft list;
    }
      where
        either : (n : ℕ) → (n + 1 ≡ count) ⊎ (n + 1 ≢ count) → AreWhole (root_texts (with_more texts more) true n)
        either n (inl is) = last-grown (grows (last-whole n is)) n is
        either n (inr other) = other-whole n other

        by : (is_draft : Bool) (list : ℕ) → AreWhole (root_texts (with_more texts more) is_draft list)
        by false list = are.roots false list
        by true list = either list (cases_eq (list + 1) count)

-- ---- lists that are removed

-- where a list stood that stands at a place now
abbrev behind_removed : ℕ → ℕ → ℕ
behind_removed zero n = suc n
behind_removed (suc k) zero = zero
behind_removed (suc k) (suc n) = suc (behind_removed k n)

removed-at : {X : Type 0} (lists : List (List X)) (k n : ℕ) → list_at (remove lists k) n ≡ list_at lists (behind_removed k n)
removed-at [] zero n = refl
removed-at [] (suc k) n = refl
removed-at (list ∷ lists) zero n = refl
removed-at (list ∷ lists) (suc k) zero = refl
removed-at (list ∷ lists) (suc k) (suc n) = removed-at lists k n

removed-count : {X : Type 0} (lists : List (List X)) (k : ℕ) → length (remove lists k) ≡ min k (length lists) + (length lists - suc k)
removed-count lists k =
    length-append (take k lists) (drop (suc k) lists) ∙ (λ i. length-take k lists i + length-drop (suc k) lists i)

beside-removed : {X Y : Type 0} (these : Stored X) (those : Stored Y) (k : ℕ) → AreBeside these those → AreBeside (removed these k) (removed those k)
beside-removed these those k beside = record {
  lists = removed-count these.lists k ∙ ap (λ (n : ℕ). min k n + (n - suc k)) beside.lists ∙ sym (removed-count those.lists k);
  drafts = beside.drafts;
}

pub removed-kept : (texts : Texts) (k : ℕ) → AreKept texts → AreKept (removed_texts texts k)
removed-kept texts k are = record {
  units = beside-removed texts.declarations texts.blocks k are.units;
  numbers = beside-removed texts.begins texts.blocks k are.numbers;
  roots = λ is_draft list. by is_draft list;
}
  where
    by : (is_draft : Bool) (list : ℕ) → AreWhole (root_texts (removed_texts texts k) is_draft list)
    by true list = are.roots true list
    by false list =
        let new = root_texts (removed_texts texts k) false list in
        same-whole (root_texts texts false (behind_removed k list)) new.units new.blocks new.begins
        (removed-at texts.declarations.lists k list) (removed-at texts.blocks.lists k list) (removed-at texts.begins.lists k list) (are.roots false (behind_removed k list))

-- ---- drafts that take the places of their lists

-- the place that a draft takes among so many lists
abbrev place_for : ℕ → ℕ → ℕ
place_for count at = cond (nat_lt at count) at count

-- so many lists there are then
abbrev count_with : ℕ → ℕ → ℕ
count_with count at = cond (nat_lt at count) count (count + 1)

module _ {X : Type 0} (lists : List (List X)) (draft : ℕ × List X) where
  placed-there : (b : Bool) → nat_lt draft.0 (length lists) ≡ b → list_at (cond b (set lists draft.0 draft.1) (lists ++ draft.1 ∷ [])) (cond b draft.0 (length lists)) ≡ draft.1
  placed-there true is = get_or-set_same lists draft.0 draft.1 [] (ltb-true draft.0 (length lists) is)
  placed-there false is = get_or_at lists draft.1 [] [] (length lists) refl

  placed-other : (b : Bool) → nat_lt draft.0 (length lists) ≡ b → (n : ℕ) → n ≢ cond b draft.0 (length lists)
      → list_at (cond b (set lists draft.0 draft.1) (lists ++ draft.1 ∷ [])) n ≡ list_at lists n
  placed-other true is n other = get_or-set_other lists draft.0 n draft.1 [] other
  placed-other false is n other = by n other (cases_lt n (length lists))
    where
      by : (n : ℕ) → n ≢ length lists → (n < length lists) ⊎ (length lists ≤ n) → list_at (lists ++ draft.1 ∷ []) n ≡ list_at lists n
      by n other (inl below) = get_or_append_left lists (draft.1 ∷ []) [] n below
      by n other (inr beyond) =
          let long = length-append lists (draft.1 ∷ []) in
          get_or_past (lists ++ draft.1 ∷ []) n [] (omega (arith, long, beyond, other)) ∙ sym (get_or_past lists n [] beyond)

  placed-count : (b : Bool) → length (cond b (set lists draft.0 draft.1) (lists ++ draft.1 ∷ [])) ≡ cond b (length lists) (length lists + 1)
  placed-count true = length-set lists draft.0 draft.1
  placed-count false = length-append lists (draft.1 ∷ [])

-- the first draft of each takes the place of its list
module _ (d : ℕ × List DeclarationResult) (b : ℕ × List BlockResult) (n : ℕ × List ℕ) (ds : List (ℕ × List DeclarationResult)) (bs : List (ℕ × List BlockResult)) (ns : List (ℕ × List ℕ))
    (dl : List (List DeclarationResult)) (bl : List (List BlockResult)) (nl : List (List ℕ)) where
  abbrev before_first : Texts
  before_first = record {
    declarations = record { lists = dl; drafts = d ∷ ds };
    blocks = record { lists = bl; drafts = b ∷ bs };
    begins = record { lists = nl; drafts = n ∷ ns };
  }

  abbrev behind_first : Texts
  behind_first = record {
    declarations = record { lists = placed dl d; drafts = ds };
    blocks = record { lists = placed bl b; drafts = bs };
    begins = record { lists = placed nl n; drafts = ns };
  }

  -- the place is one for all three
  abbrev place : ℕ
  place = place_for (length bl) b.0

  first-kept : AreKept before_first → AreKept behind_first
  first-kept are = record {
    units = record { lists = placed-count dl d (nat_lt d.0 (length dl)) ∙ (λ i. count_with (are.units.lists i) (at_units i)) ∙ sym (placed-count bl b (nat_lt b.0 (length bl))); drafts = rest_units };
    numbers = record { lists = placed-count nl n (nat_lt n.0 (length nl)) ∙ (λ i. count_with (are.numbers.lists i) (at_numbers i)) ∙ sym (placed-count bl b (nat_lt b.0 (length bl))); drafts = rest_numbers };
    roots = λ is_draft list. by is_draft list;
  }
    where
      at_units : d.0 ≡ b.0
      at_units = let h = are.units.drafts in cc

      rest_units : map (λ d. d.0) ds ≡ map (λ d. d.0) bs
      rest_units = let h = are.units.drafts in cc

      at_numbers : n.0 ≡ b.0
      at_numbers = let h = are.numbers.drafts in cc

      rest_numbers : map (λ d. d.0) ns ≡ map (λ d. d.0) bs
      rest_numbers = let h = are.numbers.drafts in cc

      for_units : place_for (length dl) d.0 ≡ place
      for_units = λ i. place_for (are.units.lists i) (at_units i)

      for_numbers : place_for (length nl) n.0 ≡ place
      for_numbers = λ i. place_for (are.numbers.lists i) (at_numbers i)

      there : AreWhole (root_texts behind_first false place)
      there =
          let new = root_texts behind_first false place in
          same-whole (root_texts before_first true 0) new.units new.blocks new.begins
          (ap (list_at (placed dl d)) (sym for_units) ∙ placed-there dl d (nat_lt d.0 (length dl)) refl)
          (placed-there bl b (nat_lt b.0 (length bl)) refl)
          (ap (list_at (placed nl n)) (sym for_numbers) ∙ placed-there nl n (nat_lt n.0 (length nl)) refl)
          (are.roots true 0)

      elsewhere : (k : ℕ) → k ≢ place → AreWhole (root_texts behind_first false k)
      elsewhere k other =
          let new = root_texts behind_first false k in
          same-whole (root_texts before_first false k) new.units new.blocks new.begins
          (placed-other dl d (nat_lt d.0 (length dl)) refl k (λ is. other (is ∙ for_units)))
          (placed-other bl b (nat_lt b.0 (length bl)) refl k other)
          (placed-other nl n (nat_lt n.0 (length nl)) refl k (λ is. other (is ∙ for_numbers)))
          (are.roots false k)

      either : (k : ℕ) → (k ≡ place) ⊎ (k ≢ place) → AreWhole (root_texts behind_first false k)
      either k (inl is) = subst (λ (m : ℕ). AreWhole (root_texts behind_first false m)) (sym is) there
      either k (inr other) = elsewhere k other

      by : (is_draft : Bool) (list : ℕ) → AreWhole (root_texts behind_first is_draft list)
      by true list = are.roots true (suc list)
      by false list = either list (cases_eq list place)

-- one after another
all-kept : (ds : List (ℕ × List DeclarationResult)) (bs : List (ℕ × List BlockResult)) (ns : List (ℕ × List ℕ)) (dl : List (List DeclarationResult)) (bl : List (List BlockResult)) (nl : List (List ℕ))
    → AreKept (record { declarations = record { lists = dl; drafts = ds }; blocks = record { lists = bl; drafts = bs }; begins = record { lists = nl; drafts = ns } })
    → AreKept (committed_texts (record { declarations = record { lists = dl; drafts = ds }; blocks = record { lists = bl; drafts = bs }; begins = record { lists = nl; drafts = ns } }))
all-kept [] [] [] dl bl nl are = are
all-kept [] [] (n ∷ ns) dl bl nl are = absurd (let h = are.numbers.drafts in cc)
all-kept [] (b ∷ bs) ns dl bl nl are = absurd (let h = are.units.drafts in cc)
all-kept (d ∷ ds) [] ns dl bl nl are = absurd (let h = are.units.drafts in cc)
all-kept (d ∷ ds) (b ∷ bs) [] dl bl nl are = absurd (let h = are.numbers.drafts in cc)
all-kept (d ∷ ds) (b ∷ bs) (n ∷ ns) dl bl nl are = all-kept ds bs ns (placed dl d) (placed bl b) (placed nl n) (first-kept d b n ds bs ns dl bl nl are)

pub committed-kept : (texts : Texts) → AreKept texts → AreKept (committed_texts texts)
committed-kept texts are =
    all-kept texts.declarations.drafts texts.blocks.drafts texts.begins.drafts texts.declarations.lists texts.blocks.lists texts.begins.lists are

-- ---- units come

pub units-kept : (texts : Texts) (more : List DeclarationResult) → AreKept texts → AreKept (with_units texts more)
units-kept texts more are = record {
  units = record { lists = are.units.lists; drafts = grown-ats texts.declarations.drafts more ∙ are.units.drafts };
  numbers = are.numbers;
  roots = λ is_draft list. by is_draft list;
}
  where
    either : (n : ℕ) → (n + 1 ≡ length texts.declarations.drafts) ⊎ (n + 1 ≢ length texts.declarations.drafts) → AreWhole (root_texts (with_units texts more) true n)
    either n (inl is) =
        let old = root_texts texts true n in
        same-whole (record old { units = old.units ++ more }) (root_texts (with_units texts more) true n).units old.blocks old.begins
        (last-more texts.declarations.drafts more n is ∙ ap (λ (us : List DeclarationResult). us ++ more) (sym (at-last texts.declarations.drafts n is)))
        refl refl (units-come old more (are.roots true n))
    either n (inr other) =
        let old = root_texts texts true n in
        same-whole old (root_texts (with_units texts more) true n).units old.blocks old.begins (other-same texts.declarations.drafts more n other) refl refl (are.roots true n)

    by : (is_draft : Bool) (list : ℕ) → AreWhole (root_texts (with_units texts more) is_draft list)
    by false list = are.roots false list
    by true list = either list (cases_eq (list + 1) (length texts.declarations.drafts))

-- where what comes may have been refused
pub obtained-kept : {R E : Type 0} (r : Result R E) (texts : Texts) (new : Stored DeclarationResult) (more : List DeclarationResult) → OnOk r (new ≡ grown texts.declarations more) → OnErr r (new ≡ texts.declarations)
    → AreKept texts → AreKept (record texts { declarations = new })
obtained-kept (Ok x) texts new more ok err are = subst (λ (d : Stored DeclarationResult). AreKept (record texts { declarations = d })) (sym ok) (units-kept texts more are)
obtained-kept (Err e) texts new more ok err are = subst (λ (d : Stored DeclarationResult). AreKept (record texts { declarations = d })) (sym err) are

-- three stores that are those of texts
pub same-kept : (texts : Texts) (declarations : Stored DeclarationResult) (blocks : Stored BlockResult) (begins : Stored ℕ) → declarations ≡ texts.declarations → blocks ≡ texts.blocks → begins ≡ texts.begins
    → AreKept texts → AreKept (record { declarations = declarations; blocks = blocks; begins = begins })
same-kept texts declarations blocks begins same_declarations same_blocks same_begins are =
    subst AreKept (λ i. record { declarations = sym same_declarations i; blocks = sym same_blocks i; begins = sym same_begins i }) are
