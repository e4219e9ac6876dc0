-- A block in a block, over two banks that answer the one around it alike.
use Rattle.std.proofs.Common.{◌≡◌, Bool, true, false, cond, List, [], ◌∷◌, ◌++◌, append-nil, refl, sym, ap, ◌∙◌, subst}
use Rattle.std.specs.Prelude.{All, Contains, IsFalse, flat_map, map}
use Rattle.std.proofs.lemmas.List.Elements.{All-nil, All-cons, All-head, All-tail, All-append, All-contains, All-map, All-weaker, Contains-push}
use Rattle.idl_memo.specs.Query.{Agree, asked}
use Rattle.idl_memo.proofs.QueryLaws.{asked-agree, outcome-agree}
use Rattle.idl_block.specs.Behind.{laid}
use Rattle.idl_block.specs.Blocks.{Part, Text, Boundary, Ways, block}
use Rattle.idl_block.specs.Questions.{AreKnown, AreNested, AreSeen, IsKnown, IsNested, Question, asked_by, befores, looked_at, outer_of, questions, written_after}
use Rattle.idl_block.proofs.BlockLaws.{asked-block}
use Rattle.idl_block.proofs.NestingLaws.{same-after, same-asked}
use Rattle.idl_block.proofs.OuterLaws.{All-left, All-right, all_asked}
use Rattle.idl_block.proofs.ResultLaws.{All-unmap, Same, all-same}

module _ {K V X T D W O : Type 0} (ways : Ways K V X T D W O) where
  -- ---- questions that are answered alike

  module _ (bank other : K → V) where
    abbrev IsSame : K → Type 0
    IsSame k = other k ≡ bank k

    one-same : (k : K) → IsSame k → All IsSame (k ∷ [])
    one-same k same = All-cons IsSame k [] same (All-nil IsSame)

    -- over both a key is an outer one, or it was seen over one of them
    one-agrees : (seen others : List K) (q : Question K W) → IsKnown ways seen q bank → IsKnown ways others q other → Same ways bank other q
        → All IsSame seen → All IsSame others → All IsSame (outer_of ways q bank) × All IsSame (outer_of ways q other)
    one-agrees seen others q known there same all all_there =
        by (ways.is_written q.written bank q.key) known.within known.whole known.own (ways.is_written q.written other q.key) there.within there.whole there.own
      where
        k : K
        k = q.key

        looked : (K → V) → List K
        looked bank = looked_at ways q bank

        of : Bool → List K
        of b = cond b [] (k ∷ [])

        by : (b : Bool) → All (Contains (seen ++ of b)) (looked bank) → All (Contains (looked bank)) (of b) → (IsFalse b → laid ways.answered q.written bank k ≡ bank k)
            → (t : Bool) → All (Contains (others ++ of t)) (looked other) → All (Contains (looked other)) (of t) → (IsFalse t → laid ways.answered q.written other k ≡ other k)
            → All IsSame (of b) × All IsSame (of t)
        by true within whole own true within_there whole_there own_there = (All-nil IsSame, All-nil IsSame)
        by false within whole own false within_there whole_there own_there =
            let agrees : IsSame k = sym (own_there refl) ∙ same ∙ own refl in
            (one-same k agrees, one-same k agrees)
        by true within whole own false within_there whole_there own_there =
            let agree : All IsSame (looked bank) =
            All-weaker (Contains (seen ++ [])) IsSame (λ x h. All-contains IsSame seen x all (subst (λ ks. Contains ks x) (append-nil seen) h)) (looked bank) within in
            let keys : looked other ≡ looked bank = asked-agree (ways.answered q.written k) bank other agree in
            let asks : Contains (looked other) k = All-contains (Contains (looked other)) (k ∷ []) k whole_there (Contains-push [] k) in
            (All-nil IsSame, one-same k (All-contains IsSame (looked bank) k agree (subst (λ ks. Contains ks k) keys asks)))
        by false within whole own true within_there whole_there own_there =
            let agree : All (λ x. bank x ≡ other x) (looked other) =
            All-weaker (Contains (others ++ [])) (λ x. bank x ≡ other x) (λ x h. sym (All-contains IsSame others x all_there (subst (λ ks. Contains ks x) (append-nil others) h))) (looked other) within_there in
            let keys : looked bank ≡ looked other = asked-agree (ways.answered q.written k) other bank agree in
            let asks : Contains (looked bank) k = All-contains (Contains (looked bank)) (k ∷ []) k whole (Contains-push [] k) in
            (one-same k (sym (All-contains (λ x. bank x ≡ other x) (looked other) k agree (subst (λ ks. Contains ks k) keys asks))), All-nil IsSame)

    outer-same : (qs : List (Question K W)) (seen others : List K) → AreSeen ways seen qs bank → AreSeen ways others qs other → All (Same ways bank other) qs
        → All IsSame seen → All IsSame others → All IsSame (flat_map (λ q. outer_of ways q bank) qs)
    outer-same [] seen others known there same all all_there = All-nil IsSame
    outer-same (q ∷ qs) seen others known there same all all_there =
        let both = one-agrees seen others q known.0 there.0 (All-head (Same ways bank other) q qs same) all all_there in
        let own : List K = outer_of ways q bank in
        let own_there : List K = outer_of ways q other in
        All-append IsSame own (flat_map (λ q. outer_of ways q bank) qs) both.0
        (outer-same qs (seen ++ own) (others ++ own_there) known.1 there.1 (All-tail (Same ways bank other) q qs same)
        (All-append IsSame seen own all both.0) (All-append IsSame others own_there all_there both.1))

  -- ---- what a block in a block asks over both

  module _ (outer : List W) (bank other : K → V) where
    abbrev here : K → V
    here = laid ways.answered outer bank

    abbrev there : K → V
    there = laid ways.answered outer other

    abbrev Asked : Part T D → List W → Type 0
    Asked part written = Agree (asked_by ways part written here) (laid ways.answered written here) (laid ways.answered written there)

    part-asked : (part : Part T D) (written : List W) → Asked part written → asked_by ways part written there ≡ asked_by ways part written here
    part-asked (Boundary d) written agree = refl
    part-asked (Text t) written agree = asked-agree (ways.unit t) (laid ways.answered written here) (laid ways.answered written there) agree

    part-after : (part : Part T D) (written : List W) → Asked part written → written_after ways part written there ≡ written_after ways part written here
    part-after (Boundary d) written agree = refl
    part-after (Text t) written agree =
        ap (λ o. written ++ ways.writes o ∷ []) (outcome-agree (ways.unit t) (laid ways.answered written here) (laid ways.answered written there) agree)

    same-questions : (parts : List (Part T D)) (written : List W) → AreNested ways outer bank parts written → AreNested ways outer other parts written
        → All (Same ways bank other) (questions ways parts (outer ++ written) bank)
        → All (Same ways here there) (questions ways parts written here) × (questions ways parts written there ≡ questions ways parts written here)
    same-questions [] written nested nested_there all = (All-nil (Same ways here there), refl)
    same-questions (part ∷ parts) written nested nested_there all =
        let ask : List W → K → Question K W = λ ws k. record { written = ws; key = k } in
        let keys : List K = asked_by ways part written here in
        let next : List W = written_after ways part written here in
        let one : IsNested ways outer bank written = All-head (IsNested ways outer bank) written (befores ways parts next here) nested in
        let one_there : IsNested ways outer other written = All-head (IsNested ways outer other) written (befores ways parts (written_after ways part written there) there) nested_there in
        let both : All (Same ways bank other) (map (ask (outer ++ written)) keys ++ questions ways parts (outer ++ next) bank) =
        subst (λ ks. All (Same ways bank other) (map (ask (outer ++ written)) ks ++ questions ways parts (outer ++ next) bank)) (same-asked ways outer bank part written one)
        (subst (λ ws. All (Same ways bank other) (map (ask (outer ++ written)) (asked_by ways part (outer ++ written) bank) ++ questions ways parts ws bank)) (same-after ways outer bank part written one) all) in
        let first : All (λ k. Same ways bank other (ask (outer ++ written) k)) keys =
        All-unmap (Same ways bank other) (ask (outer ++ written)) keys (All-left (Same ways bank other) (map (ask (outer ++ written)) keys) (questions ways parts (outer ++ next) bank) both) in
        let agree : Asked part written =
        All-weaker (λ k. Same ways bank other (ask (outer ++ written) k)) (λ k. laid ways.answered written there k ≡ laid ways.answered written here k)
        (λ k same. sym (one_there.laid_over k) ∙ same ∙ one.laid_over k) keys first in
        let rest = same-questions parts next (All-tail (IsNested ways outer bank) written (befores ways parts next here) nested)
        (subst (λ ws. AreNested ways outer other parts ws) (part-after part written agree)
        (All-tail (IsNested ways outer other) written (befores ways parts (written_after ways part written there) there) nested_there))
        (All-right (Same ways bank other) (map (ask (outer ++ written)) keys) (questions ways parts (outer ++ next) bank) both) in (
          All-append (Same ways here there) (map (ask written) keys) (questions ways parts next here) (All-map (Same ways here there) (ask written) keys agree) rest.0,
          (λ i. map (ask written) (part-asked part written agree i) ++ questions ways parts (part-after part written agree i) there)
              ∙ ap (λ qs. map (ask written) keys ++ qs) rest.1,
        )

    -- where both answer the block around it alike, they do so with the block
    pub agreed-inside : (parts : List (Part T D)) (written : List W) → AreNested ways outer bank parts written → AreNested ways outer other parts written
        → AreKnown ways parts written here → AreKnown ways parts written there
        → Agree (asked (block ways parts (outer ++ written)) bank) bank other → Agree (asked (block ways parts written) here) here there
    agreed-inside parts written nested nested_there known known_there agree =
        let P : K → Type 0 = λ k. other k ≡ bank k in
        let looked : All P (flat_map (λ q. looked_at ways q bank) (questions ways parts (outer ++ written) bank)) = subst (All P) (asked-block ways parts (outer ++ written) bank) agree in
        let both = same-questions parts written nested nested_there (all-same ways bank other (questions ways parts (outer ++ written) bank) looked) in
        let seen : AreSeen ways [] (questions ways parts written here) there = subst (λ qs. AreSeen ways [] qs there) both.1 known_there in
        let Q : K → Type 0 = λ k. there k ≡ here k in
        all_asked ways here parts written known Q
        (outer-same here there (questions ways parts written here) [] [] known seen both.0 (All-nil Q) (All-nil Q))
