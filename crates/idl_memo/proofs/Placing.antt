-- The results of places, and which of them are alike at a place.
use Rattle.std.proofs.Common.{◌≡◌, Bool, true, false, ◌||◌, List, [], ◌∷◌, map, refl, sym, ap, ◌∙◌, subst, if◌then◌else◌}
use Rattle.std.specs.Cmp.{IsEquivalence}
use Rattle.std.specs.List.{list_any}
use Rattle.std.proofs.lemmas.List.Elements.{All-nil, All-cons, All-contains, All-head, All-tail}
use Rattle.idl_memo.specs.Fresh.{Place, fresh_at, is_alike, log_at}
use Rattle.idl_memo.specs.Kept.{Kept, IsAlike, IsSound, NoneAlikeAt, SomeAlikeAt, result_over}
use Rattle.idl_memo.specs.Query.{Query, asked, run, HoldsIn}
use Rattle.idl_memo.proofs.FreshTasks.{is_alike-class, is_alike-means}
use Rattle.idl_memo.proofs.QueryLaws.{IsLogOf-run, Agree-from_log}
use Rattle.idl_memo.proofs.Telling.{Agree-over, HoldsOver-agree}

module _ {K V X T O : Type 0} (key_eq : K → K → Bool) (query : T → Query K V X O) (key_itself : (x : K) → key_eq x x ≡ true) (key_same : (x y : K) → key_eq x y ≡ true → x ≡ y) where
  -- a sound result that is alike at a place is the one of the place
  pub result_over-alike : (here : Place K V T) (kept : Kept K V T O) → IsSound key_eq query kept → IsAlike here.0 here.1 kept → kept ≡ result_over key_eq query here
  result_over-alike here kept sound alike =
      let agree = Agree-over key_eq key_itself key_same query sound.0 here.1 kept sound.1 alike.answers in
      let over = HoldsOver-agree key_eq key_itself key_same query sound.0 here.1 kept sound.1 agree in
      let r = over ∙ ap (λ t. run key_eq (query t) here.1 []) alike.text_is in
      λ i. record { text = alike.text_is i; log = (r i).1; out = (r i).0 }

  module _ (text_eq : T → T → Bool) (text_equiv : IsEquivalence text_eq) (text_same : (x y : T) → text_eq x y ≡ true → x ≡ y)
      (answer_eq : V → V → Bool) (itself : (x : V) → answer_eq x x ≡ true) (same : (x y : V) → answer_eq x y ≡ true → x ≡ y) where
    abbrev alike : Place K V T → Place K V T → Bool
    alike = is_alike text_eq answer_eq query

    -- equal texts ask the same
    same_query : (x y : T) → text_eq x y ≡ true → query x ≡ query y
    same_query x y is = ap query (text_same x y is)

    -- the result of a place is alike at another exactly where the places are
    IsAlike-from : (here place : Place K V T) → alike here place ≡ true → IsAlike here.0 here.1 (result_over key_eq query place)
    IsAlike-from here place is =
        let class = (is_alike-class text_eq text_equiv answer_eq itself same query same_query key_eq key_itself key_same here place).0 is in
        record { text_is = sym (text_same here.0 place.0 class.0); answers = subst (HoldsIn here.1) class.1 (IsLogOf-run key_eq key_itself key_same (query here.0) here.1).answers }

    alike-from : (here place : Place K V T) → IsAlike here.0 here.1 (result_over key_eq query place) → alike here place ≡ true
    alike-from here place is =
        (is_alike-means text_eq text_equiv answer_eq itself same query same_query here place).1
        (ap (text_eq here.0) is.text_is ∙ text_equiv.refl here.0, Agree-from_log (asked (query place.0) place.1) place.1 here.1 (log_at key_eq query place) (IsLogOf-run key_eq key_itself key_same (query place.0) place.1) is.answers)

    module _ (here : Place K V T) where
      abbrev results : List (Place K V T) → List (Kept K V T O)
      results known = map (λ p. result_over key_eq query p) known

      -- where no place is alike, no result is
      no_result : (known : List (Place K V T)) → list_any (alike here) known ≡ false → NoneAlikeAt here (results known)
      no_result [] h = All-nil (λ (k : Kept K V T O). ¬ IsAlike here.0 here.1 k)
      no_result (p ∷ known) h = by (alike here p) refl h (no_result known)
        where
          by : (b : Bool) → alike here p ≡ b → (b || list_any (alike here) known) ≡ false → (list_any (alike here) known ≡ false → NoneAlikeAt here (results known)) → NoneAlikeAt here (results (p ∷ known))
          by true is none others = cc
          by false is none others =
              All-cons (λ (k : Kept K V T O). ¬ IsAlike here.0 here.1 k) (result_over key_eq query p) (results known)
              (λ one. (let yes = alike-from here p one in cc)) (others none)

      -- where no result is alike, no place is
      no_place : (known : List (Place K V T)) → NoneAlikeAt here (results known) → list_any (alike here) known ≡ false
      no_place [] none = refl
      no_place (p ∷ known) none = by (alike here p) refl (no_place known (All-tail (λ (k : Kept K V T O). ¬ IsAlike here.0 here.1 k) (result_over key_eq query p) (results known) none))
        where
          by : (b : Bool) → alike here p ≡ b → list_any (alike here) known ≡ false → (alike here p || list_any (alike here) known) ≡ false
          by true is others = absurd (All-head (λ (k : Kept K V T O). ¬ IsAlike here.0 here.1 k) (result_over key_eq query p) (results known) none (IsAlike-from here p is))
          by false is others = ap (λ b. b || list_any (alike here) known) is ∙ others

      -- none is alike: the place is fresh
      pub fresh_at-none : (known : List (Place K V T)) → NoneAlikeAt here (results known) → fresh_at text_eq answer_eq query known here ≡ 1
      fresh_at-none known none = ap (λ b. if b then 0 else 1) (no_place known none)

      -- one is: it is not
      pub fresh_at-some : (known : List (Place K V T)) → SomeAlikeAt here (results known) → fresh_at text_eq answer_eq query known here ≡ 0
      fresh_at-some known some = by (list_any (alike here) known) refl
        where
          by : (b : Bool) → list_any (alike here) known ≡ b → fresh_at text_eq answer_eq query known here ≡ 0
          by true is = ap (λ b. if b then 0 else 1) is
          by false is = absurd (All-contains (λ (k : Kept K V T O). ¬ IsAlike here.0 here.1 k) (results known) some.1 (no_result known is) (some.0, some.2, some.3) some.4)
