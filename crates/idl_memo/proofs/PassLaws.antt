-- Passes, one after another.
use Rattle.std.proofs.Common.{◌≡◌, ℕ, ◌+◌, ◌⊎◌, ⊎_elim, Bool, List, [], ◌∷◌, ◌++◌, append_assoc, append-nil, map, ap, ◌∙◌, sym, subst, arith}
use Rattle.std.proofs.lemmas.List.{map-append}
use Rattle.idl_memo.specs.Fresh.{Place, fresh_among, fresh_at}
use Rattle.idl_memo.specs.Kept.{Kept, NoneAlikeAt, SomeAlikeAt, result_over}
use Rattle.idl_memo.specs.Passes.{IsPass}
use Rattle.idl_memo.specs.Query.{Query}

module _ {K V X T O : Type 0} (key_eq : K → K → Bool) (text_eq : T → T → Bool) (answer_eq : V → V → Bool) (query : T → Query K V X O) where
  abbrev fresh : List (Place K V T) → List (Place K V T) → ℕ
  fresh = fresh_among text_eq answer_eq query

  abbrev results : List (Place K V T) → List (Kept K V T O)
  results places = map (λ p. result_over key_eq query p) places

  -- over no place nothing is done
  pub IsPass-none : (none : (known : List (Place K V T)) → fresh known [] ≡ 0) (old : List (Kept K V T O)) (count : ℕ) → IsPass key_eq text_eq answer_eq query [] old old count count
  IsPass-none none old count = record {
    results = sym (append-nil old);
    count = λ known is. (let nothing = none known in omega (arith, nothing));
  }

  -- over one place a task is counted where no result is alike
  pub IsPass-one : (one : (known : List (Place K V T)) (here : Place K V T) → fresh known (here ∷ []) ≡ fresh_at text_eq answer_eq query known here)
      (at_none : (known : List (Place K V T)) (here : Place K V T) → NoneAlikeAt here (results known) → fresh_at text_eq answer_eq query known here ≡ 1)
      (at_some : (known : List (Place K V T)) (here : Place K V T) → SomeAlikeAt here (results known) → fresh_at text_eq answer_eq query known here ≡ 0)
      (here : Place K V T) (old new : List (Kept K V T O)) (before after : ℕ) → new ≡ old ++ result_over key_eq query here ∷ []
      → (SomeAlikeAt here old × (after ≡ before)) ⊎ (NoneAlikeAt here old × (after ≡ before + 1)) → IsPass key_eq text_eq answer_eq query (here ∷ []) old new before after
  IsPass-one one at_none at_some here old new before after put met = record {
    results = put;
    count = λ known is. (let at = one known here in ⊎_elim
        (λ some. (let nothing = at_some known here (subst (λ (ks : List (Kept K V T O)). SomeAlikeAt here ks) is some.0) in let stays = some.1 in omega (arith, at, nothing, stays)))
        (λ none. (let fresh_here = at_none known here (subst (λ (ks : List (Kept K V T O)). NoneAlikeAt here ks) is none.0) in let more = none.1 in omega (arith, at, fresh_here, more)))
        met);
  }

  -- two passes are one over the places of both
  pub IsPass-both : (split : (old a b : List (Place K V T)) → fresh old (a ++ b) ≡ fresh old a + fresh (old ++ a) b)
      (first then : List (Place K V T)) (old between new : List (Kept K V T O)) (before at after : ℕ)
      → IsPass key_eq text_eq answer_eq query first old between before at → IsPass key_eq text_eq answer_eq query then between new at after
      → IsPass key_eq text_eq answer_eq query (first ++ then) old new before after
  IsPass-both split first then old between new before at after one two =
      let result : Place K V T → Kept K V T O = λ p. result_over key_eq query p in
      record {
        results =
            two.results ∙ ap (λ (ks : List (Kept K V T O)). ks ++ results then) one.results
            ∙ append_assoc old (results first) (results then) ∙ ap (λ (ks : List (Kept K V T O)). old ++ ks) (sym (map-append result first then));
        count = λ known is. (
            let between_is : between ≡ results (known ++ first) = one.results ∙ ap (λ (ks : List (Kept K V T O)). ks ++ results first) is ∙ sym (map-append result known first) in
            let a = one.count known is in
            let b = two.count (known ++ first) between_is in
            let both = split known first then in
            omega (arith, a, b, both));
      }
