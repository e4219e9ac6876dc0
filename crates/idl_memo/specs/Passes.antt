-- What a pass over places comes to: it obtains the result of each, one after another.
use Rattle.std.specs.Prelude.{◌≡◌, ℕ, ◌+◌, Bool, List, ◌++◌, map}
use Rattle.idl_memo.specs.Fresh.{Place, fresh_among}
use Rattle.idl_memo.specs.Kept.{Kept, result_over}
use Rattle.idl_memo.specs.Query.{Query}

-- a pass over these places: their results stand behind those that were there, and where these were
-- those of known places, so many were counted as are fresh
pub record IsPass {K V X T O : Type 0} (key_eq : K → K → Bool) (text_eq : T → T → Bool)
    (answer_eq : V → V → Bool) (query : T → Query K V X O) (places : List (Place K V T))
    (old new : List (Kept K V T O)) (before after : ℕ) : Type 0 where
  pub results : new ≡ old ++ map (λ p. result_over key_eq query p) places
  pub count : (known : List (Place K V T)) → old ≡ map (λ p. result_over key_eq query p) known
      → after ≡ before + fresh_among text_eq answer_eq query known places
