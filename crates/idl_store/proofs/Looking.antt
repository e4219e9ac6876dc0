-- What a look-up finds among ranked results, and what it tells where it finds nothing.
use Rattle.std.proofs.Common.{◌≡◌, ◌∙◌, ℕ, Bool, List, Option, Some, None, Result, Ok, Err, sym}
use Rattle.std.specs.Prelude.{All, Contains, IfErr, IfNone, IfOk, OnErr}
use Rattle.std.specs.declared.cmp.Ordering.{Ordering}
use Rattle.std.specs.declared.cmp.Ordering.TheVariants.{Equal}
use Rattle.std.proofs.lemmas.List.Elements.{All-weaker}
use Rattle.idl_memo.specs.Kept.{Kept, IsAlike, IsSound, NoneAlikeAt, SomeAlikeAt, result_over}
use Rattle.idl_memo.specs.Query.{Query, first_asked}
use Rattle.idl_memo.proofs.Placing.{result_over-alike}
use Rattle.idl_store.specs.Buckets.{bucket_at, bucket_of}
use Rattle.idl_store.specs.Order.{place_cmp, results_cmp}
use Rattle.idl_store.specs.Shelved.{IsSought}
use Rattle.idl_store.proofs.Exactness.{IsExact}
use Rattle.idl_store.proofs.Hinting.{bucket-alike}
use Rattle.idl_store.proofs.Searching.{alike-equal, equal-alike, place-result}

-- clauses of a look-up that may be refused memory, from others
pub found-weaker : {X Y Z : Type 0} {P Q : X → Type 0} (r : Result (Result X Y) Z) → IfOk r (λ found. IfOk found P) → ((x : X) → P x → Q x) → IfOk r (λ found. IfOk found Q)
found-weaker (Ok (Ok x)) h to = to x h
found-weaker (Ok (Err y)) h to = tt
found-weaker (Err z) h to = tt

pub missed-all : {X Y Z N : Type 0} {P Q S : Y → Type 0} (r : Result (Result X Y) Z) → IfOk r (λ found. OnErr found N) → IfOk r (λ found. IfErr found P) → IfOk r (λ found. IfErr found Q) → ((y : Y) → N → P y → Q y → S y) → IfOk r (λ found. IfErr found S)
missed-all (Ok (Ok x)) n p q to = tt
missed-all (Ok (Err y)) n p q to = to y n p q
missed-all (Err z) n p q to = tt

pub none-weaker : {X P Q : Type 0} (o : Option X) → IfNone o P → (P → Q) → IfNone o Q
none-weaker None h to = to h
none-weaker (Some x) h to = tt

module _ {K V T O X : Type 0} {text_cmp : T → T → Ordering} {answer_cmp : V → V → Ordering} {eq : K → K → Bool} (exact : IsExact text_cmp answer_cmp eq) (query : T → Query K V X O) (text : T) (bank : K → V) where
  -- whatever came of the task stands to the place as to the result there
  pub place-sought : IsSought (IsSound eq query) (results_cmp text_cmp answer_cmp) (λ kept. place_cmp text_cmp answer_cmp kept text bank) (result_over eq query (text, bank))
  place-sought = λ other sound. place-result exact query other text bank sound

  module _ (kept : Kept K V T O) (found : place_cmp text_cmp answer_cmp kept text bank ≡ Equal) where
    -- one that nothing tells from the place is alike
    found-alike : IsAlike text bank kept
    found-alike = alike-equal exact kept text bank found

    -- and so the result there
    pub found-here : IsSound eq query kept → kept ≡ result_over eq query (text, bank)
    found-here sound = result_over-alike eq query exact.key_itself exact.key_is (text, bank) kept sound found-alike

    pub found-among : (results : List (Kept K V T O)) → Contains results kept → SomeAlikeAt (text, bank) results
    found-among results among = (among.0, kept, among.1, among.2, found-alike)

  -- where none of the bucket is found, none is alike
  pub none-among : (input : T → List (List ℕ)) (hint : T → Option (K × V) → ℕ) (b : ℕ) → b ≡ bucket_at input text (hint text (first_asked (query text) bank)) → (results : List (Kept K V T O))
      → All (λ kept. IsSound eq query kept × (bucket_of input hint kept ≡ b → ¬ (place_cmp text_cmp answer_cmp kept text bank ≡ Equal))) results → NoneAlikeAt (text, bank) results
  none-among input hint b at results none =
      All-weaker (λ kept. IsSound eq query kept × (bucket_of input hint kept ≡ b → ¬ (place_cmp text_cmp answer_cmp kept text bank ≡ Equal))) (λ kept. ¬ IsAlike text bank kept)
      (λ kept out alike. out.1 (bucket-alike eq exact.key_itself exact.key_is query input hint text bank kept out.0 alike ∙ sym at) (equal-alike exact kept text bank alike)) results none
