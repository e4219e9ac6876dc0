-- Results are in the buckets in which they are looked for.
use Rattle.std.proofs.Common.{◌≡◌, ℕ, Bool, true, List, [], ◌∷◌, Option, refl, ap, ◌∙◌}
use Rattle.std.specs.Hash.FoldHasher as folding
use Rattle.std.specs.List.{slice_get}
use Rattle.std.specs.Prelude.{◌+◌, ◌*◌, ◌/◌, ◌^◌, fold}
use Rattle.idl_store.specs.Buckets.{bucket_at, bucket_of, digest}
use Rattle.idl_memo.specs.Kept.{Kept, IsAlike, IsSound, result_over}
use Rattle.idl_memo.specs.Query.{Query, Done, Ask, Tell, asked, first_asked, noted_all}
use Rattle.idl_store.proofs.Ordered.{noted_all-behind}
use Rattle.idl_memo.proofs.Placing.{result_over-alike}

-- texts that are hashed alike, under one hint, are in one bucket
pub bucket-as : {T : Type 0} (input : T → List (List ℕ)) (text other : T) (hint own : ℕ) → input text ≡ input other → hint ≡ own → bucket_at input text hint ≡ bucket_at input other own
unfolding digest
bucket-as input text other hint own is same = λ i. same i / 2 ^ 32 * 2 ^ 32 + folding.finish (fold folding.write folding.initial (is i)) / 2 ^ 32

-- a log begins with what is asked first
first-run : {K V X A : Type 0} (eq : K → K → Bool) (query : Query K V X A) (bank : K → V) → slice_get (noted_all eq bank [] (asked query bank)) 0 ≡ first_asked query bank
first-run eq (Done a) bank = refl
first-run eq (Ask k next) bank = ap (λ l. slice_get l 0) (noted_all-behind eq bank ((k, bank k) ∷ []) (asked (next (bank k)) bank)).1
first-run eq (Tell x query) bank = first-run eq query bank

module _ {K V T O X : Type 0} (eq : K → K → Bool) (itself : (x : K) → eq x x ≡ true) (same : (x y : K) → eq x y ≡ true → x ≡ y) (query : T → Query K V X O) (input : T → List (List ℕ)) (hint : T → Option (K × V) → ℕ) (text : T) (bank : K → V) where
  -- the number of the bucket at a place
  abbrev pub bucket : ℕ
  bucket = bucket_at input text (hint text (first_asked (query text) bank))

  -- the result there is in it
  pub bucket-result : bucket_of input hint (result_over eq query (text, bank)) ≡ bucket
  bucket-result = ap (λ e. bucket_at input text (hint text e)) (first-run eq (query text) bank)

  -- and so is whatever is alike there
  pub bucket-alike : (kept : Kept K V T O) → IsSound eq query kept → IsAlike text bank kept → bucket_of input hint kept ≡ bucket
  bucket-alike kept sound alike =
      ap (bucket_of input hint) (result_over-alike eq query itself same (text, bank) kept sound alike) ∙ bucket-result
