-- The order of kept results: by their texts, and then by their answers.
use Rattle.std.specs.Prelude.{List, [], ◌∷◌, map}
use Rattle.std.specs.Cmp.{IsTotalOrder}
use Rattle.std.specs.Cmp.Lexicographic.{lists_total, slice_cmp}
use Rattle.std.specs.Ordering.{ordering_then}
use Rattle.std.specs.declared.cmp.Ordering.{Ordering}
use Rattle.std.specs.declared.cmp.Ordering.TheVariants.{Equal}
use Rattle.std.proofs.lemmas.Cmp.{on_total, then_total}
use Rattle.idl_memo.specs.Kept.{Kept}

module _ {K V : Type 0} (answer_cmp : V → V → Ordering) where
  -- how a log stands to another: by the first of their answers that differ, and a log that goes on
  -- behind one that ends comes later
  abbrev pub logs_cmp : List (K × V) → List (K × V) → Ordering
  logs_cmp log other = slice_cmp answer_cmp (map (λ e. e.1) log) (map (λ e. e.1) other)

  -- how a log stands to a bank: by the first of its answers that isn't the bank's
  abbrev pub bank_cmp : List (K × V) → (K → V) → Ordering
  bank_cmp [] bank = Equal
  bank_cmp (e ∷ log) bank = ordering_then (answer_cmp e.1 (bank e.0)) (bank_cmp log bank)

module _ {K V T O : Type 0} (text_cmp : T → T → Ordering) (answer_cmp : V → V → Ordering) where
  -- how a kept result stands to another
  abbrev pub results_cmp : Kept K V T O → Kept K V T O → Ordering
  results_cmp kept other =
      ordering_then (text_cmp kept.text other.text) (logs_cmp answer_cmp kept.log other.log)

  -- how a kept result stands to a place: by the texts, and then by the first of its answers that
  -- isn't the bank's
  abbrev pub place_cmp : Kept K V T O → T → (K → V) → Ordering
  place_cmp kept text bank =
      ordering_then (text_cmp kept.text text) (bank_cmp answer_cmp kept.log bank)

-- the order of kept results is one, where those of texts and answers are
pub results_total : {K V T O : Type 0} {text_cmp : T → T → Ordering} {answer_cmp : V → V → Ordering}
    → IsTotalOrder text_cmp → IsTotalOrder answer_cmp
    → IsTotalOrder (results_cmp {K = K} {V = V} {T = T} {O = O} text_cmp answer_cmp)
results_total {K} {V} {T} {O} texts answers =
    then_total (on_total (λ (k : Kept K V T O). k.text) texts)
    (on_total (λ (k : Kept K V T O). map (λ e. e.1) k.log) (lists_total answers))
