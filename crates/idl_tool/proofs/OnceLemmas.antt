-- Rows of one path that are declared at one place, each once.
use Rattle.std.proofs.Common.{◌≡◌, ◌∙◌, ◌+◌, ◌<◌, ◌++◌, ◌∷◌, ◌||◌, [], ℕ, Bool, List, ap, false, get_or, length, map, not, sym, take, true}
use Rattle.std.proofs.lemmas.Bool.{not-false, not-true}
use Rattle.std.proofs.lemmas.List.{map-append, take_more}
use Rattle.std.proofs.lemmas.List.Sums.{fold-append}
use Rattle.std.specs.List.{list_any}
use Rattle.std.specs.Prelude.{if◌then◌else◌, refl}
use Rattle.std.specs.Str.{bytes_eq}
use Rattle.indexmap.specs.IndexSet.{insert_key}
use Rattle.idl_json.specs.Listed.{LocatedRow, row_of}
use Rattle.idl_json.specs.declared.listed.ListedRow.{ListedRow}
use Rattle.idl_tool.specs.Compared.{declared_text, each_once, with_row}

any-text : (text : List ℕ) (rows : List LocatedRow) → list_any (bytes_eq text) (map declared_text rows) ≡ list_any (λ other. bytes_eq text (declared_text other)) rows
any-text text [] = refl
any-text text (row ∷ rows) = ap (λ (b : Bool). bytes_eq text (declared_text row) || b) (any-text text rows)

module _ (rows : List ListedRow) (i : ℕ) (row : ListedRow) (once : List ListedRow) (keys : List (List ℕ)) (key : List ℕ) (b : Bool)
    (within : i < length rows) (is : row ≡ get_or rows i row) (are : keys ≡ map declared_text (map row_of once)) (so : map row_of once ≡ each_once (map row_of (take i rows)))
    (of : key ≡ declared_text (row_of row)) (added : b ≡ not (list_any (bytes_eq key) keys)) where
  any-told : list_any (bytes_eq key) keys ≡ list_any (λ other. bytes_eq (declared_text (row_of row)) (declared_text other)) (map row_of once)
  any-told = (λ j. list_any (bytes_eq (of j)) (are j)) ∙ any-text (declared_text (row_of row)) (map row_of once)

  each-next : each_once (map row_of (take (i + 1) rows)) ≡ with_row (map row_of once) (row_of row)
  each-next =
      ap (λ (rs : List ListedRow). each_once (map row_of rs)) (take_more rows i row within ∙ ap (λ (r : ListedRow). take i rows ++ r ∷ []) (sym is))
      ∙ ap each_once (map-append row_of (take i rows) (row ∷ []))
      ∙ fold-append with_row [] (map row_of (take i rows)) (row_of row ∷ [])
      ∙ ap (λ (rs : List LocatedRow). with_row rs (row_of row)) (sym so)

  -- one of which none was there goes last
  pub once-new : (next : List (List ℕ)) (after : List ListedRow) → b ≡ true → next ≡ insert_key bytes_eq keys key → after ≡ once ++ row ∷ []
      → (next ≡ map declared_text (map row_of after)) × (map row_of after ≡ each_once (map row_of (take (i + 1) rows)))
  once-new next after new inserted pushed =
      let none : list_any (bytes_eq key) keys ≡ false = not-true _ (sym added ∙ new) in
      let more : map row_of after ≡ map row_of once ++ row_of row ∷ [] = ap (map row_of) pushed ∙ map-append row_of once (row ∷ []) in (
        inserted ∙ ap (λ (c : Bool). if c then keys else keys ++ key ∷ []) none ∙ (λ j. are j ++ of j ∷ [])
            ∙ sym (map-append declared_text (map row_of once) (row_of row ∷ [])) ∙ ap (map declared_text) (sym more),
        more ∙ sym (ap (λ (c : Bool). if c then map row_of once else map row_of once ++ row_of row ∷ []) (sym any-told ∙ none)) ∙ sym each-next,
      )

  -- one of which one was there is left out
  pub once-old : (next : List (List ℕ)) → b ≡ false → next ≡ insert_key bytes_eq keys key
      → (next ≡ map declared_text (map row_of once)) × (map row_of once ≡ each_once (map row_of (take (i + 1) rows)))
  once-old next old inserted =
      let some : list_any (bytes_eq key) keys ≡ true = not-false _ (sym added ∙ old) in (
        inserted ∙ ap (λ (c : Bool). if c then keys else keys ++ key ∷ []) some ∙ are,
        sym (ap (λ (c : Bool). if c then map row_of once else map row_of once ++ row_of row ∷ []) (sym any-told ∙ some)) ∙ sym each-next,
      )
