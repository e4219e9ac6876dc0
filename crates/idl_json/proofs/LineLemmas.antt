-- The text of a root's line, part by part.
use Rattle.std.proofs.Common.{◌≡◌, ◌∙◌, ◌+◌, ◌<◌, ◌++◌, ◌∷◌, [], ℕ, suc, Bool, true, false, List, ap, append_assoc, arith, get_or, length, map, nat_lt, refl, sym, take}
use Rattle.std.proofs.lemmas.List.{append-nil, map-append, take_more}
use Rattle.std.specs.List.{AllZip}
use Rattle.serde_json.specs.Data.{Data}
use Rattle.serde_json.specs.View.{items_of}
use Rattle.serde_json.specs.Written.{comma_if, compact_text, items_text}
use Rattle.idl_json.specs.Listed.{row_json, row_of}
use Rattle.idl_json.specs.declared.listed.ListedRow.{ListedRow}

-- ---- the texts of items

-- those of items behind an opening bracket, without the closing one
abbrev pub opened : Bool → List Data → List ℕ
opened later [] = []
opened later (d ∷ ds) = comma_if later ++ (compact_text d ++ opened true ds)

closed-by : (later : Bool) (ds : List Data) → items_text later (items_of ds) ≡ opened later ds ++ 93 ∷ []
closed-by later [] = refl
closed-by later (d ∷ ds) =
    ap (λ (t : List ℕ). comma_if later ++ (compact_text d ++ t)) (closed-by true ds)
    ∙ ap (λ (t : List ℕ). comma_if later ++ t) (sym (append_assoc (compact_text d) (opened true ds) (93 ∷ [])))
    ∙ sym (append_assoc (comma_if later) (compact_text d ++ opened true ds) (93 ∷ []))

opened-push : (ds : List Data) (d : Data) → opened true (ds ++ d ∷ []) ≡ opened true ds ++ (44 ∷ [] ++ compact_text d)
opened-push [] d = ap (λ (t : List ℕ). 44 ∷ t) (append-nil (compact_text d))
opened-push (e ∷ ds) d =
    ap (λ (t : List ℕ). 44 ∷ (compact_text e ++ t)) (opened-push ds d)
    ∙ ap (λ (t : List ℕ). 44 ∷ t) (sym (append_assoc (compact_text e) (opened true ds) (44 ∷ compact_text d)))

opened-next : (ds : List Data) (d : Data) → opened false (ds ++ d ∷ []) ≡ opened false ds ++ (comma_if (nat_lt 0 (length ds)) ++ compact_text d)
opened-next [] d = append-nil (compact_text d)
opened-next (e ∷ ds) d = by (length (e ∷ ds)) (nat_lt 0 (length (e ∷ ds))) (grind arith)
  where
    by : (n : ℕ) (some : Bool) → some ≡ true → opened false (e ∷ ds ++ d ∷ []) ≡ opened false (e ∷ ds) ++ (comma_if some ++ compact_text d)
    by n some is =
        ap (λ (t : List ℕ). compact_text e ++ t) (opened-push ds d) ∙ sym (append_assoc (compact_text e) (opened true ds) (44 ∷ compact_text d))
        ∙ ap (λ b. opened false (e ∷ ds) ++ (comma_if b ++ compact_text d)) (sym is)

-- one item more behind a text
pub text-next : (before out mid next : List ℕ) (i : ℕ) (ds : List Data) (d : Data) → i ≡ length ds → out ≡ before ++ opened false ds → mid ≡ out ++ comma_if (nat_lt 0 i) → next ≡ mid ++ compact_text d
    → next ≡ before ++ opened false (ds ++ d ∷ [])
text-next before out mid next i ds d count is comma more =
    more ∙ ap (λ (t : List ℕ). t ++ compact_text d) (comma ∙ ap (λ (t : List ℕ). t ++ comma_if (nat_lt 0 i)) is)
    ∙ append_assoc (before ++ opened false ds) (comma_if (nat_lt 0 i)) (compact_text d)
    ∙ append_assoc before (opened false ds) (comma_if (nat_lt 0 i) ++ compact_text d)
    ∙ ap (λ n. before ++ (opened false ds ++ (comma_if (nat_lt 0 n) ++ compact_text d))) count
    ∙ ap (λ (t : List ℕ). before ++ t) (sym (opened-next ds d))

-- and the closing bracket
pub text-closed : (before out next : List ℕ) (ds : List Data) → out ≡ before ++ opened false ds → next ≡ out ++ 93 ∷ [] → next ≡ before ++ items_text false (items_of ds)
text-closed before out next ds is more =
    more ∙ ap (λ (t : List ℕ). t ++ 93 ∷ []) is ∙ append_assoc before (opened false ds) (93 ∷ []) ∙ ap (λ (t : List ℕ). before ++ t) (sym (closed-by false ds))

pub zip-length : {Y Z : Type 0} (R : Y → Z → Type 0) (ys : List Y) (zs : List Z) → AllZip R ys zs → length ys ≡ length zs
zip-length R [] [] are = refl
zip-length R [] (z ∷ zs) are = absurd are
zip-length R (y ∷ ys) [] are = absurd are
zip-length R (y ∷ ys) (z ∷ zs) are = ap suc (zip-length R ys zs are.1)

-- ---- texts that are written one behind the other

pub behind : (before text after piece : List ℕ) → text ≡ before → after ≡ text ++ piece → after ≡ before ++ piece
behind before text after piece is more = more ∙ ap (λ (t : List ℕ). t ++ piece) is

pub in-a-row : (a b d e f g h i j k l m n : List ℕ)
    → (((((((((((a ++ b) ++ d) ++ e) ++ f) ++ g) ++ h) ++ i) ++ j) ++ k) ++ l) ++ m) ++ n ≡ a ++ (b ++ (d ++ (e ++ (f ++ (g ++ (h ++ (i ++ (j ++ (k ++ (l ++ (m ++ n)))))))))))
in-a-row a b d e f g h i j k l m n = simp append_assoc refl

pub row-behind : (a b d e f g h i j k l m n t : List ℕ)
    → (a ++ (b ++ (d ++ (e ++ (f ++ (g ++ (h ++ (i ++ (j ++ (k ++ (l ++ (m ++ n)))))))))))) ++ t ≡ a ++ (b ++ (d ++ (e ++ (f ++ (g ++ (h ++ (i ++ (j ++ (k ++ (l ++ (m ++ (n ++ t))))))))))))
row-behind a b d e f g h i j k l m n t = simp append_assoc refl

-- what is told of one row more
pub rows-next : (rows : List ListedRow) (i : ℕ) (row : ListedRow) → i < length rows → row ≡ get_or rows i row
    → map row_json (map row_of (take (i + 1) rows)) ≡ map row_json (map row_of (take i rows)) ++ row_json (row_of row) ∷ []
rows-next rows i row within is =
    ap (λ rs. map row_json (map row_of rs)) (take_more rows i row within ∙ ap (λ r. take i rows ++ r ∷ []) (sym is))
    ∙ ap (map row_json) (map-append row_of (take i rows) (row ∷ [])) ∙ map-append row_json (map row_of (take i rows)) (row_of row ∷ [])
