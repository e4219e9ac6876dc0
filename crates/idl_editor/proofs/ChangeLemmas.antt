-- Changes of a text, one after another.
use Rattle.std.proofs.Common.{◌≡◌, ◌∙◌, ◌+◌, ◌<◌, ◌++◌, ◌∷◌, [], ℕ, List, Option, None, Some, drop, fold, get_or, length, map, refl, sym, ap, take}
use Rattle.std.proofs.lemmas.List.{append_assoc, map-append, take-append-drop, take_more}
use Rattle.std.proofs.lemmas.List.Sums.{fold-append}
use Rattle.serde_json.specs.Data.{Data}
use Rattle.serde_json.specs.View.{items_of, items_view, view}
use Rattle.serde_json.specs.declared.value.Value.{Value}
use Rattle.idl_editor.specs.Changes.{text_after}
use Rattle.idl_editor.specs.declared.change.ContentChange.{ContentChange}
use Rattle.idl_editor.specs.declared.column.Encoding.{Encoding}
use Rattle.idl_editor.specs.documents.Documents.{TextChange, change_told, text_after_all, text_with}
use Rattle.idl_editor.specs.documents.Notices.{all_changes}
use Rattle.idl_editor.specs.messages.Params.{both, told_in}

-- ---- changes that values tell

some-same : {X : Type 0} (a b : X) → Some a ≡ Some b → a ≡ b
some-same a b h = cc

none-some : {X : Type 0} (b : X) → ◌≡◌ {A = Option X} None (Some b) → ⊥
none-some b h = absurd (cc)

both-none : (t : Option TextChange) → both ◌∷◌ t None ≡ None
both-none None = refl
both-none (Some t) = refl

changes-more : (values : List Data) (one : Data) (changes : List TextChange) (change : TextChange) → all_changes (items_of values) ≡ Some changes → told_in one ≡ Some change
    → all_changes (items_of (values ++ one ∷ [])) ≡ Some (changes ++ change ∷ [])
changes-more [] one changes change before there =
    ap (λ (t : Option TextChange). both ◌∷◌ t (Some [])) there ∙ ap (λ (c : List TextChange). Some (c ++ change ∷ [])) (some-same [] changes before)
changes-more (v ∷ values) one changes change before there =
    by (told_in v) (all_changes (items_of values)) refl (sym before) (λ rest h. changes-more values one rest change h there)
  where
    by : (t : Option TextChange) (r : Option (List TextChange)) → all_changes (items_of values) ≡ r → Some changes ≡ both ◌∷◌ t r
        → ((rest : List TextChange) → all_changes (items_of values) ≡ Some rest → all_changes (items_of (values ++ one ∷ [])) ≡ Some (rest ++ change ∷ []))
        → both ◌∷◌ t (all_changes (items_of (values ++ one ∷ []))) ≡ Some (changes ++ change ∷ [])
    by None r is h next = absurd (none-some changes (sym h))
    by (Some t) None is h next = absurd (none-some changes (sym h))
    by (Some t) (Some rest) is h next =
        ap (λ (all : Option (List TextChange)). both ◌∷◌ (Some t) all) (next rest is) ∙ ap (λ (c : List TextChange). Some (c ++ change ∷ [])) (sym (some-same changes (t ∷ rest) h))

changes-lost : (values : List Data) (one : Data) (after : List Data) → told_in one ≡ None → all_changes (items_of (values ++ one ∷ after)) ≡ None
changes-lost [] one after none = ap (λ (t : Option TextChange). both ◌∷◌ t (all_changes (items_of after))) none
changes-lost (v ∷ values) one after none =
    ap (λ (all : Option (List TextChange)). both ◌∷◌ (told_in v) all) (changes-lost values one after none) ∙ both-none (told_in v)

pub values-more : (values : List Value) (i : ℕ) (value : Value) (changes : List TextChange) (change : TextChange) → i < length values → value ≡ get_or values i value
    → all_changes (items_view (take i values)) ≡ Some changes → told_in (view value) ≡ Some change → all_changes (items_view (take (i + 1) values)) ≡ Some (changes ++ change ∷ [])
values-more values i value changes change lt is before there =
    ap (λ (vs : List Value). all_changes (items_view vs)) (take_more values i value lt ∙ ap (λ (v : Value). take i values ++ v ∷ []) (sym is))
    ∙ ap (λ (ds : List Data). all_changes (items_of ds)) (map-append view (take i values) (value ∷ []))
    ∙ changes-more (map view (take i values)) (view value) changes change before there

pub values-lost : (values : List Value) (i : ℕ) (value : Value) → i < length values → value ≡ get_or values i value → told_in (view value) ≡ None → all_changes (items_view values) ≡ None
values-lost values i value lt is none =
    ap (λ (vs : List Value). all_changes (items_view vs)) (sym (take-append-drop (i + 1) values))
    ∙ ap (λ (vs : List Value). all_changes (items_view (vs ++ drop (i + 1) values))) (take_more values i value lt ∙ ap (λ (v : Value). take i values ++ v ∷ []) (sym is))
    ∙ ap (λ (vs : List Value). all_changes (items_view vs)) (append_assoc (take i values) (value ∷ []) (drop (i + 1) values))
    ∙ ap (λ (ds : List Data). all_changes (items_of ds)) (map-append view (take i values) (value ∷ drop (i + 1) values))
    ∙ changes-lost (map view (take i values)) (view value) (map view (drop (i + 1) values)) none

-- ---- a text after them

-- a text after one change more
pub text-more : (encoding : Encoding) (old text : List ℕ) (changes : List ContentChange) (i : ℕ) (d : ContentChange) → i < length changes
    → text ≡ text_after_all encoding old (map change_told (take i changes)) → text_after encoding text (get_or changes i d) ≡ text_after_all encoding old (map change_told (take (i + 1) changes))
text-more encoding old text changes i d within is =
    ap (λ (t : List ℕ). text_after encoding t (get_or changes i d)) is
    ∙ sym (fold-append (text_with encoding) old (map change_told (take i changes)) (change_told (get_or changes i d) ∷ []))
    ∙ ap (λ (cs : List TextChange). fold (text_with encoding) old cs) (sym (map-append change_told (take i changes) (get_or changes i d ∷ [])))
    ∙ ap (λ (cs : List ContentChange). text_after_all encoding old (map change_told cs)) (sym (take_more changes i d within))

pub text-next : (encoding : Encoding) (old now text after : List ℕ) (changes : List ContentChange) (i : ℕ) (d : ContentChange) → after ≡ text_after encoding now (get_or changes i d) → now ≡ text
    → i < length changes → text ≡ text_after_all encoding old (map change_told (take i changes)) → after ≡ text_after_all encoding old (map change_told (take (i + 1) changes))
text-next encoding old now text after changes i d made same within is =
    made ∙ ap (λ (t : List ℕ). text_after encoding t (get_or changes i d)) same ∙ text-more encoding old text changes i d within is
