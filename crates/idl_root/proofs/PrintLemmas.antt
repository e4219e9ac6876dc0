-- The names that a unit declares first, addition by addition.
use Rattle.std.proofs.Common.{◌≡◌, ◌+◌, ◌<◌, ℕ, true, List, [], ◌∷◌, ◌++◌, Option, None, Some, drop, flat_map, get_or, length, map, refl, subst, ap, sym, ◌∙◌, append_assoc}
use Rattle.std.specs.Option.{is_some, unwrap_or}
use Rattle.std.specs.Prelude.{option_to_list, slice_get}
use Rattle.std.proofs.lemmas.Grind.{flat_map-append}
use Rattle.std.proofs.lemmas.List.{append-nil, at_drop_more, map-append}
use Rattle.idl_base.proofs.SpanLemmas.{pieces-one, within-one}
use Rattle.idl_base.specs.Spans.{AreWithin, pieces}
use Rattle.idl_base.specs.declared.texts.ByteRange.{ByteRange}
use Rattle.idl_event.specs.declared.told.site.Site.{Site}
use Rattle.idl_repo.specs.Entry.{IsPushed}
use Rattle.idl_repo.specs.declared.entry.Entry.{Entry}
use Rattle.idl_repo.specs.declared.entry.Pushed.{Pushed}
use Rattle.idl_root.specs.Held.{listed_at}
use Rattle.idl_root.specs.Printed.{Listed, first_paths, listed_with}
use Rattle.idl_root.specs.declared.compiling.printing.Listed.{Listed as HeldListed}
use Rattle.idl_root.specs.declared.compiling.printing.Sought.{Sought}
use Rattle.idl_env.proofs.AnswerLaws.PlaceLemmas.{drop-at1}
use Rattle.idl_env.specs.declared.additions.addition.Addition.{Addition}
use Rattle.idl_env.specs.declared.additions.addition.Addition.TheVariants.{Declares}
use Rattle.idl_unit.specs.declared.unit.UnitText.{UnitText}

first_paths-cons : (a : Addition) (additions : List Addition) → first_paths (a ∷ additions) ≡ first_paths (a ∷ []) ++ first_paths additions
first_paths-cons (Declares e) additions = refl
first_paths-cons other additions = refl

row-some : (row : Option (List ℕ)) → is_some row ≡ true → option_to_list row ≡ unwrap_or row [] ∷ []
row-some None some = absurd (cc)
row-some (Some row) some = refl

module _ (text : UnitText) (sites : List Site) where
  -- names, with those of additions from one of these on
  pub listed-here : (there next : List Listed) (additions : List Addition) (i : ℕ) (a : Addition) → slice_get additions i ≡ Some a
      → next ≡ there ++ listed_with text sites (first_paths (a ∷ []))
      → next ++ listed_with text sites (first_paths (drop (i + 1) additions)) ≡ there ++ listed_with text sites (first_paths (drop i additions))
  listed-here there next additions i a here is =
      let rest = drop (i + 1) additions in
      let own = first_paths (a ∷ []) in
      ap (λ l. l ++ listed_with text sites (first_paths rest)) is
      ∙ append_assoc there (listed_with text sites own) (listed_with text sites (first_paths rest))
      ∙ ap (λ l. there ++ l) (sym (map-append (λ path. record { path = path; text = text; sites = sites }) own (first_paths rest)))
      ∙ ap (λ paths. there ++ listed_with text sites paths) (sym (first_paths-cons a rest))
      ∙ ap (λ l. there ++ listed_with text sites (first_paths l)) (sym (drop-at1 additions i a here))

-- what comes of names, with what comes of one more of them
pub printed-more : {X : Type 0} (f : Listed → List X) (there next : List X) (names : List HeldListed) (i : ℕ) (name : HeldListed) → i < length names → name ≡ get_or names i name
    → next ≡ there ++ f (listed_at name) → next ++ flat_map f (map listed_at (drop (i + 1) names)) ≡ there ++ flat_map f (map listed_at (drop i names))
printed-more f there next names i name lt is own =
    let rest = drop (i + 1) names in
    ap (λ l. l ++ flat_map f (map listed_at rest)) own
    ∙ append_assoc there (f (listed_at name)) (flat_map f (map listed_at rest))
    ∙ ap (λ n. there ++ flat_map f (map listed_at (n ∷ rest))) is
    ∙ sym (at_drop_more (λ l. there ++ flat_map f (map listed_at l)) names i name lt)

-- what comes of names that are looked up, with one of them more
pub sought-more : {X : Type 0} (f : Sought → List X) (there : List X) (names : List Sought) (name : Sought) → there ++ flat_map f (names ++ name ∷ []) ≡ (there ++ flat_map f names) ++ f name
sought-more f there names name =
    ap (λ l. there ++ l) (flat_map-append f names (name ∷ []) ∙ ap (λ l. flat_map f names ++ l) (append-nil (f name)))
    ∙ sym (append_assoc there (flat_map f names) (f name))

pub rows-one : (e : Entry) (pushed : Pushed) (old new : List ℕ) (spans : List ByteRange) (span : ByteRange) → IsPushed e pushed old new → pushed.has_row ≡ true → AreWithin old spans
    → span.from ≡ length old → span.to ≡ length new
    → AreWithin new (spans ++ span ∷ []) × (pieces new (spans ++ span ∷ []) ≡ pieces old spans ++ option_to_list e.row)
rows-one e pushed old new spans span is has within from to =
    let row = unwrap_or e.row [] in
    let one : option_to_list e.row ≡ row ∷ [] = row-some e.row (sym is.has_row ∙ has) in
    let end : span.to ≡ length (old ++ row) = to ∙ ap length is.row in (
      subst (λ bytes. AreWithin bytes (spans ++ span ∷ [])) (sym is.row) (within-one old row spans span from end within),
      ap (λ bytes. pieces bytes (spans ++ span ∷ [])) is.row ∙ pieces-one old row spans span from end within ∙ ap (λ rows. pieces old spans ++ rows) (sym one),
    )
