-- A text is cut into pieces in one way.
use Rattle.std.proofs.Common.{◌≡◌, ◌∙◌, ◌≤◌, ℕ, zero, suc, true, false, List, [], ◌∷◌, ◌++◌, Option, None, Some, arith, length, refl, subst, sym, ap}
use Rattle.std.proofs.lemmas.List.{length-append}
use Rattle.std.proofs.lemmas.Option.{same_Some}
use Rattle.idl_block.specs.Blocks.{Text as UnitPart}
use Rattle.idl_root_blocks.specs.verdicts.Standing.{part_step}
use Rattle.idl_block.specs.facts.Beneath.{Depth, deepened}
use Rattle.idl_root_blocks.specs.Blocks.{AreCut, BeginsBlock, Block, IsOfBlock, Loose, Nothing, Pieces, Split, behind_depth, cut, cut_within, depth_behind, level, pieces_by, split_from, text_in, with_first}
use Rattle.idl_root_blocks.specs.declared.text.BlockPart.{BlockPart}
use Rattle.idl_root_blocks.specs.declared.text.BlockPart.TheVariants.{Text, Enters, Leaves}
use Rattle.idl_unit.specs.declared.unit.UnitText.{UnitText}

-- so many scopes and files
abbrev pub at : ℕ → ℕ → Depth
at scopes files = record { scopes = scopes; files = files }

pub no-none : {X : Type 0} (x : X) → None ≡ Some x → ⊥
no-none x h = cc

-- ---- what is split off is a block's

-- a text is split so, behind so many scopes and files
pub record IsSplit (d : Depth) (text : List BlockPart) (s : Split) : Type 0 where
  pub whole : text ≡ s.inside ++ Leaves false ∷ s.behind
  pub scopes : ℕ
  pub behind : depth_behind d s.inside ≡ Some (at scopes 0)

-- with a part more in front, which leaves that depth
with-first : (d next : Depth) (part : BlockPart) (text : List BlockPart) → ((inside : List BlockPart) → depth_behind d (part ∷ inside) ≡ depth_behind next inside)
    → (o : Option Split) → ((s : Split) → o ≡ Some s → IsSplit next text s) → (s : Split) → with_first part o ≡ Some s → IsSplit d (part ∷ text) s
with-first d next part text step None there s h = absurd (no-none s h)
with-first d next part text step (Some t) there s h =
    let own = there t refl in
    let front : IsSplit d (part ∷ text) (record t { inside = part ∷ t.inside }) = record {
      whole = ap (λ (us : List BlockPart). part ∷ us) own.whole;
      scopes = own.scopes;
      behind = step t.inside ∙ own.behind;
    } in
    subst (IsSplit d (part ∷ text)) (same_Some _ _ h) front

-- a unit with this step in front of a text
abbrev behind_unit : UnitText → List BlockPart → Option Depth → Option Split
behind_unit unit text o = with_first (Text unit) (behind_depth (λ next. split_from next text) o)

pub split : (scopes files : ℕ) (text : List BlockPart) (s : Split) → split_from (at scopes files) text ≡ Some s → IsSplit (at scopes files) text s
split scopes files [] s h = absurd (no-none s h)
split scopes zero (Leaves false ∷ text) s h =
    let here : IsSplit (at scopes 0) (Leaves false ∷ text) (record { inside = []; behind = text }) = record { whole = refl; scopes = scopes; behind = refl } in
    subst (IsSplit (at scopes 0) (Leaves false ∷ text)) (same_Some _ _ h) here
split scopes zero (Leaves true ∷ text) s h = absurd (no-none s h)
split scopes (suc n) (Leaves inside ∷ text) s h =
    with-first (at scopes (suc n)) (at scopes n) (Leaves inside) text (λ more. refl) (split_from (at scopes n) text) (split scopes n text) s h
split scopes files (Enters inside ∷ text) s h =
    with-first (at scopes files) (at scopes (suc files)) (Enters inside) text (λ more. refl) (split_from (at scopes (suc files)) text) (split scopes (suc files) text) s h
split scopes files (Text unit ∷ text) s h =
    by (deepened (at scopes files) (part_step (UnitPart unit))) refl (λ next. split next.scopes next.files text)
  where
    by : (o : Option Depth) → deepened (at scopes files) (part_step (UnitPart unit)) ≡ o → ((next : Depth) (s : Split) → split_from next text ≡ Some s → IsSplit next text s)
        → IsSplit (at scopes files) (Text unit ∷ text) s
    by None is later = absurd (no-none s (sym (ap (behind_unit unit text) is) ∙ h))
    by (Some next) is later =
        with-first (at scopes files) next (Text unit) text (λ more. rw is refl) (split_from next text) (later next) s (sym (ap (behind_unit unit text) is) ∙ h)

-- ---- and a block's text is split off

files-are : (scopes files found : ℕ) → Some (at scopes files) ≡ Some (at found 0) → files ≡ 0
files-are scopes files found h = ap (λ (d : Depth). d.files) (same_Some _ _ h)

pub found : (scopes files : ℕ) (inside behind : List BlockPart) (end : ℕ) → depth_behind (at scopes files) inside ≡ Some (at end 0)
    → split_from (at scopes files) (inside ++ Leaves false ∷ behind) ≡ Some (record { inside = inside; behind = behind })
found scopes zero [] behind end h = refl
found scopes (suc n) [] behind end h = absurd (omega (arith, files-are scopes (suc n) end h))
found scopes zero (Leaves within ∷ inside) behind end h = absurd (no-none (at end 0) h)
found scopes (suc n) (Leaves within ∷ inside) behind end h = ap (with_first (Leaves within)) (found scopes n inside behind end h)
found scopes files (Enters within ∷ inside) behind end h = ap (with_first (Enters within)) (found scopes (suc files) inside behind end h)
found scopes files (Text unit ∷ inside) behind end h =
    by (deepened (at scopes files) (part_step (UnitPart unit))) refl (λ next. found next.scopes next.files inside behind end)
  where
    by : (o : Option Depth) → deepened (at scopes files) (part_step (UnitPart unit)) ≡ o
        → ((next : Depth) → depth_behind next inside ≡ Some (at end 0) → split_from next (inside ++ Leaves false ∷ behind) ≡ Some (record { inside = inside; behind = behind }))
        → split_from (at scopes files) (Text unit ∷ (inside ++ Leaves false ∷ behind)) ≡ Some (record { inside = Text unit ∷ inside; behind = behind })
    by None is later = absurd (no-none (at end 0) (rw is at h))
    by (Some next) is later = ap (behind_unit unit (inside ++ Leaves false ∷ behind)) is ∙ ap (with_first (Text unit)) (later next (rw is at h))

-- ---- the text of the pieces

-- what is split is no longer
shorter : (n : ℕ) (text inside : List BlockPart) (part : BlockPart) (behind : List BlockPart) → text ≡ inside ++ part ∷ behind → length text ≤ n → (length inside ≤ n) × (length behind ≤ n)
shorter n text inside part behind whole most =
    let same = ap (λ (us : List BlockPart). length us) whole ∙ length-append inside (part ∷ behind) in
    (omega (arith, same, most), omega (arith, same, most))

pub whole : (n : ℕ) (text : List BlockPart) → length text ≤ n → text_in (cut_within n text) ≡ text
whole zero [] most = refl
whole zero (part ∷ text) most = absurd (omega (arith, most))
whole (suc n) [] most = refl
whole (suc n) (Text unit ∷ text) most = ap (λ (us : List BlockPart). Text unit ∷ us) (whole n text (omega (arith, most)))
whole (suc n) (Leaves inside ∷ text) most = ap (λ (us : List BlockPart). Leaves inside ∷ us) (whole n text (omega (arith, most)))
whole (suc n) (Enters true ∷ text) most = ap (λ (us : List BlockPart). Enters true ∷ us) (whole n text (omega (arith, most)))
whole (suc n) (Enters false ∷ text) most = by (split_from level text) refl (λ us. whole n us)
  where
    by : (o : Option Split) → split_from level text ≡ o → ((us : List BlockPart) → length us ≤ n → text_in (cut_within n us) ≡ us) → text_in (cut_within (suc n) (Enters false ∷ text)) ≡ Enters false ∷ text
    by None is later =
        ap (λ (o : Option Split). text_in (pieces_by (cut_within n) text o)) is ∙ ap (λ (us : List BlockPart). Enters false ∷ us) (later text (omega (arith, most)))
    by (Some s) is later =
        let own = split 0 0 text s is in
        let parts = shorter n text s.inside (Leaves false) s.behind own.whole (omega (arith, most)) in
        let inside = later s.inside parts.0 in
        let behind = later s.behind parts.1 in
        ap (λ (o : Option Split). text_in (pieces_by (cut_within n) text o)) is
        ∙ (λ i. Enters false ∷ (inside i ++ Leaves false ∷ behind i)) ∙ ap (λ (us : List BlockPart). Enters false ∷ us) (sym own.whole)

-- a part that enters no file outside of a unit begins no block
not-entered : (part : BlockPart) (text : List BlockPart) → (part ≡ Enters false → ⊥) → BeginsBlock part text → ⊥
not-entered part text other b = other b.entered

pub blocks : (n : ℕ) (text : List BlockPart) → length text ≤ n → AreCut (cut_within n text)
blocks zero text most = tt
blocks (suc n) [] most = tt
blocks (suc n) (Text unit ∷ text) most = (not-entered (Text unit) (text_in (cut_within n text)) (λ h. cc), blocks n text (omega (arith, most)))
blocks (suc n) (Leaves inside ∷ text) most = (not-entered (Leaves inside) (text_in (cut_within n text)) (λ h. cc), blocks n text (omega (arith, most)))
blocks (suc n) (Enters true ∷ text) most = (not-entered (Enters true) (text_in (cut_within n text)) (λ h. cc), blocks n text (omega (arith, most)))
blocks (suc n) (Enters false ∷ text) most = by (split_from level text) refl (λ us. blocks n us)
  where
    none : split_from level text ≡ None → BeginsBlock (Enters false) (text_in (cut_within n text)) → ⊥
    none is b =
        let there : text ≡ b.inside ++ Leaves false ∷ b.behind = sym (whole n text (omega (arith, most))) ∙ b.whole in
        no-none (record { inside = b.inside; behind = b.behind })
        (sym is ∙ ap (split_from level) there ∙ found 0 0 b.inside b.behind b.block.scopes b.block.behind)

    by : (o : Option Split) → split_from level text ≡ o → ((us : List BlockPart) → length us ≤ n → AreCut (cut_within n us)) → AreCut (cut_within (suc n) (Enters false ∷ text))
    by None is later = subst (λ (o : Option Split). AreCut (pieces_by (cut_within n) text o)) (sym is) (none is, later text (omega (arith, most)))
    by (Some s) is later =
        let own = split 0 0 text s is in
        let parts = shorter n text s.inside (Leaves false) s.behind own.whole (omega (arith, most)) in
        let block : IsOfBlock s.inside = record { scopes = own.scopes; behind = own.behind } in
        subst (λ (o : Option Split). AreCut (pieces_by (cut_within n) text o)) (sym is)
        (subst IsOfBlock (sym (whole n s.inside parts.0)) block, (later s.inside parts.0, later s.behind parts.1))

-- ---- in one way

pub one : (n : ℕ) (pieces : Pieces) → AreCut pieces → length (text_in pieces) ≤ n → cut_within n (text_in pieces) ≡ pieces
one zero Nothing h most = refl
one (suc n) Nothing h most = refl
one zero (Loose part pieces) h most = absurd (omega (arith, most))
one zero (Block inside pieces) h most = absurd (omega (arith, most))
one (suc n) (Loose (Text unit) pieces) h most = ap (Loose (Text unit)) (one n pieces h.1 (omega (arith, most)))
one (suc n) (Loose (Leaves inside) pieces) h most = ap (Loose (Leaves inside)) (one n pieces h.1 (omega (arith, most)))
one (suc n) (Loose (Enters true) pieces) h most = ap (Loose (Enters true)) (one n pieces h.1 (omega (arith, most)))
one (suc n) (Loose (Enters false) pieces) h most = by (split_from level (text_in pieces)) refl (one n pieces h.1 (omega (arith, most)))
  where
    by : (o : Option Split) → split_from level (text_in pieces) ≡ o → cut_within n (text_in pieces) ≡ pieces → cut_within (suc n) (Enters false ∷ text_in pieces) ≡ Loose (Enters false) pieces
    by None is later = ap (pieces_by (cut_within n) (text_in pieces)) is ∙ ap (Loose (Enters false)) later
    by (Some s) is later =
        let own = split 0 0 (text_in pieces) s is in
        absurd (h.0 (record {
          inside = s.inside;
          behind = s.behind;
          entered = refl;
          whole = own.whole;
          block = record { scopes = own.scopes; behind = own.behind };
        }))
one (suc n) (Block inside pieces) h most =
    let there = found 0 0 (text_in inside) (text_in pieces) h.0.scopes h.0.behind in
    let parts = shorter n (text_in inside ++ Leaves false ∷ text_in pieces) (text_in inside) (Leaves false) (text_in pieces) refl (omega (arith, most)) in
    let own = one n inside h.1.0 parts.0 in
    let more = one n pieces h.1.1 parts.1 in
    ap (pieces_by (cut_within n) (text_in inside ++ Leaves false ∷ text_in pieces)) there ∙ (λ i. Block (own i) (more i))

pub cut-whole : (text : List BlockPart) → text_in (cut text) ≡ text
unfolding cut
cut-whole text = whole (length text) text (omega arith)

pub cut-blocks : (text : List BlockPart) → AreCut (cut text)
unfolding cut
cut-blocks text = blocks (length text) text (omega arith)

pub cut-one : (pieces : Pieces) → AreCut pieces → cut (text_in pieces) ≡ pieces
unfolding cut
cut-one pieces h = one (length (text_in pieces)) pieces h (omega arith)
