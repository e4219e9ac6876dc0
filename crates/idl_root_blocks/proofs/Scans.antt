-- How a text is split, unit by unit.
use Rattle.std.proofs.Common.{◌≡◌, ◌≢◌, ◌∙◌, ◌<◌, ◌≤◌, ◌++◌, ◌+◌, ◌-◌, ℕ, zero, suc, Bool, true, false, List, [], ◌∷◌, Option, None, Some, arith, cond, drop, get_or, length, refl, subst, sym, take, ap}
use Rattle.std.proofs.lemmas.List.{append-nil, drop_all, drop_more, take-append-drop, take_rest}
use Rattle.std.proofs.lemmas.Option.{same_Some}
use Rattle.idl_block.specs.Blocks.{Text as UnitPart}
use Rattle.idl_root_blocks.specs.verdicts.Standing.{part_step}
use Rattle.idl_block.specs.facts.Beneath.{Depth, deepened}
use Rattle.idl_root_blocks.specs.Blocks.{Split, behind_depth, depth_behind, level, split_from, with_first}
use Rattle.idl_root_blocks.specs.Finding.{IsLeftBehind, left_by}
use Rattle.idl_root_blocks.specs.Units.{parts_of_unit, text_of}
use Rattle.idl_root_blocks.specs.declared.text.BlockPart.{BlockPart}
use Rattle.idl_root_blocks.specs.declared.text.BlockPart.TheVariants.{Text, Leaves}
use Rattle.idl_unit.specs.Scoping.{is_closing, is_opening}
use Rattle.idl_unit.specs.declared.unit.Unit.{Unit as RootUnit}
use Rattle.idl_unit.specs.declared.unit.Unit.TheVariants.{Spelled, Entered, Left, End}
use Rattle.idl_unit.specs.declared.unit.UnitText.{UnitText}
use Rattle.idl_root_blocks.proofs.Cuts.{at, no-none}
use Rattle.idl_root_blocks.proofs.Depths.{closing-closes, opening-deepens, other-stays}
use Rattle.idl_root_blocks.proofs.Units.{text-left, text_next}

-- what is split off, with these parts in front
abbrev pub split_behind : List BlockPart → Option Split → Option Split
split_behind [] o = o
split_behind (part ∷ parts) o = with_first part (split_behind parts o)

pub behind-append : (a b : List BlockPart) (o : Option Split) → split_behind (a ++ b) o ≡ split_behind a (split_behind b o)
behind-append [] b o = refl
behind-append (part ∷ a) b o = ap (with_first part) (behind-append a b o)

pub behind-none : (parts : List BlockPart) → split_behind parts None ≡ None
behind-none [] = refl
behind-none (part ∷ parts) = ap (with_first part) (behind-none parts)

pub behind-some : (parts : List BlockPart) (s : Split) → split_behind parts (Some s) ≡ Some (record s { inside = parts ++ s.inside })
behind-some [] s = refl
behind-some (part ∷ parts) s = ap (with_first part) (behind-some parts s)

-- how many scopes and files are open behind a text, by whether it is an opening or a closing
abbrev by_text : Bool → Bool → ℕ → ℕ → Option Depth
by_text true closing scopes files = Some (at (suc scopes) files)
by_text false true scopes files = elim scopes [ zero ↦ None | suc n ↦ Some (at n files) ]
by_text false false scopes files = Some (at scopes files)

text-step : (scopes files : ℕ) (text : UnitText) → deepened (at scopes files) (part_step (UnitPart text)) ≡ by_text (is_opening text) (is_closing text) scopes files
text-step scopes files text = by (is_opening text) refl (is_closing text) refl
  where
    by : (a : Bool) → is_opening text ≡ a → (b : Bool) → is_closing text ≡ b → deepened (at scopes files) (part_step (UnitPart text)) ≡ by_text a b scopes files
    by true h b i = opening-deepens (at scopes files) text h
    by false h true i = closing-closes (at scopes files) text i
    by false h false i = other-stays (at scopes files) text h i

one-step : (o : Option Depth) → elim o [ None ↦ None | Some next ↦ depth_behind next [] ] ≡ o
one-step None = refl
one-step (Some next) = refl

-- the depth behind a unit with tokens
pub text_depth : (d : Depth) (text : UnitText) → depth_behind d (Text text ∷ []) ≡ deepened d (part_step (UnitPart text))
text_depth d text = one-step (deepened d (part_step (UnitPart text)))

-- a unit that doesn't leave the block's own file
pub stays : (scopes files : ℕ) (unit : RootUnit) (rest : List BlockPart) → left_by files (parts_of_unit unit) ≡ None
    → split_from (at scopes files) (parts_of_unit unit ++ rest)
    ≡ split_behind (parts_of_unit unit) (behind_depth (λ next. split_from next rest) (depth_behind (at scopes files) (parts_of_unit unit)))
stays scopes files (Spelled text sites) rest none =
    ap (λ (o : Option Depth). with_first (Text text) (behind_depth (λ next. split_from next rest) o)) (sym (text_depth (at scopes files) text))
stays scopes files (Entered file inside) rest none = refl
stays scopes zero (Left file inside) rest none = let never : Some inside ≡ None = none in cc
stays scopes (suc n) (Left file inside) rest none = refl
stays scopes files End rest none = refl

-- and one that does
pub leaves : (scopes files : ℕ) (unit : RootUnit) (rest : List BlockPart) (within : Bool) → left_by files (parts_of_unit unit) ≡ Some within
    → split_from (at scopes files) (parts_of_unit unit ++ rest) ≡ cond within None (Some (record { inside = []; behind = rest }))
leaves scopes files (Spelled text sites) rest within some = cc
leaves scopes files (Entered file inside) rest within some = cc
leaves scopes zero (Left file inside) rest within some = ap (λ (b : Bool). cond b None (Some (record { inside = []; behind = rest }))) (same inside within some)
  where
    same : (a b : Bool) → Some a ≡ Some b → a ≡ b
    same true true h = refl
    same false false h = refl
    same true false h = cc
    same false true h = cc
leaves scopes (suc n) (Left file inside) rest within some = cc
leaves scopes files End rest within some = cc

-- ---- how many are open behind a unit

pub left_files : (scopes files : ℕ) (inside : Bool) → files ≢ 0 → depth_behind (at scopes files) (Leaves inside ∷ []) ≡ Some (at scopes (files - 1))
left_files scopes zero inside some = absurd (some refl)
left_files scopes (suc n) inside some = let same : n ≡ suc n - 1 = omega arith in ap (λ k. Some (at scopes k)) same

pub no_files : (scopes files : ℕ) (inside : Bool) → files ≡ 0 → depth_behind (at scopes files) (Leaves inside ∷ []) ≡ None
no_files scopes zero inside h = refl
no_files scopes (suc n) inside h = absurd (omega (arith, h))

-- a unit's text tells it
pub opens : (scopes files : ℕ) (text : UnitText) → is_opening text ≡ true → deepened (at scopes files) (part_step (UnitPart text)) ≡ Some (at (scopes + 1) files)
opens scopes files text is = text-step scopes files text ∙ ap (λ b. by_text b (is_closing text) scopes files) is ∙ (let same : suc scopes ≡ scopes + 1 = omega arith in ap (λ k. Some (at k files)) same)

pub closes : (scopes files : ℕ) (text : UnitText) → is_opening text ≡ false → is_closing text ≡ true → scopes ≢ 0 → deepened (at scopes files) (part_step (UnitPart text)) ≡ Some (at (scopes - 1) files)
closes scopes files text unlike is some = text-step scopes files text ∙ (λ i. by_text (unlike i) (is i) scopes files) ∙ fewer scopes some
  where
    fewer : (n : ℕ) → n ≢ 0 → by_text false true n files ≡ Some (at (n - 1) files)
    fewer zero some = absurd (some refl)
    fewer (suc n) some = let same : n ≡ suc n - 1 = omega arith in ap (λ k. Some (at k files)) same

pub closes_none : (scopes files : ℕ) (text : UnitText) → is_opening text ≡ false → is_closing text ≡ true → scopes ≡ 0 → deepened (at scopes files) (part_step (UnitPart text)) ≡ None
closes_none scopes files text unlike is none = text-step scopes files text ∙ (λ i. by_text (unlike i) (is i) (none i) files)

pub stands : (scopes files : ℕ) (text : UnitText) → is_opening text ≡ false → is_closing text ≡ false → deepened (at scopes files) (part_step (UnitPart text)) ≡ Some (at scopes files)
stands scopes files text unlike neither = text-step scopes files text ∙ (λ i. by_text (unlike i) (neither i) scopes files)

-- ---- how many more are open behind a unit at most

most-text : (opening closing : Bool) (scopes files : ℕ) (next : Depth) → by_text opening closing scopes files ≡ Some next → (next.scopes ≤ scopes + 1) × (next.files ≤ files + 1)
most-text true closing scopes files next h = subst (λ (d : Depth). (d.scopes ≤ scopes + 1) × (d.files ≤ files + 1)) (same_Some _ _ h) (omega arith, omega arith)
most-text false true zero files next h = absurd (no-none next h)
most-text false true (suc n) files next h = subst (λ (d : Depth). (d.scopes ≤ suc n + 1) × (d.files ≤ files + 1)) (same_Some _ _ h) (omega arith, omega arith)
most-text false false scopes files next h = subst (λ (d : Depth). (d.scopes ≤ scopes + 1) × (d.files ≤ files + 1)) (same_Some _ _ h) (omega arith, omega arith)

pub most : (scopes files : ℕ) (unit : RootUnit) (next : Depth) → depth_behind (at scopes files) (parts_of_unit unit) ≡ Some next → (next.scopes ≤ scopes + 1) × (next.files ≤ files + 1)
most scopes files (Spelled text sites) next h =
    most-text (is_opening text) (is_closing text) scopes files next (sym (text-step scopes files text) ∙ sym (text_depth (at scopes files) text) ∙ h)
most scopes files (Entered file inside) next h = subst (λ (d : Depth). (d.scopes ≤ scopes + 1) × (d.files ≤ files + 1)) (same_Some _ _ h) (omega arith, omega arith)
most scopes zero (Left file inside) next h = absurd (no-none next h)
most scopes (suc n) (Left file inside) next h = subst (λ (d : Depth). (d.scopes ≤ scopes + 1) × (d.files ≤ suc n + 1)) (same_Some _ _ h) (omega arith, omega arith)
most scopes files End next h = subst (λ (d : Depth). (d.scopes ≤ scopes + 1) × (d.files ≤ files + 1)) (same_Some _ _ h) (omega arith, omega arith)

-- ---- behind the units so far

-- what is left tells how the text of units is split, where so many scopes and files are open behind the first of them
pub record AreScanned (units : List RootUnit) (i scopes files : ℕ) : Type 0 where
  pub split : split_from level (text_of units) ≡ split_behind (text_of (take i units)) (split_from (at scopes files) (text_of (drop i units)))

-- where a unit leaves the block's own file
left-here : (units : List RootUnit) (i scopes files : ℕ) → AreScanned units i scopes files → (unit : RootUnit) → i < length units → unit ≡ get_or units i unit
    → (within : Bool) → left_by files (parts_of_unit unit) ≡ Some within → (b : Bool) → within ≡ b
    → split_from level (text_of units) ≡ split_behind (text_of (take i units)) (cond b None (Some (record { inside = []; behind = text_of (drop (i + 1) units) })))
left-here units i scopes files s unit below is within left b same =
    let rest = text_of (drop (i + 1) units) in
    let there = ap (split_from (at scopes files)) (text-left units i unit below is) ∙ leaves scopes files unit rest within left in
    s.split
    ∙ ap (split_behind (text_of (take i units))) there
    ∙ ap (λ b. split_behind (text_of (take i units)) (cond b None (Some (record { inside = []; behind = rest })))) same

pub left-inside : (units : List RootUnit) (i scopes files : ℕ) → AreScanned units i scopes files → (unit : RootUnit) → i < length units → unit ≡ get_or units i unit
    → (within : Bool) → left_by files (parts_of_unit unit) ≡ Some within → within ≡ true → None ≡ split_from level (text_of units)
left-inside units i scopes files s unit below is within left same = sym (left-here units i scopes files s unit below is within left true same ∙ behind-none (text_of (take i units)))

pub left-whole : (units : List RootUnit) (i scopes files : ℕ) → AreScanned units i scopes files → (unit : RootUnit) → i < length units → unit ≡ get_or units i unit
    → (within : Bool) → left_by files (parts_of_unit unit) ≡ Some within → within ≡ false
    → Some (record { inside = text_of (take i units); behind = text_of (take (length units - (i + 1)) (drop (i + 1) units)) }) ≡ split_from level (text_of units)
left-whole units i scopes files s unit below is within left same =
    let front = text_of (take i units) in
    let rest = text_of (drop (i + 1) units) in
    let none : Split = record { inside = []; behind = rest } in
    let here = left-here units i scopes files s unit below is within left false same ∙ behind-some front none in
    (λ j. Some (record { inside = sym (append-nil front) j; behind = text_of (take_rest units (i + 1) j) })) ∙ sym here

-- and where it doesn't
stays-here : (units : List RootUnit) (i scopes files : ℕ) → AreScanned units i scopes files → (unit : RootUnit) → i < length units → unit ≡ get_or units i unit
    → left_by files (parts_of_unit unit) ≡ None → (o : Option Depth) → depth_behind (at scopes files) (parts_of_unit unit) ≡ o
    → split_from level (text_of units)
    ≡ split_behind (text_of (take i units)) (split_behind (parts_of_unit unit) (behind_depth (λ next. split_from next (text_of (drop (i + 1) units))) o))
stays-here units i scopes files s unit below is none o behind =
    let rest = text_of (drop (i + 1) units) in
    let there = ap (split_from (at scopes files)) (text-left units i unit below is) ∙ stays scopes files unit rest none in
    s.split
    ∙ ap (split_behind (text_of (take i units))) there
    ∙ ap (λ o. split_behind (text_of (take i units)) (split_behind (parts_of_unit unit) (behind_depth (λ next. split_from next rest) o))) behind

pub stays-none : (units : List RootUnit) (i scopes files : ℕ) → AreScanned units i scopes files → (unit : RootUnit) → i < length units → unit ≡ get_or units i unit
    → left_by files (parts_of_unit unit) ≡ None → depth_behind (at scopes files) (parts_of_unit unit) ≡ None → None ≡ split_from level (text_of units)
stays-none units i scopes files s unit below is none behind =
    sym (stays-here units i scopes files s unit below is none None behind
    ∙ ap (split_behind (text_of (take i units))) (behind-none (parts_of_unit unit)) ∙ behind-none (text_of (take i units)))

pub stays-more : (units : List RootUnit) (i scopes files : ℕ) → AreScanned units i scopes files → (unit : RootUnit) → i < length units → unit ≡ get_or units i unit
    → left_by files (parts_of_unit unit) ≡ None → (next : Depth) → depth_behind (at scopes files) (parts_of_unit unit) ≡ Some next → AreScanned units (i + 1) next.scopes next.files
stays-more units i scopes files s unit below is none next behind =
    let rest = split_from next (text_of (drop (i + 1) units)) in
    record {
      split = stays-here units i scopes files s unit below is none (Some next) behind
          ∙ sym (behind-append (text_of (take i units)) (parts_of_unit unit) rest)
          ∙ ap (λ (us : List BlockPart). split_behind us rest) (sym (text_next units i unit below is));
    }

-- behind all of them
pub none-behind : (units : List RootUnit) (i scopes files : ℕ) → AreScanned units i scopes files → length units ≤ i → None ≡ split_from level (text_of units)
none-behind units i scopes files s past =
    sym (s.split
    ∙ ap (λ (us : List RootUnit). split_behind (text_of (take i units)) (split_from (at scopes files) (text_of us))) (drop_all i units past)
    ∙ behind-none (text_of (take i units)))

-- ---- the units themselves

-- a unit that leaves the block's own file stands behind those inside
is-leaving : (files : ℕ) (unit : RootUnit) (within : Bool) → left_by files (parts_of_unit unit) ≡ Some within → within ≡ false → parts_of_unit unit ≡ Leaves false ∷ []
is-leaving files (Spelled text sites) within some not = cc
is-leaving files (Entered file inside) within some not = cc
is-leaving zero (Left file inside) within some not = let same : inside ≡ within = same_Some inside within some in ap (λ b. Leaves b ∷ []) (same ∙ not)
is-leaving (suc n) (Left file inside) within some not = cc
is-leaving files End within some not = cc

pub left-units : (units : List RootUnit) (i files : ℕ) (unit : RootUnit) → i < length units → unit ≡ get_or units i unit
    → (within : Bool) → left_by files (parts_of_unit unit) ≡ Some within → within ≡ false
    → IsLeftBehind units (take i units) (take (length units - (i + 1)) (drop (i + 1) units))
left-units units i files unit below is within left not = record {
  leaving = unit;
  left = is-leaving files unit within left not;
  whole = sym (take-append-drop i units)
      ∙ ap (λ (us : List RootUnit). take i units ++ us)
      (drop_more units i unit below ∙ (λ j. sym is j ∷ sym (take_rest units (i + 1)) j));
}
