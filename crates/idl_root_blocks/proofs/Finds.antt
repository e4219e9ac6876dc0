-- What a text is cut into from its first part on.
use Rattle.std.proofs.Common.{◌≡◌, ◌∙◌, ◌++◌, [], Bool, Bor, true, false, List, ◌∷◌, Option, None, Some, IfNone, IfSome, subst, sym, ap}
use Rattle.std.specs.Option.{option_map}
use Rattle.idl_root_blocks.specs.Blocks.{BeginsBlock, Block, IsOfBlock, Loose, Split, cut, level, split_from}
use Rattle.idl_root_blocks.specs.declared.text.BlockPart.{BlockPart}
use Rattle.idl_root_blocks.specs.declared.text.BlockPart.TheVariants.{Text, Enters, Leaves}
use Rattle.idl_root_blocks.specs.Finding.{IsFirstBlock, IsLeftBehind, in_front}
use Rattle.idl_root_blocks.specs.Units.{parts_of_unit}
use Rattle.idl_unit.specs.declared.unit.Unit.{Unit}
use Rattle.idl_unit.specs.declared.unit.UnitText.{UnitText}
use Rattle.idl_root_blocks.proofs.Cuts.{cut-blocks, cut-one, cut-whole, found, no-none, split}

pub cut-loose : (part : BlockPart) (text : List BlockPart) → (BeginsBlock part text → ⊥) → cut (part ∷ text) ≡ Loose part (cut text)
cut-loose part text never =
    ap (λ (us : List BlockPart). cut (part ∷ us)) (sym (cut-whole text))
    ∙ cut-one (Loose part (cut text)) (subst (λ (us : List BlockPart). BeginsBlock part us → ⊥) (sym (cut-whole text)) never, cut-blocks text)

pub cut-block : (text : List BlockPart) (s : Split) → split_from level text ≡ Some s → cut (Enters false ∷ text) ≡ Block (cut s.inside) (cut s.behind)
cut-block text s is =
    let own = split 0 0 text s is in
    let block : IsOfBlock s.inside = record { scopes = own.scopes; behind = own.behind } in
    ap (λ (us : List BlockPart). cut (Enters false ∷ us)) (own.whole ∙ (λ i. sym (cut-whole s.inside) i ++ Leaves false ∷ sym (cut-whole s.behind) i))
    ∙ cut-one (Block (cut s.inside) (cut s.behind)) (subst IsOfBlock (sym (cut-whole s.inside)) block, (cut-blocks s.inside, cut-blocks s.behind))

pub cut-none : (text : List BlockPart) → split_from level text ≡ None → cut (Enters false ∷ text) ≡ Loose (Enters false) (cut text)
cut-none text is = cut-loose (Enters false) text never
  where
    never : BeginsBlock (Enters false) text → ⊥
    never b =
        no-none (record { inside = b.inside; behind = b.behind })
        (sym is ∙ ap (split_from level) b.whole ∙ found 0 0 b.inside b.behind b.block.scopes b.block.behind)

pub cut-other : (part : BlockPart) (text : List BlockPart) → (part ≡ Enters false → ⊥) → cut (part ∷ text) ≡ Loose part (cut text)
cut-other part text other = cut-loose part text (λ b. other b.entered)

-- ---- where a unit stands in front

-- it begins no block
abbrev pub IsAlone : Unit → List BlockPart → Type 0
IsAlone unit text = cut (parts_of_unit unit ++ text) ≡ in_front (parts_of_unit unit) (cut text)

pub alone-text : (unit : UnitText) (text : List BlockPart) → cut (Text unit ∷ text) ≡ Loose (Text unit) (cut text)
alone-text unit text = cut-other (Text unit) text (λ h. cc)

pub alone-left : (inside : Bool) (text : List BlockPart) → cut (Leaves inside ∷ text) ≡ Loose (Leaves inside) (cut text)
alone-left inside text = cut-other (Leaves inside) text (λ h. cc)

pub alone-inside : (inside : Bool) (text : List BlockPart) → inside ≡ true → cut (Enters inside ∷ text) ≡ Loose (Enters inside) (cut text)
alone-inside true text h = cut-other (Enters true) text (λ h. cc)
alone-inside false text h = cc

-- or one, as what stands behind it is split
pub begins-some : {B : Type 0} (to : B → Split) (o : Option B) (text : List BlockPart) → option_map to o ≡ split_from level text
    → IfSome o (λ b. cut (Enters false ∷ text) ≡ Block (cut (to b).inside) (cut (to b).behind))
begins-some to None text is = tt
begins-some to (Some b) text is = cut-block text (to b) (sym is)

pub begins-none : {B : Type 0} (to : B → Split) (o : Option B) (text : List BlockPart) → option_map to o ≡ split_from level text
    → IfNone o (cut (Enters false ∷ text) ≡ Loose (Enters false) (cut text))
begins-none to None text is = cut-none text (sym is)
begins-none to (Some b) text is = tt

-- and its units
pub first-units : (unit : Unit) (units : List Unit) (o : Option (Bor (List Unit) × Bor (List Unit))) → parts_of_unit unit ≡ Enters false ∷ []
    → IfSome o (λ b. IsLeftBehind units b.0.now b.1.now) → IfSome o (λ b. IsFirstBlock unit units b.0.now b.1.now)
first-units unit units None enters left = tt
first-units unit units (Some b) enters left = record { entered = enters; behind = left }
