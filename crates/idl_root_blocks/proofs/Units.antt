-- The text of units, one after another.
use Rattle.std.proofs.Common.{◌≡◌, ◌∙◌, ◌<◌, ◌+◌, ◌++◌, ℕ, List, [], ◌∷◌, arith, drop, get_or, length, take, sym, ap}
use Rattle.std.proofs.lemmas.List.{append-nil, drop_more, take_more}
use Rattle.std.proofs.lemmas.List.Concat.{flat_map-append}
use Rattle.std.proofs.lemmas.List.Sums.{sum_by-append}
use Rattle.idl_root_blocks.specs.Blocks.{cut}
use Rattle.idl_root_blocks.specs.Finding.{blocks_in, one_text, texts_in}
use Rattle.idl_root_blocks.specs.Units.{parts_of_unit, text_of}
use Rattle.idl_root_blocks.specs.declared.text.BlockPart.{BlockPart}
use Rattle.idl_unit.specs.declared.unit.Unit.{Unit}

-- a unit more
pub text_next : (units : List Unit) (i : ℕ) (unit : Unit) → i < length units → unit ≡ get_or units i unit
    → text_of (take (i + 1) units) ≡ text_of (take i units) ++ parts_of_unit unit
text_next units i unit below is =
    ap text_of (take_more units i unit below ∙ ap (λ u. take i units ++ u ∷ []) (sym is))
    ∙ flat_map-append parts_of_unit (take i units) (unit ∷ [])
    ∙ ap (λ (us : List BlockPart). text_of (take i units) ++ us) (append-nil (parts_of_unit unit))

-- and one fewer that is left
pub text-left : (units : List Unit) (i : ℕ) (unit : Unit) → i < length units → unit ≡ get_or units i unit
    → text_of (drop i units) ≡ parts_of_unit unit ++ text_of (drop (i + 1) units)
text-left units i unit below is = ap text_of (drop_more units i unit below ∙ ap (λ u. u ∷ drop (i + 1) units) (sym is))

-- how many of them have tokens
pub texts_next : (units : List Unit) (i : ℕ) (unit : Unit) → i < length units → unit ≡ get_or units i unit
    → texts_in (text_of (take (i + 1) units)) ≡ texts_in (text_of (take i units)) + texts_in (parts_of_unit unit)
texts_next units i unit below is = ap texts_in (text_next units i unit below is) ∙ sum_by-append one_text (text_of (take i units)) (parts_of_unit unit)

-- where no unit is left, all blocks are counted
pub blocks-all : (left : List Unit) (count all : ℕ) → left ≡ [] → count + blocks_in (cut (text_of left)) ≡ all → count ≡ all
unfolding cut
blocks-all left count all none counted =
    let zero : blocks_in (cut (text_of left)) ≡ 0 = ap (λ (us : List Unit). blocks_in (cut (text_of us))) none in
    omega (arith, counted, zero)
