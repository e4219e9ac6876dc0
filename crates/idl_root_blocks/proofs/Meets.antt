-- What is compared, piece by piece.
use Rattle.std.proofs.Common.{◌≡◌, ◌∙◌, ◌≤◌, ◌+◌, ℕ, Bool, true, false, ◌||◌, List, [], ◌∷◌, ◌++◌, arith, map, refl, sym, ap, if◌then◌else◌}
use Rattle.std.proofs.lemmas.List.Folds.{list_any-append}
use Rattle.std.proofs.lemmas.List.Sums.{sum_by-append, sum_by-cons}
use Rattle.std.specs.List.{list_any}
use Rattle.std.specs.Option.{option_eq}
use Rattle.idl_root_blocks.specs.verdicts.Standing.{unit_asks}
use Rattle.idl_env.specs.Facts.{UnitFacts}
use Rattle.idl_env.specs.SameAnswer.{answer_eq}
use Rattle.idl_env.specs.keys.Key.{key_eq}
use Rattle.idl_memo.specs.Fresh.{keys_at}
use Rattle.idl_root_blocks.specs.Blocks.{Block, Loose, Nothing, Pieces, text_in}
use Rattle.idl_root_blocks.specs.Met.{AreSame, Known, Met, MetBlock, MetUnit, alike_block, alike_unit, block_text_eq, compared, is_known, met_over, most_compared, most_shared_by, shared_by, unit_text_eq, with_block, with_part}
use Rattle.idl_root_blocks.specs.declared.text.BlockPart.{BlockPart as Part}
use Rattle.idl_root_blocks.specs.Places.{DeclarationPlace, block_at, block_query, blocks_over, declaration_at, declarations_over, facts_behind, facts_over, with_entering}

both : (a b : List Met) → compared (a ++ b) ≡ compared a + compared b
both a b = sum_by-append shared_by a b

pub met-loose : (known : Known) (facts : List UnitFacts) (part : Part) (pieces : Pieces)
    → compared (met_over known facts (Loose part pieces))
    ≡ compared (map (MetUnit known.declarations) (declaration_at facts part)) + compared (met_over (with_part known facts part) (facts_over facts (part ∷ [])) pieces)
unfolding met_over
met-loose known facts part pieces = both (map (MetUnit known.declarations) (declaration_at facts part)) (met_over (with_part known facts part) (facts_over facts (part ∷ [])) pieces)

add-zero : (n : ℕ) → n ≡ 0 + n
add-zero n = omega arith

-- what stands in a block, unless it is taken whole
within : (is_taken : Bool) (own behind : List Met) → compared ((if is_taken then [] else own) ++ behind) ≡ (if is_taken then 0 else compared own) + compared behind
within true own behind = add-zero (compared behind)
within false own behind = both own behind

pub met-block : (known : Known) (facts : List UnitFacts) (inside pieces : Pieces)
    → compared (met_over known facts (Block inside pieces))
    ≡ shared_by (MetBlock known.blocks (block_at facts inside))
    + ((if is_known known.blocks (block_at facts inside) then 0 else compared (met_over known (with_entering facts) inside))
    + compared (met_over (with_block known facts inside) (facts_behind facts inside) pieces))
unfolding met_over
met-block known facts inside pieces =
    let here = MetBlock known.blocks (block_at facts inside) in
    let own = met_over known (with_entering facts) inside in
    let behind = met_over (with_block known facts inside) (facts_behind facts inside) pieces in
    let taken = is_known known.blocks (block_at facts inside) in
    sum_by-cons shared_by here ((if taken then [] else own) ++ behind) ∙ ap (λ n. shared_by here + n) (within taken own behind)

-- no more than most
pub met-most : ((m : Met) → shared_by m ≤ most_shared_by m) → (met : List Met) → compared met ≤ most_compared met
met-most each [] = omega arith
met-most each (m ∷ met) =
    let here = each m in
    let later = met-most each met in
    let left = sum_by-cons shared_by m met in
    let right = sum_by-cons most_shared_by m met in
    omega (arith, here, later, left, right)

-- ---- which tasks are known

same-more : {P : Type 0} (test : P → Bool) (a b more : List P) → list_any test a ≡ list_any test b → list_any test (a ++ more) ≡ list_any test (b ++ more)
same-more test a b more h = list_any-append test a more ∙ ap (λ found. found || list_any test more) h ∙ sym (list_any-append test b more)

same-part : (known other : Known) (facts : List UnitFacts) (part : Part) → AreSame known other → AreSame (with_part known facts part) (with_part other facts part)
same-part known other facts part h = record {
  declarations = λ here. same-more (alike_unit here) known.declarations other.declarations (declaration_at facts part) (h.declarations here);
  blocks = h.blocks;
}

same-block : (known other : Known) (facts : List UnitFacts) (inside : Pieces) → AreSame known other → AreSame (with_block known facts inside) (with_block other facts inside)
same-block known other facts inside h = record {
  declarations = λ here. same-more (alike_unit here) known.declarations other.declarations (declarations_over (with_entering facts) (text_in inside)) (h.declarations here);
  blocks = λ here. same-more (alike_block here) known.blocks other.blocks (blocks_over (with_entering facts) inside ++ block_at facts inside ∷ []) (h.blocks here);
}

-- units that are met share as much
same-units : (a b : List DeclarationPlace) → ((here : DeclarationPlace) → list_any (alike_unit here) a ≡ list_any (alike_unit here) b) → (places : List DeclarationPlace)
    → compared (map (MetUnit a) places) ≡ compared (map (MetUnit b) places)
same-units a b h [] = refl
same-units a b h (here ∷ places) =
    let first : shared_by (MetUnit a here) ≡ shared_by (MetUnit b here) = ap (λ found. if found then keys_at unit_text_eq (option_eq answer_eq) unit_asks key_eq here else 0) (h here) in
    let rest = same-units a b h places in
    let left = sum_by-cons shared_by (MetUnit a here) (map (MetUnit a) places) in
    let right = sum_by-cons shared_by (MetUnit b here) (map (MetUnit b) places) in
    omega (arith, first, rest, left, right)

pub met-known : (pieces : Pieces) (known other : Known) (facts : List UnitFacts) → AreSame known other → compared (met_over known facts pieces) ≡ compared (met_over other facts pieces)
unfolding met_over
met-known Nothing known other facts h = refl
met-known (Loose part pieces) known other facts h =
    let here = same-units known.declarations other.declarations h.declarations (declaration_at facts part) in
    let rest = met-known pieces (with_part known facts part) (with_part other facts part) (facts_over facts (part ∷ [])) (same-part known other facts part h) in
    let left = met-loose known facts part pieces in
    let right = met-loose other facts part pieces in
    omega (arith, here, rest, left, right)
met-known (Block inside pieces) known other facts h =
    let found = h.blocks (block_at facts inside) in
    let here : shared_by (MetBlock known.blocks (block_at facts inside)) ≡ shared_by (MetBlock other.blocks (block_at facts inside)) =
    ap (λ found. if found then keys_at block_text_eq (option_eq answer_eq) block_query key_eq (block_at facts inside) else 0) found in
    let own = met-known inside known other (with_entering facts) h in
    let both_own : (if is_known known.blocks (block_at facts inside) then 0 else compared (met_over known (with_entering facts) inside))
    ≡ (if is_known other.blocks (block_at facts inside) then 0 else compared (met_over other (with_entering facts) inside)) =
    λ i. if found i then 0 else own i in
    let rest = met-known pieces (with_block known facts inside) (with_block other facts inside) (facts_behind facts inside) (same-block known other facts inside h) in
    let left = met-block known facts inside pieces in
    let right = met-block other facts inside pieces in
    omega (arith, here, both_own, rest, left, right)
