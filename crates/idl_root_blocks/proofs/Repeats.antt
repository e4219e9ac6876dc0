-- Where all tasks of pieces are known.
use Rattle.std.proofs.Common.{◌≡◌, ◌∙◌, ◌+◌, ℕ, Bool, true, false, List, [], ◌∷◌, ◌++◌, arith, map, refl, subst, sym, ap, if◌then◌else◌}
use Rattle.std.proofs.lemmas.List.Elements.{All-contains_itself, All-head, All-tail, All-weaker, Contains-append_right}
use Rattle.std.proofs.lemmas.List.Folds.{list_any-append}
use Rattle.std.proofs.lemmas.List.Sums.{sum_by-cons}
use Rattle.std.specs.List.{list_any}
use Rattle.std.specs.Prelude.{All, Contains, IsTrue, sum_by}
use Rattle.idl_block.proofs.OuterLaws.{All-left, All-right}
use Rattle.idl_env.specs.Facts.{UnitFacts}
use Rattle.idl_block.proofs.FactLaws.Seen.Covers.{or-left}
use Rattle.idl_root_blocks.proofs.Meets.{met-block, met-loose}
use Rattle.idl_root_blocks.proofs.Wholes.{any-passing, blocks-block, blocks-loose, declarations-block, declarations-first}
use Rattle.idl_root_blocks.specs.Blocks.{Block, Loose, Nothing, Pieces, text_in}
use Rattle.idl_root_blocks.specs.Met.{AreKnownAt, Known, MetBlock, MetUnit, alike_block, alike_unit, block_keys, compared, is_known, met_over, outermost_keys, shared_by, unit_keys, with_block, with_part, with_pieces}
use Rattle.idl_root_blocks.specs.Places.{BlockPlace, DeclarationPlace, block_at, blocks_over, declaration_at, declarations_over, facts_behind, facts_over, with_entering}

-- ---- more is known

any-more : {P : Type 0} (test : P → Bool) (a more : List P) → list_any test a ≡ true → list_any test (a ++ more) ≡ true
any-more test a more h = list_any-append test a more ∙ or-left (list_any test a) (list_any test more) h

pub known-more : (known : Known) (units : List DeclarationPlace) (blocks : List BlockPlace) (facts : List UnitFacts) (pieces : Pieces) → AreKnownAt known facts pieces
    → AreKnownAt (record { declarations = known.declarations ++ units; blocks = known.blocks ++ blocks }) facts pieces
known-more known units blocks facts pieces h = record {
  units =
      All-weaker (λ here. IsTrue (list_any (alike_unit here) known.declarations)) (λ here. IsTrue (list_any (alike_unit here) (known.declarations ++ units)))
      (λ here is. any-more (alike_unit here) known.declarations units is) (declarations_over facts (text_in pieces)) h.units;
  blocks =
      All-weaker (λ here. IsTrue (is_known known.blocks here)) (λ here. IsTrue (is_known (known.blocks ++ blocks) here))
      (λ here is. any-more (alike_block here) known.blocks blocks is) (blocks_over facts pieces) h.blocks;
}

-- what is known is known where it stands
pub known-itself : ((here : DeclarationPlace) → alike_unit here here ≡ true) → ((here : BlockPlace) → alike_block here here ≡ true)
    → (known : Known) (facts : List UnitFacts) (pieces : Pieces) → AreKnownAt (with_pieces known facts pieces) facts pieces
known-itself units blocks known facts pieces =
    let places : List DeclarationPlace = declarations_over facts (text_in pieces) in
    let there : List BlockPlace = blocks_over facts pieces in
    record {
      units =
          All-weaker (Contains places) (λ here. IsTrue (list_any (alike_unit here) (known.declarations ++ places)))
          (λ here h. any-passing (alike_unit here) (known.declarations ++ places) here (Contains-append_right known.declarations places here h) (units here)) places (All-contains_itself places);
      blocks =
          All-weaker (Contains there) (λ here. IsTrue (is_known (known.blocks ++ there) here))
          (λ here h. any-passing (alike_block here) (known.blocks ++ there) here (Contains-append_right known.blocks there here h) (blocks here)) there (All-contains_itself there);
    }

-- ---- what is compared

chosen : (b : Bool) (n : ℕ) → b ≡ true → (if b then n else 0) ≡ n
chosen true n h = refl
chosen false n h = cc

neither : (b : Bool) (n : ℕ) → b ≡ true → (if b then 0 else n) ≡ 0
neither true n h = refl
neither false n h = cc

units-shared : (known places : List DeclarationPlace) → All (λ here. IsTrue (list_any (alike_unit here) known)) places → compared (map (MetUnit known) places) ≡ sum_by unit_keys places
units-shared known [] h = refl
units-shared known (here ∷ places) h =
    let P : DeclarationPlace → Type 0 = λ here. IsTrue (list_any (alike_unit here) known) in
    let first : shared_by (MetUnit known here) ≡ unit_keys here = chosen (list_any (alike_unit here) known) (unit_keys here) (All-head P here places h) in
    let rest = units-shared known places (All-tail P here places h) in
    sum_by-cons shared_by (MetUnit known here) (map (MetUnit known) places) ∙ (λ i. first i + rest i) ∙ sym (sum_by-cons unit_keys here places)

met-none : (known : Known) (facts : List UnitFacts) → compared (met_over known facts Nothing) ≡ 0
unfolding met_over
met-none known facts = refl

pub compared-known : (pieces : Pieces) (known : Known) (facts : List UnitFacts) → AreKnownAt known facts pieces → compared (met_over known facts pieces) ≡ outermost_keys facts pieces
compared-known Nothing known facts h = met-none known facts
compared-known (Loose part pieces) known facts h =
    let next : List UnitFacts = facts_over facts (part ∷ []) in
    let here : List DeclarationPlace = declaration_at facts part in
    let P : DeclarationPlace → Type 0 = λ here. IsTrue (list_any (alike_unit here) known.declarations) in
    let Q : BlockPlace → Type 0 = λ here. IsTrue (is_known known.blocks here) in
    let units : All P (here ++ declarations_over next (text_in pieces)) = subst (All P) (declarations-first part (text_in pieces) facts) h.units in
    let later : AreKnownAt known next pieces = record {
      units = All-right P here (declarations_over next (text_in pieces)) units;
      blocks = subst (All Q) (blocks-loose part pieces facts) h.blocks;
    } in
    let more : AreKnownAt (with_part known facts part) next pieces = record { units = (known-more known here [] next pieces later).units; blocks = later.blocks } in
    let first = units-shared known.declarations here (All-left P here (declarations_over next (text_in pieces)) units) in
    let rest = compared-known pieces (with_part known facts part) next more in
    met-loose known facts part pieces ∙ (λ i. first i + rest i)
compared-known (Block inside pieces) known facts h =
    let own : List DeclarationPlace = declarations_over (with_entering facts) (text_in inside) in
    let end : List UnitFacts = facts_behind facts inside in
    let inner : List BlockPlace = blocks_over (with_entering facts) inside in
    let here : BlockPlace = block_at facts inside in
    let P : DeclarationPlace → Type 0 = λ here. IsTrue (list_any (alike_unit here) known.declarations) in
    let Q : BlockPlace → Type 0 = λ here. IsTrue (is_known known.blocks here) in
    let blocks : All Q (inner ++ here ∷ blocks_over end pieces) = subst (All Q) (blocks-block inside pieces facts) h.blocks in
    let behind : All Q (here ∷ blocks_over end pieces) = All-right Q inner (here ∷ blocks_over end pieces) blocks in
    let later : AreKnownAt known end pieces = record {
      units = All-right P own (declarations_over end (text_in pieces)) (subst (All P) (declarations-block inside pieces facts) h.units);
      blocks = All-tail Q here (blocks_over end pieces) behind;
    } in
    let is : is_known known.blocks here ≡ true = All-head Q here (blocks_over end pieces) behind in
    let first : shared_by (MetBlock known.blocks here) ≡ block_keys here = chosen (is_known known.blocks here) (block_keys here) is in
    let none = neither (is_known known.blocks here) (compared (met_over known (with_entering facts) inside)) is in
    let rest = compared-known pieces (with_block known facts inside) end (known-more known own (inner ++ here ∷ []) end pieces later) in
    met-block known facts inside pieces ∙ (λ i. first i + (none i + rest i)) ∙ ap (λ n. block_keys here + n) (zero-more (outermost_keys end pieces))
  where
    zero-more : (n : ℕ) → 0 + n ≡ n
    zero-more n = omega arith
