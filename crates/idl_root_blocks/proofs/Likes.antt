-- Texts of blocks, whatever units are around boundaries in them.
use Rattle.std.proofs.Common.{◌≡◌, ◌∙◌, ◌++◌, ℕ, true, false, List, [], ◌∷◌, flat_map, refl, sym, take, ap}
use Rattle.std.proofs.lemmas.List.{length-map, take-map}
use Rattle.std.specs.Cmp.{IsEquivalence, on_equiv}
use Rattle.std.specs.Cmp.Lexicographic.{pointwise}
use Rattle.std.specs.Hash as fed
use Rattle.idl_block.specs.Blocks.{Part as BlockStep, block}
use Rattle.idl_env.specs.declared.additions.addition.Step.{Step}
use Rattle.idl_env.specs.declared.additions.addition.Step.TheVariants.{Enters as EntersFile}
use Rattle.idl_env.specs.Facts.{boundary}
use Rattle.idl_root_blocks.specs.Blocks.{has_enclosed, part_of, part_writes, parts_of, plain_part, plain_text}
use Rattle.idl_root_blocks.specs.Met.{block_text_eq}
use Rattle.idl_root_blocks.specs.Places.{block_query, unit_ways}
use Rattle.idl_root_blocks.specs.contracts.text.BlockPartPartialEq.TheImpl.{ghosts as parts}
use Rattle.idl_root_blocks.specs.declared.text.BlockPart.{BlockPart as Part}
use Rattle.idl_root_blocks.specs.declared.text.BlockPart.TheVariants.{Text, Enters, Leaves}
use Rattle.idl_unit.specs.declared.unit.UnitText.{UnitText}

-- where none is around one, the text is so itself
pub plain-itself : (text : List Part) → has_enclosed text ≡ false → plain_text text ≡ text
plain-itself [] h = refl
plain-itself (Text unit ∷ text) h = ap (λ (t : List Part). Text unit ∷ t) (plain-itself text h)
plain-itself (Enters true ∷ text) h = cc
plain-itself (Enters false ∷ text) h = ap (λ (t : List Part). Enters false ∷ t) (plain-itself text h)
plain-itself (Leaves true ∷ text) h = cc
plain-itself (Leaves false ∷ text) h = ap (λ (t : List Part). Leaves false ∷ t) (plain-itself text h)

-- its parts do the same
plain-parts : (text : List Part) → parts_of (plain_text text) ≡ parts_of text
plain-parts [] = refl
plain-parts (Text unit ∷ text) = ap (λ (ps : List (BlockStep UnitText Step)). part_of (Text unit) ∷ ps) (plain-parts text)
plain-parts (Enters inside ∷ text) = ap (λ (ps : List (BlockStep UnitText Step)). part_of (Enters inside) ∷ ps) (plain-parts text)
plain-parts (Leaves inside ∷ text) = ap (λ (ps : List (BlockStep UnitText Step)). part_of (Leaves inside) ∷ ps) (plain-parts text)

-- and feed a hasher the same
plain-fed : (text : List Part) → flat_map part_writes (plain_text text) ≡ flat_map part_writes text
plain-fed [] = refl
plain-fed (Text unit ∷ text) = ap (λ (ws : List (List ℕ)). part_writes (Text unit) ++ ws) (plain-fed text)
plain-fed (Enters inside ∷ text) = ap (λ (ws : List (List ℕ)). part_writes (Enters inside) ++ ws) (plain-fed text)
plain-fed (Leaves inside ∷ text) = ap (λ (ws : List (List ℕ)). part_writes (Leaves inside) ++ ws) (plain-fed text)

plain-writes : (text : List Part) → fed.slice part_writes (plain_text text) ≡ fed.slice part_writes text
plain-writes text = λ i. fed.usize (length-map text plain_part i) ++ plain-fed text i

pub like-writes : (text other : List Part) → plain_text text ≡ plain_text other → fed.slice part_writes (take 8 text) ≡ fed.slice part_writes (take 8 other)
like-writes text other is =
    sym (plain-writes (take 8 text))
    ∙ ap (λ (t : List Part). fed.slice part_writes t) (sym (take-map plain_part 8 text) ∙ ap (λ (t : List Part). take 8 t) is ∙ take-map plain_part 8 other)
    ∙ plain-writes (take 8 other)

-- ---- texts that are equal so

pub like-equiv : IsEquivalence (pointwise parts.eq) → IsEquivalence block_text_eq
like-equiv equal = on_equiv plain_text equal

module _ (same : (x y : List Part) → pointwise parts.eq x y ≡ true → x ≡ y) where
  pub like-parts : (x y : List Part) → block_text_eq x y ≡ true → parts_of x ≡ parts_of y
  like-parts x y h = sym (plain-parts x) ∙ ap parts_of (same (plain_text x) (plain_text y) h) ∙ plain-parts y

  -- they ask the same
  pub like-query : (x y : List Part) → block_text_eq x y ≡ true → block_query x ≡ block_query y
  like-query x y h = ap (λ (ps : List (BlockStep UnitText Step)). block unit_ways ps (boundary EntersFile ∷ [])) (like-parts x y h)
