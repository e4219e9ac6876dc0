-- Which tasks of a root's units are met at an edit: the blocks and units that stand in no block, and
-- those directly inside a block that is met and to which no known one is alike.
use Rattle.std.specs.Prelude.{◌≡◌, ℕ, ◌+◌, Bool, List, [], ◌∷◌, ◌++◌, Option, All, Contains, IsTrue, map, sum_by, if◌then◌else◌}
use Rattle.std.specs.Cmp.Lexicographic.{pointwise}
use Rattle.std.specs.List.{list_any}
use Rattle.std.specs.Option.{option_eq}
use Rattle.idl_root_blocks.specs.verdicts.Standing.{unit_asks}
use Rattle.idl_env.specs.Facts.{UnitFacts}
use Rattle.idl_env.specs.SameAnswer.{answer_eq}
use Rattle.idl_env.specs.keys.Key.{key_eq}
use Rattle.idl_env.specs.declared.answering.answer.Answer.{Answer}
use Rattle.idl_env.specs.declared.keys.key.Key.{Key}
use Rattle.idl_memo.specs.Fresh.{is_alike, keys_at, most_shared_at, shared_at}
use Rattle.idl_memo.specs.Kept.{IsAlike, Kept}
use Rattle.idl_root_blocks.specs.Blocks.{Block, IsOfBlock, Loose, Nothing, Pieces, plain_text, text_in}
use Rattle.idl_root_blocks.specs.Places.{BlockPlace, DeclarationPlace, Stands, block_at, block_query, blocks_over, declaration_at, declarations_over, facts_behind, facts_over, with_entering}
use Rattle.idl_root_blocks.specs.contracts.text.BlockPartPartialEq.TheImpl.{ghosts as parts}
use Rattle.idl_root_blocks.specs.declared.text.BlockPart.{BlockPart}
use Rattle.idl_unit.specs.contracts.unit.UnitTextPartialEq.TheImpl.{ghosts as units}
use Rattle.idl_unit.specs.declared.unit.UnitText.{UnitText}

-- whether two units have one text, and two blocks, whatever units are around boundaries in these
abbrev pub unit_text_eq : UnitText → UnitText → Bool
unit_text_eq = units.eq

abbrev pub block_text_eq : List BlockPart → List BlockPart → Bool
block_text_eq text other = pointwise parts.eq (plain_text text) (plain_text other)

-- tasks that are known: those of an earlier project, and those of earlier places of this one
pub record Known : Type 0 where
  pub declarations : List DeclarationPlace
  pub blocks : List BlockPlace

-- with that of a part behind facts, and with those of a block there and all that stands in it
abbrev pub with_part : Known → List UnitFacts → BlockPart → Known
with_part known facts part =
    record known { declarations = known.declarations ++ declaration_at facts part }

abbrev pub with_block : Known → List UnitFacts → Pieces → Known
with_block known facts inside = record {
  declarations =
      known.declarations ++ declarations_over (with_entering facts) (text_in inside);
  blocks = known.blocks ++ (blocks_over (with_entering facts) inside ++ block_at facts inside ∷ []);
}

-- with those of all units and blocks among pieces behind facts
abbrev pub with_pieces : Known → List UnitFacts → Pieces → Known
with_pieces known facts pieces = record {
  declarations = known.declarations ++ declarations_over facts (text_in pieces);
  blocks = known.blocks ++ blocks_over facts pieces;
}

-- a block that stood somewhere, of which each unit is among known tasks
pub record IsKnownWhole (known : Known) (block : BlockPlace) : Type 0 where
  pub before : List UnitFacts
  pub inside : Pieces
  pub stood : block ≡ block_at before inside
  pub is_block : IsOfBlock (text_in inside)
  pub standing : Stands before (text_in inside)
  pub units : All (Contains known.declarations)
      (declarations_over (with_entering before) (text_in inside))

-- so it is with each block that is known
abbrev pub AreKnownWhole : Known → Type 0
AreKnownWhole known = All (IsKnownWhole known) known.blocks

-- whether a task is alike at the place of a unit, and at that of a block
abbrev pub alike_unit : DeclarationPlace → DeclarationPlace → Bool
alike_unit here task = is_alike unit_text_eq (option_eq answer_eq) unit_asks here task

abbrev pub alike_block : BlockPlace → BlockPlace → Bool
alike_block here task = is_alike block_text_eq (option_eq answer_eq) block_query here task

-- what is kept of a block is alike at the place of one
abbrev pub IsLike : BlockPlace → Kept Key (Option Answer) (List BlockPart) (Unit {0}) → Type 0
IsLike here kept =
    IsAlike (plain_text here.0) here.1 (record kept { text = plain_text kept.text })

-- whether one of these blocks is
abbrev pub is_known : List BlockPlace → BlockPlace → Bool
is_known known here = list_any (alike_block here) known

-- a known task is alike at each unit and each block among pieces behind facts
pub record AreKnownAt (known : Known) (facts : List UnitFacts) (pieces : Pieces) : Type 0 where
  pub units : All (λ here. IsTrue (list_any (alike_unit here) known.declarations))
      (declarations_over facts (text_in pieces))
  pub blocks : All (λ here. IsTrue (is_known known.blocks here)) (blocks_over facts pieces)

-- the same tasks are known, in whatever order and however often
pub record AreSame (known other : Known) : Type 0 where
  pub declarations : (here : DeclarationPlace)
      → list_any (alike_unit here) known.declarations
      ≡ list_any (alike_unit here) other.declarations
  pub blocks : (here : BlockPlace) → is_known known.blocks here ≡ is_known other.blocks here

-- a place that is met, beside the tasks of its kind that are known there
pub data Met : Type 0 where
  MetUnit : List DeclarationPlace → DeclarationPlace → Met
  MetBlock : List BlockPlace → BlockPlace → Met

-- the places that are met among pieces behind facts, where these tasks are known
unfoldable pub met_over : Known → List UnitFacts → Pieces → List Met
met_over known facts Nothing = []
met_over known facts (Loose part pieces) =
    map (MetUnit known.declarations) (declaration_at facts part)
    ++ met_over (with_part known facts part) (facts_over facts (part ∷ [])) pieces
met_over known facts (Block inside pieces) =
    MetBlock known.blocks (block_at facts inside)
    ∷ ((if is_known known.blocks (block_at facts inside) then []
    else met_over known (with_entering facts) inside)
    ++ met_over (with_block known facts inside) (facts_behind facts inside) pieces)

-- how many keys a known task asked that is alike at a place that is met: nothing where none is
abbrev pub shared_by : Met → ℕ
shared_by (MetUnit known here) =
    shared_at unit_text_eq (option_eq answer_eq) unit_asks key_eq known here
shared_by (MetBlock known here) =
    shared_at block_text_eq (option_eq answer_eq) block_query key_eq known here

-- and how many all known ones of its text asked, each task once
abbrev pub most_shared_by : Met → ℕ
most_shared_by (MetUnit known here) =
    most_shared_at unit_text_eq (option_eq answer_eq) unit_asks key_eq known here
most_shared_by (MetBlock known here) =
    most_shared_at block_text_eq (option_eq answer_eq) block_query key_eq known here

-- at how many keys known tasks are compared at places that are met, and no more than which
abbrev pub compared : List Met → ℕ
compared met = sum_by shared_by met

abbrev pub most_compared : List Met → ℕ
most_compared met = sum_by most_shared_by met

-- how many keys a unit asks where it stands, and a block
abbrev pub unit_keys : DeclarationPlace → ℕ
unit_keys here = keys_at unit_text_eq (option_eq answer_eq) unit_asks key_eq here

abbrev pub block_keys : BlockPlace → ℕ
block_keys here = keys_at block_text_eq (option_eq answer_eq) block_query key_eq here

-- how many those among pieces ask that stand in no block of theirs
abbrev pub outermost_keys : List UnitFacts → Pieces → ℕ
outermost_keys facts Nothing = 0
outermost_keys facts (Loose part pieces) =
    sum_by unit_keys (declaration_at facts part)
    + outermost_keys (facts_over facts (part ∷ [])) pieces
outermost_keys facts (Block inside pieces) =
    block_keys (block_at facts inside) + outermost_keys (facts_behind facts inside) pieces
