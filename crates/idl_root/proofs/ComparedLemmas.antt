-- What is compared, by which tasks are known.
use Rattle.std.proofs.Common.{◌≡◌, ◌+◌, Bool, true, false, ◌||◌, All, Contains, List, [], ◌∷◌, refl, subst, sym, ap}
use Rattle.std.proofs.lemmas.Bool.{false≢true}
use Rattle.std.proofs.lemmas.List.Elements.{All-head, All-tail, All-weaker}
use Rattle.std.specs.List.{list_any}
use Rattle.std.specs.Prelude.{IsTrue, sum_by}
use Rattle.idl_event.specs.declared.told.event.Event.{Event}
use Rattle.idl_root.specs.Compared.{AreSamePlaces, compared_root, entry_keys, root_keys, shared_entries}
use Rattle.idl_root.specs.Places.{EntryPlace, blocks_of, declarations_of, entries_of, root_pieces, root_text}
use Rattle.idl_root_blocks.proofs.Wholes.{any-passing}
use Rattle.idl_root_blocks.specs.Blocks.{text_in}
use Rattle.idl_root_blocks.specs.Met.{AreKnownAt, AreSame, Known, alike_block, alike_unit, compared, is_known, met_over, outermost_keys, with_pieces}
use Rattle.idl_root_blocks.specs.Places.{BlockPlace, DeclarationPlace, blocks_over, declarations_over}

-- ---- tests over the same places

-- what is among others passes there too
pub any-among : {P : Type 0} (test : P → Bool) (these those : List P) → All (Contains those) these → list_any test these ≡ true → list_any test those ≡ true
any-among test [] those h is = absurd (false≢true is)
any-among {P} test (x ∷ xs) those h is = by (test x) refl (any-among test xs those (All-tail (Contains those) x xs h)) is
  where
    by : (b : Bool) → test x ≡ b → (list_any test xs ≡ true → list_any test those ≡ true) → (b || list_any test xs) ≡ true → list_any test those ≡ true
    by true first rest is = any-passing test those x (All-head (Contains those) x xs h) first
    by false first rest is = rest is

-- tests that pass together are one
both-ways : (p q : Bool) → (p ≡ true → q ≡ true) → (q ≡ true → p ≡ true) → p ≡ q
both-ways true q there back = sym (there refl)
both-ways false true there back = back refl
both-ways false false there back = refl

pub any-same : {P : Type 0} (test : P → Bool) (these those : List P) → AreSamePlaces these those → list_any test these ≡ list_any test those
any-same test these those same =
    both-ways (list_any test these) (list_any test those) (any-among test these those same.0) (any-among test those these same.1)

-- the same tasks are known
pub known-same : (known other : Known) → AreSamePlaces known.declarations other.declarations → AreSamePlaces known.blocks other.blocks → AreSame known other
known-same known other declarations blocks = record {
  declarations = λ here. any-same (alike_unit here) known.declarations other.declarations declarations;
  blocks = λ here. any-same (alike_block here) known.blocks other.blocks blocks;
}

-- ---- a root whose tasks are all known

-- those that are among known ones are known where they stand
pub all-known : (known : Known) (events : List Event)
    → text_in (root_pieces events) ≡ root_text events → All (Contains known.declarations) (declarations_of events) → All (Contains known.blocks) (blocks_of events)
    → AreKnownAt (with_pieces (record { declarations = []; blocks = [] }) [] (root_pieces events)) [] (root_pieces events) → AreKnownAt known [] (root_pieces events)
unfolding declarations_of blocks_of
all-known known events whole declarations blocks own =
    let places : List DeclarationPlace = declarations_over [] (text_in (root_pieces events)) in
    let there : List BlockPlace = blocks_over [] (root_pieces events) in
    let among : All (Contains known.declarations) places = subst (All (Contains known.declarations)) (ap (declarations_over []) (sym whole)) declarations in
    record {
      units =
          All-weaker (λ here. IsTrue (list_any (alike_unit here) places)) (λ here. IsTrue (list_any (alike_unit here) known.declarations))
          (λ here is. any-among (alike_unit here) places known.declarations among is) places own.units;
      blocks =
          All-weaker (λ here. IsTrue (is_known there here)) (λ here. IsTrue (is_known known.blocks here))
          (λ here is. any-among (alike_block here) there known.blocks blocks is) there own.blocks;
    }

-- ---- the sum of a root

-- of its units and blocks, and of its names
pub root-same : (known other : Known) (these those : List EntryPlace) (events : List Event)
    → compared (met_over known [] (root_pieces events)) ≡ compared (met_over other [] (root_pieces events))
    → shared_entries these (entries_of events) ≡ shared_entries those (entries_of events)
    → compared_root known these events ≡ compared_root other those events
unfolding compared_root
root-same known other these those events texts names i = texts i + names i

pub root-known : (known : Known) (entries : List EntryPlace) (events : List Event)
    → compared (met_over known [] (root_pieces events)) ≡ outermost_keys [] (root_pieces events)
    → shared_entries entries (entries_of events) ≡ sum_by entry_keys (entries_of events)
    → compared_root known entries events ≡ root_keys events
unfolding compared_root root_keys
root-known known entries events texts names i = texts i + names i
