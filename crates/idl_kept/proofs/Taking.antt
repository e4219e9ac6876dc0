-- A block is taken whole: what is kept of it stands in another root, or draft, too.
use Rattle.std.proofs.Common.{◌≡◌, ◌∙◌, ◌+◌, ◌-◌, ◌<◌, ◌≤◌, ℕ, List, [], ◌∷◌, ◌++◌, Some, arith, drop, length, map, min, slice_get, subst, sym, take, ap}
use Rattle.std.proofs.lemmas.List.{drop-map, length-drop, length-map, length-take, map-append, take-map}
use Rattle.std.proofs.lemmas.Option.{same_Some, slice_get-map, slice_get_within}
use Rattle.std.specs.Option.{option_map}
use Rattle.idl_kept.proofs.Begins.{count-begins, count-inner_results, count-unit_results, is-inner, moved-begins, moved-first}
use Rattle.idl_kept.proofs.Lists.{Before, IsAt, Later, There, get-behind, get-part, is-at, part-behind, part-inside, part-next}
use Rattle.idl_kept.proofs.Roots.{HasMore, are-whole}
use Rattle.idl_kept.specs.Texts.{AreWhole, BlockResult, DeclarationResult, IsWhole, RootTexts, begins_in, inner_results, moved, unit_results}
use Rattle.idl_root_blocks.proofs.Cuts.{cut-one}
use Rattle.idl_root_blocks.specs.Blocks.{AreCut, Pieces, cut, text_in}
use Rattle.idl_root_blocks.specs.Finding.{blocks_in, texts_in}
use Rattle.idl_root_blocks.specs.Places.{with_entering}

-- ---- one text is cut in one way

pub same-pieces : (one other : Pieces) → AreCut one → AreCut other → text_in one ≡ text_in other → one ≡ other
same-pieces one other cut_one cut_other same = sym (cut-one one cut_one) ∙ ap cut same ∙ cut-one other cut_other

-- the pieces of a block that is whole are those of its text
pub text-whole : (root : RootTexts) (place : ℕ) (kept : BlockResult) (w : IsWhole root place kept) → kept.text ≡ text_in w.inside
text-whole root place kept w = ap (λ (k : BlockResult). k.text) w.result

pub pieces-whole : (root : RootTexts) (place : ℕ) (kept : BlockResult) (w : IsWhole root place kept) (inside : Pieces) → AreCut inside → kept.text ≡ text_in inside → w.inside ≡ inside
pieces-whole root place kept w inside cut is = same-pieces w.inside inside w.placed.cut cut (sym (text-whole root place kept w) ∙ is)

-- how many units and blocks are in it
pub units-whole : (root : RootTexts) (place : ℕ) (kept : BlockResult) (w : IsWhole root place kept) → length (unit_results w.before w.inside) ≡ texts_in kept.text
units-whole root place kept w = count-unit_results w.before w.inside ∙ ap texts_in (sym (text-whole root place kept w))

pub inner-whole : (root : RootTexts) (place : ℕ) (kept : BlockResult) (w : IsWhole root place kept) → length (inner_results w.before w.inside) ≡ blocks_in (cut kept.text)
inner-whole root place kept w =
    count-inner_results w.before w.inside
    ∙ ap blocks_in (sym (cut-one w.inside w.placed.cut) ∙ ap cut (sym (text-whole root place kept w)))

-- ---- what is taken

-- This root has a block at a place: the results of its units, so many from a place on, and so many blocks before it.
module _ (source : RootTexts) (are : AreWhole source) (place : ℕ) (kept : BlockResult) (w : IsWhole source place kept) (there : slice_get source.blocks place ≡ Some kept) where
  abbrev pub units : ℕ
  units = length (unit_results w.before w.inside)

  abbrev pub inner : ℕ
  inner = length (inner_results w.before w.inside)

  -- the first block in it, or itself where there is none
  abbrev pub first : ℕ
  first = place - inner

  pub begins_long : length (begins_in w.begin w.inside) ≡ inner
  begins_long = count-begins w.begin w.inside ∙ sym (count-inner_results w.before w.inside)

  pub begins_part : take inner (drop first source.begins) ≡ begins_in w.begin w.inside
  begins_part = subst (λ (n : ℕ). take n (drop (place - n) source.begins) ≡ begins_in w.begin w.inside) begins_long w.begins

  at-last : first + inner ≡ place
  at-last = omega (arith, w.after)

  -- ---- where what is kept of a block in it stands

  -- its units are among those of the block, and the blocks in it before it
  record IsAmong (n : ℕ) (other : BlockResult) (v : IsWhole source (first + n) other) : Type 0 where
    from : w.begin ≤ v.begin
    within : v.begin + length (unit_results v.before v.inside) ≤ w.begin + units
    after : length (inner_results v.before v.inside) ≤ n

  module _ (n : ℕ) (other : BlockResult) (v : IsWhole source (first + n) other) (h : slice_get source.blocks (first + n) ≡ Some other) where
    among-inner : n < inner → IsAmong n other v
    among-inner below =
        let result : slice_get (inner_results w.before w.inside) n ≡ Some other =
        ap (λ (ks : List BlockResult). slice_get ks n) (sym w.inner) ∙ get-part source.blocks first inner n below ∙ h in
        let number : slice_get (begins_in w.begin w.inside) n ≡ Some v.begin =
        ap (λ (ns : List ℕ). slice_get ns n) (sym begins_part) ∙ get-part source.begins first inner n below ∙ v.begins_at in
        let own = is-inner w.inside (with_entering w.before) w.begin n other v.begin w.placed.cut result number in
        let same : v.inside ≡ own.inside = pieces-whole source (first + n) other v own.inside own.cut own.text_is in
        let texts = count-unit_results v.before v.inside ∙ ap (λ (p : Pieces). texts_in (text_in p)) same in
        let blocks = count-inner_results v.before v.inside ∙ ap blocks_in same in
        let all = count-unit_results w.before w.inside in
        record {
          from = own.from;
          within = omega (arith, own.within, texts, all);
          after = omega (arith, own.after, blocks);
        }

    among-last : n ≡ inner → IsAmong n other v
    among-last is =
        let at : first + n ≡ place = omega (arith, is, at-last) in
        let same : kept ≡ other = same_Some kept other (sym there ∙ ap (slice_get source.blocks) (sym at) ∙ h) in
        let begin : w.begin ≡ v.begin = same_Some w.begin v.begin (sym w.begins_at ∙ ap (slice_get source.begins) (sym at) ∙ v.begins_at) in
        let pieces : v.inside ≡ w.inside =
        pieces-whole source (first + n) other v w.inside w.placed.cut (ap (λ (k : BlockResult). k.text) (sym same) ∙ text-whole source place kept w) in
        let texts = count-unit_results v.before v.inside ∙ ap (λ (p : Pieces). texts_in (text_in p)) pieces ∙ sym (count-unit_results w.before w.inside) in
        let blocks = count-inner_results v.before v.inside ∙ ap blocks_in pieces ∙ sym (count-inner_results w.before w.inside) in
        record {
          from = omega (arith, begin);
          within = omega (arith, begin, texts);
          after = omega (arith, is, blocks);
        }

    is-among : IsAt inner n → n < inner + 1 → IsAmong n other v
    is-among (Before below) within = among-inner below
    is-among (There is) within = among-last is
    is-among (Later m is) within = absurd (omega (arith, is, within))

  -- ---- what comes behind what another root, or draft, has

  module _ (target : RootTexts) where
    -- where the units come
    abbrev pub to : ℕ
    to = length target.units

    abbrev pub more_units : List DeclarationResult
    more_units = take units (drop w.begin source.units)

    abbrev pub more_blocks : List BlockResult
    more_blocks = take (inner + 1) (drop first source.blocks)

    abbrev pub part_begins : List ℕ
    part_begins = take (inner + 1) (drop first source.begins)

    abbrev pub more_begins : List ℕ
    more_begins = map (moved w.begin to) part_begins

    module _ (aligned : length target.begins ≡ length target.blocks) (new : RootTexts) (more : HasMore target new more_units more_blocks more_begins)
        (n : ℕ) (other : BlockResult) (below : n < inner + 1) (v : IsWhole source (first + n) other) (among : IsAmong n other v) where
      abbrev there_begin : ℕ
      there_begin = moved w.begin to v.begin

      abbrev there_place : ℕ
      there_place = length target.blocks + n

      begin-there : slice_get new.begins there_place ≡ Some there_begin
      begin-there =
          let at : there_place ≡ length target.begins + n = omega (arith, aligned) in
          ap (λ (ns : List ℕ). slice_get ns there_place) more.begins_are
          ∙ ap (slice_get (target.begins ++ more_begins)) at
          ∙ get-behind target.begins more_begins n
          ∙ slice_get-map (moved w.begin to) part_begins n
          ∙ ap (option_map (moved w.begin to)) (get-part source.begins first (inner + 1) n below ∙ v.begins_at)

      units-there : take (length (unit_results v.before v.inside)) (drop there_begin new.units) ≡ unit_results v.before v.inside
      units-there =
          let count = length (unit_results v.before v.inside) in
          let at : there_begin ≡ to + (v.begin - w.begin) = omega (arith, among.from) in
          let fits : v.begin - w.begin + count ≤ units = omega (arith, among.from, among.within) in
          let back : w.begin + (v.begin - w.begin) ≡ v.begin = omega (arith, among.from) in
          ap (λ (xs : List DeclarationResult). take count (drop there_begin xs)) more.units_are
          ∙ part-behind target.units more_units there_begin (v.begin - w.begin) count at
          ∙ part-inside source.units w.begin units (v.begin - w.begin) count fits
          ∙ ap (λ (p : ℕ). take count (drop p source.units)) back
          ∙ v.units

      inner-there : take (length (inner_results v.before v.inside)) (drop (there_place - length (inner_results v.before v.inside)) new.blocks) ≡ inner_results v.before v.inside
      inner-there =
          let count = length (inner_results v.before v.inside) in
          let at : there_place - count ≡ length target.blocks + (n - count) = omega (arith, among.after) in
          let fits : n - count + count ≤ inner + 1 = omega (arith, among.after, below) in
          let back : first + (n - count) ≡ first + n - count = omega (arith, among.after) in
          ap (λ (xs : List BlockResult). take count (drop (there_place - count) xs)) more.blocks_are
          ∙ part-behind target.blocks more_blocks (there_place - count) (n - count) count at
          ∙ part-inside source.blocks first (inner + 1) (n - count) count fits
          ∙ ap (λ (p : ℕ). take count (drop p source.blocks)) back
          ∙ v.inner

      begins-there : let numbers = begins_in there_begin v.inside in take (length numbers) (drop (there_place - length numbers) new.begins) ≡ numbers
      begins-there =
          let numbers = begins_in v.begin v.inside in
          let count = length numbers in
          let same : map (moved w.begin to) numbers ≡ begins_in there_begin v.inside = moved-begins w.begin to v.begin v.inside among.from in
          let long : length numbers ≡ length (inner_results v.before v.inside) = count-begins v.begin v.inside ∙ sym (count-inner_results v.before v.inside) in
          let as_long : count ≡ length (begins_in there_begin v.inside) = count-begins v.begin v.inside ∙ sym (count-begins there_begin v.inside) in
          let at : there_place - count ≡ length target.begins + (n - count) = omega (arith, among.after, long, aligned) in
          let fits : n - count + count ≤ inner + 1 = omega (arith, among.after, long, below) in
          let back : first + (n - count) ≡ first + n - count = omega (arith, among.after, long) in
          let part : take count (drop (there_place - count) new.begins) ≡ begins_in there_begin v.inside =
          ap (λ (xs : List ℕ). take count (drop (there_place - count) xs)) more.begins_are
          ∙ part-behind target.begins more_begins (there_place - count) (n - count) count at
          ∙ ap (take count) (drop-map (moved w.begin to) (n - count) part_begins)
          ∙ take-map (moved w.begin to) count (drop (n - count) part_begins)
          ∙ ap (map (moved w.begin to))
          (part-inside source.begins first (inner + 1) (n - count) count fits
          ∙ ap (λ (p : ℕ). take count (drop p source.begins)) back
          ∙ v.begins)
          ∙ same in
          subst (λ (m : ℕ). take m (drop (there_place - m) new.begins) ≡ begins_in there_begin v.inside) as_long part

      whole-there : IsWhole new there_place other
      whole-there = record {
        begin = there_begin;
        begins_at = begin-there;
        before = v.before;
        inside = v.inside;
        placed = v.placed;
        result = v.result;
        units = units-there;
        after = omega (arith, among.after);
        inner = inner-there;
        begins = begins-there;
      }

    long-parts : length more_begins ≡ length more_blocks
    long-parts =
        length-map part_begins (moved w.begin to)
        ∙ length-take (inner + 1) (drop first source.begins)
        ∙ ap (min (inner + 1)) (length-drop first source.begins ∙ ap (λ (n : ℕ). n - first) are.long ∙ sym (length-drop first source.blocks))
        ∙ sym (length-take (inner + 1) (drop first source.blocks))

    within-part : (n : ℕ) (other : BlockResult) → slice_get more_blocks n ≡ Some other → n < inner + 1
    within-part n other h =
        let in_part = slice_get_within more_blocks n other h in
        let long = length-take (inner + 1) (drop first source.blocks) in
        omega (arith, in_part, long)

    -- it is whole there, and so is each block in it
    pub block-taken : AreWhole target → (new : RootTexts) → HasMore target new more_units more_blocks more_begins → AreWhole new
    block-taken whole new more =
        are-whole target new more_units more_blocks more_begins more whole long-parts
        (λ n other h.
        let below = within-part n other h in
        let at : slice_get source.blocks (first + n) ≡ Some other = sym (get-part source.blocks first (inner + 1) n below) ∙ h in
        let v = are.whole (first + n) other at in
        whole-there whole.long new more n other below v (is-among n other v at (is-at inner n) below))

    -- what comes is what is kept of it
    pub taken-blocks : more_blocks ≡ inner_results w.before w.inside ++ kept ∷ []
    taken-blocks =
        sym (part-next source.blocks first inner kept (ap (slice_get source.blocks) at-last ∙ there))
        ∙ ap (λ (ks : List BlockResult). ks ++ kept ∷ []) w.inner

    pub taken-begins : more_begins ≡ begins_in to w.inside ++ to ∷ []
    taken-begins =
        let move = moved w.begin to in
        let first_moved : move w.begin ≡ to = moved-first w.begin to in
        ap (map move)
        (sym (part-next source.begins first inner w.begin (ap (slice_get source.begins) at-last ∙ w.begins_at))
        ∙ ap (λ (ns : List ℕ). ns ++ w.begin ∷ []) begins_part)
        ∙ map-append move (begins_in w.begin w.inside) (w.begin ∷ [])
        ∙ (λ i. (moved-begins w.begin to w.begin w.inside (omega arith) ∙ ap (λ (n : ℕ). begins_in n w.inside) first_moved) i ++ first_moved i ∷ [])
