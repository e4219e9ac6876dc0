-- The units and blocks of pieces, and where they begin.
use Rattle.std.proofs.Common.{◌≡◌, ◌∙◌, ◌+◌, ◌<◌, ◌≤◌, ℕ, suc, false, List, [], ◌∷◌, ◌++◌, Some, arith, length, map, refl, slice_get, sym, ap}
use Rattle.std.proofs.lemmas.List.{length-append, length-map, map-append}
use Rattle.std.proofs.lemmas.List.Elements.{All-append, All-cons, All-nil, All-weaker}
use Rattle.std.proofs.lemmas.List.Sums.{sum_by-append, sum_by-cons}
use Rattle.std.proofs.lemmas.Option.{same_Some}
use Rattle.std.specs.Prelude.{All}
use Rattle.idl_env.specs.Facts.{UnitFacts}
use Rattle.idl_kept.proofs.Lists.{Before, IsAt, Later, There, get-behind, get-front, is-at}
use Rattle.idl_kept.specs.Texts.{BlockResult, begins_in, inner_results, moved, unit_results}
use Rattle.idl_root_blocks.specs.Blocks.{AreCut, Block, Loose, Nothing, Pieces, text_in}
use Rattle.idl_root_blocks.specs.Finding.{blocks_in, one_text, texts_in}
use Rattle.idl_root_blocks.specs.Places.{BlockPlace, block_at, block_result, blocks_over, declaration_result, declarations_over, facts_behind, facts_over, with_entering}
use Rattle.idl_root_blocks.specs.declared.text.BlockPart.{BlockPart}
use Rattle.idl_root_blocks.specs.declared.text.BlockPart.TheVariants.{Text, Enters, Leaves}

-- ---- how many there are

-- in a text, the first part and those behind it
pub texts-first : (part : BlockPart) (text : List BlockPart) → texts_in (part ∷ text) ≡ one_text part + texts_in text
texts-first part text = sum_by-cons one_text part text

pub count-units : (facts : List UnitFacts) (text : List BlockPart) → length (declarations_over facts text) ≡ texts_in text
unfolding declarations_over
count-units facts [] = refl
count-units facts (Text unit ∷ text) =
    let one : (n : ℕ) → suc n ≡ 1 + n = λ n. omega arith in
    ap (λ (n : ℕ). suc n) (count-units (facts_over facts (Text unit ∷ [])) text) ∙ one (texts_in text) ∙ sym (texts-first (Text unit) text)
count-units facts (Enters inside ∷ text) =
    let none : (n : ℕ) → n ≡ 0 + n = λ n. omega arith in
    count-units (facts_over facts (Enters inside ∷ [])) text ∙ none (texts_in text) ∙ sym (texts-first (Enters inside) text)
count-units facts (Leaves inside ∷ text) =
    let none : (n : ℕ) → n ≡ 0 + n = λ n. omega arith in
    count-units (facts_over facts (Leaves inside ∷ [])) text ∙ none (texts_in text) ∙ sym (texts-first (Leaves inside) text)

pub count-blocks : (facts : List UnitFacts) (pieces : Pieces) → length (blocks_over facts pieces) ≡ blocks_in pieces
unfolding blocks_over
count-blocks facts Nothing = refl
count-blocks facts (Loose part pieces) = count-blocks (facts_over facts (part ∷ [])) pieces
count-blocks facts (Block inside pieces) =
    let inner : List BlockPlace = blocks_over (with_entering facts) inside in
    let later : List BlockPlace = blocks_over (facts_behind facts inside) pieces in
    length-append inner (block_at facts inside ∷ later)
    ∙ (λ i. count-blocks (with_entering facts) inside i + suc (count-blocks (facts_behind facts inside) pieces i))

pub count-begins : (first : ℕ) (pieces : Pieces) → length (begins_in first pieces) ≡ blocks_in pieces
count-begins first Nothing = refl
count-begins first (Loose part pieces) = count-begins (first + one_text part) pieces
count-begins first (Block inside pieces) =
    let behind : ℕ = first + texts_in (text_in inside) in
    length-append (begins_in first inside) (first ∷ begins_in behind pieces)
    ∙ (λ i. count-begins first inside i + suc (count-begins behind pieces i))

pub count-unit_results : (before : List UnitFacts) (inside : Pieces) → length (unit_results before inside) ≡ texts_in (text_in inside)
count-unit_results before inside =
    length-map (declarations_over (with_entering before) (text_in inside)) declaration_result
    ∙ count-units (with_entering before) (text_in inside)

pub count-inner_results : (before : List UnitFacts) (inside : Pieces) → length (inner_results before inside) ≡ blocks_in inside
count-inner_results before inside =
    length-map (blocks_over (with_entering before) inside) block_result ∙ count-blocks (with_entering before) inside

-- a block has those inside it and those behind it
pub texts-block : (inside pieces : Pieces) → texts_in (text_in (Block inside pieces)) ≡ texts_in (text_in inside) + texts_in (text_in pieces)
texts-block inside pieces =
    let parts = sum_by-append one_text (text_in inside) (Leaves false ∷ text_in pieces) in
    let entered = texts-first (Enters false) (text_in inside ++ Leaves false ∷ text_in pieces) in
    let left = texts-first (Leaves false) (text_in pieces) in
    omega (arith, parts, entered, left)

-- ---- the units of all stand elsewhere

moved-loose : (from to first more : ℕ) → from ≤ first → moved from to (first + more) ≡ moved from to first + more
moved-loose from to first more within = omega (arith, within)

pub moved-begins : (from to first : ℕ) (pieces : Pieces) → from ≤ first → map (moved from to) (begins_in first pieces) ≡ begins_in (moved from to first) pieces
moved-begins from to first Nothing within = refl
moved-begins from to first (Loose part pieces) within =
    moved-begins from to (first + one_text part) pieces (omega (arith, within))
    ∙ ap (λ (n : ℕ). begins_in n pieces) (moved-loose from to first (one_text part) within)
moved-begins from to first (Block inside pieces) within =
    let behind : ℕ = first + texts_in (text_in inside) in
    let inner = moved-begins from to first inside within in
    let later =
    moved-begins from to behind pieces (omega (arith, within))
    ∙ ap (λ (n : ℕ). begins_in n pieces) (moved-loose from to first (texts_in (text_in inside)) within) in
    map-append (moved from to) (begins_in first inside) (first ∷ begins_in behind pieces)
    ∙ (λ i. inner i ++ moved from to first ∷ later i)

-- the units of a block that begin where they stand are moved to where they come
pub moved-first : (from to : ℕ) → moved from to from ≡ to
moved-first from to = omega arith

-- ---- a block among pieces

-- the block at a place among those of pieces, of this text and with this begin: its units are among theirs,
-- and the blocks in it are before it
pub record IsInner (pieces : Pieces) (first place : ℕ) (text : List BlockPart) (begin : ℕ) : Type 0 where
  pub inside : Pieces
  pub text_is : text ≡ text_in inside
  pub cut : AreCut inside
  pub from : first ≤ begin
  pub within : begin + texts_in (text_in inside) ≤ first + texts_in (text_in pieces)
  pub after : blocks_in inside ≤ place

no-item : {X : Type 0} (place : ℕ) (x : X) → slice_get [] place ≡ Some x → ⊥
no-item place x h = cc

-- where the first of them is a block: in it, that one itself, or behind it
module _ (inside pieces : Pieces) (first place : ℕ) (kept : BlockResult) (begin : ℕ) where
  abbrev behind : ℕ
  behind = first + texts_in (text_in inside)

  module _ (here : BlockResult) (results later : List BlockResult) (text_is : here.text ≡ text_in inside) (cut : AreCut inside) (long : length results ≡ blocks_in inside)
      (there : slice_get (results ++ here ∷ later) place ≡ Some kept) (number : slice_get (begins_in first inside ++ first ∷ begins_in behind pieces) place ≡ Some begin) where
    abbrev numbers : List ℕ
    numbers = begins_in first inside

    abbrev later_numbers : List ℕ
    later_numbers = begins_in behind pieces

    as_long : length results ≡ length numbers
    as_long = long ∙ sym (count-begins first inside)

    inner-in : place < length results → (slice_get results place ≡ Some kept → slice_get numbers place ≡ Some begin → IsInner inside first place kept.text begin)
        → IsInner (Block inside pieces) first place kept.text begin
    inner-in below inner =
        let own =
        inner (sym (get-front results (here ∷ later) place below) ∙ there)
        (sym (get-front numbers (first ∷ later_numbers) place (omega (arith, below, as_long))) ∙ number) in
        record {
          inside = own.inside;
          text_is = own.text_is;
          cut = own.cut;
          from = own.from;
          within = omega (arith, own.within, texts-block inside pieces);
          after = own.after;
        }

    inner-itself : place ≡ length results → IsInner (Block inside pieces) first place kept.text begin
    inner-itself is =
        let at : place ≡ length results + 0 = omega (arith, is) in
        let beside : place ≡ length numbers + 0 = omega (arith, is, as_long) in
        let same : here ≡ kept =
        same_Some here kept (sym (ap (slice_get (results ++ here ∷ later)) at ∙ get-behind results (here ∷ later) 0) ∙ there) in
        let begins : first ≡ begin =
        same_Some first begin (sym (ap (slice_get (numbers ++ first ∷ later_numbers)) beside ∙ get-behind numbers (first ∷ later_numbers) 0) ∙ number) in
        record {
          inside = inside;
          text_is = ap (λ (k : BlockResult). k.text) (sym same) ∙ text_is;
          cut = cut;
          from = omega (arith, begins);
          within = omega (arith, begins, texts-block inside pieces);
          after = omega (arith, is, long);
        }

    inner-behind : (n : ℕ) → place ≡ length results + suc n
        → (slice_get later n ≡ Some kept → slice_get later_numbers n ≡ Some begin → IsInner pieces behind n kept.text begin)
        → IsInner (Block inside pieces) first place kept.text begin
    inner-behind n is inner =
        let beside : place ≡ length numbers + suc n = omega (arith, is, as_long) in
        let own =
        inner (sym (ap (slice_get (results ++ here ∷ later)) is ∙ get-behind results (here ∷ later) (suc n)) ∙ there)
        (sym (ap (slice_get (numbers ++ first ∷ later_numbers)) beside ∙ get-behind numbers (first ∷ later_numbers) (suc n)) ∙ number) in
        record {
          inside = own.inside;
          text_is = own.text_is;
          cut = own.cut;
          from = omega (arith, own.from);
          within = omega (arith, own.within, texts-block inside pieces);
          after = omega (arith, own.after, is);
        }

    pub inner-block : IsAt (length results) place → (slice_get results place ≡ Some kept → slice_get numbers place ≡ Some begin → IsInner inside first place kept.text begin)
        → ((n : ℕ) → slice_get later n ≡ Some kept → slice_get later_numbers n ≡ Some begin → IsInner pieces behind n kept.text begin)
        → IsInner (Block inside pieces) first place kept.text begin
    inner-block (Before below) inner later = inner-in below inner
    inner-block (There is) inner later = inner-itself is
    inner-block (Later n is) inner later = inner-behind n is (later n)

-- behind a loose part
inner-loose : (part : BlockPart) (pieces : Pieces) (first place : ℕ) (text : List BlockPart) (begin : ℕ) → IsInner pieces (first + one_text part) place text begin
    → IsInner (Loose part pieces) first place text begin
inner-loose part pieces first place text begin own =
    let all = texts-first part (text_in pieces) in
    record {
      inside = own.inside;
      text_is = own.text_is;
      cut = own.cut;
      from = omega (arith, own.from);
      within = omega (arith, own.within, all);
      after = own.after;
    }

pub is-inner : (pieces : Pieces) (facts : List UnitFacts) (first place : ℕ) (kept : BlockResult) (begin : ℕ) → AreCut pieces
    → slice_get (map block_result (blocks_over facts pieces)) place ≡ Some kept → slice_get (begins_in first pieces) place ≡ Some begin
    → IsInner pieces first place kept.text begin
unfolding blocks_over
is-inner Nothing facts first place kept begin cut there number = absurd (no-item place begin number)
is-inner (Loose part pieces) facts first place kept begin cut there number =
    inner-loose part pieces first place kept.text begin
    (is-inner pieces (facts_over facts (part ∷ [])) (first + one_text part) place kept begin cut.1 there number)
is-inner (Block inside pieces) facts first place kept begin cut there number =
    let results : List BlockResult = map block_result (blocks_over (with_entering facts) inside) in
    let later : List BlockResult = map block_result (blocks_over (facts_behind facts inside) pieces) in
    let here : BlockResult = block_result (block_at facts inside) in
    let parts = map-append block_result (blocks_over (with_entering facts) inside) (block_at facts inside ∷ blocks_over (facts_behind facts inside) pieces) in
    let at : slice_get (results ++ here ∷ later) place ≡ Some kept = sym (ap (λ (ks : List BlockResult). slice_get ks place) parts) ∙ there in
    inner-block inside pieces first place kept begin here results later refl cut.1.0 (count-inner_results facts inside) at number (is-at (length results) place)
    (is-inner inside (with_entering facts) first place kept begin cut.1.0)
    (λ n. is-inner pieces (facts_behind facts inside) (first + texts_in (text_in inside)) n kept begin cut.1.1)

-- ---- all of them begin among the units

abbrev AreWithin : ℕ → ℕ → List ℕ → Type 0
AreWithin first end numbers = All (λ n. (first ≤ n) × (n ≤ end)) numbers

wider : (first end low high : ℕ) (numbers : List ℕ) → low ≤ first → end ≤ high → AreWithin first end numbers → AreWithin low high numbers
wider first end low high numbers before behind within =
    All-weaker (λ n. (first ≤ n) × (n ≤ end)) (λ n. (low ≤ n) × (n ≤ high)) (λ n h. (omega (arith, before, h.0), omega (arith, behind, h.1))) numbers within

pub begins-within : (first : ℕ) (pieces : Pieces) → All (λ n. (first ≤ n) × (n ≤ first + texts_in (text_in pieces))) (begins_in first pieces)
begins-within first Nothing = All-nil (λ n. (first ≤ n) × (n ≤ first + texts_in (text_in Nothing)))
begins-within first (Loose part pieces) =
    let all = texts-first part (text_in pieces) in
    wider (first + one_text part) (first + one_text part + texts_in (text_in pieces)) first (first + texts_in (text_in (Loose part pieces))) (begins_in (first + one_text part) pieces)
    (omega arith) (omega (arith, all)) (begins-within (first + one_text part) pieces)
begins-within first (Block inside pieces) =
    let behind : ℕ = first + texts_in (text_in inside) in
    let end : ℕ = first + texts_in (text_in (Block inside pieces)) in
    let all = texts-block inside pieces in
    let P : ℕ → Type 0 = λ n. (first ≤ n) × (n ≤ end) in
    All-append P (begins_in first inside) (first ∷ begins_in behind pieces)
    (wider first behind first end (begins_in first inside) (omega arith) (omega (arith, all)) (begins-within first inside))
    (All-cons P first (begins_in behind pieces) (omega arith, omega arith)
    (wider behind (behind + texts_in (text_in pieces)) first end (begins_in behind pieces) (omega arith) (omega (arith, all)) (begins-within behind pieces)))
