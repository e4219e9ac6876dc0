-- What was noted in open blocks as they are held, and what they have asked.
use Rattle.std.proofs.Common.{◌≡◌, ℕ, zero, suc, List, [], ◌∷◌, ◌++◌, append-nil, append_assoc, arith, get_or, length, map, refl, set, sym, ap, ◌∙◌}
use Rattle.std.specs.List.{filter}
use Rattle.std.specs.Prelude.{flat_map, nat_lt}
use Rattle.std.proofs.lemmas.List.{map-append}
use Rattle.std.proofs.lemmas.List.Elements.{filter-append}
use Rattle.idl_env.specs.declared.answering.answer.Answer.{Answer}
use Rattle.idl_env.specs.declared.keys.key.Key.{Key}
use Rattle.idl_memo.specs.Dated.{entries_before, entry_of}
use Rattle.idl_memo.specs.declared.dated.Dated.{Dated}
use Rattle.idl_root_blocks.specs.Asking.{OpenBlock, noted_in, seen_blocks, with_dated}
use Rattle.idl_root_blocks.specs.declared.held.HeldBlock.{HeldBlock}
use Rattle.idl_root_blocks.specs.declared.text.BlockPart.{BlockPart}

abbrev Entries : Type 0
Entries = List (Dated Key Answer)

-- the entries before a date, of some and more
before-append : (before : ℕ) (some more : Entries) → entries_before before (some ++ more) ≡ entries_before before some ++ entries_before before more
before-append before some more =
    ap (map entry_of) (filter-append (λ e. nat_lt e.date before) some more)
    ∙ map-append entry_of (filter (λ e. nat_lt e.date before) some) (filter (λ e. nat_lt e.date before) more)

-- one block is seen, and those inside it
abbrev seen : HeldBlock → Entries → OpenBlock
seen block all = record { text = block.text; start = block.start; log = entries_before block.start all }

-- the last block of these
module _ (b : HeldBlock) where
  -- what is noted in it is noted behind what is noted around it
  module _ (new : HeldBlock) (more : Entries) (noted : noted_in new ≡ noted_in b ++ more) where
    all-more : (around : List HeldBlock) → flat_map noted_in (around ++ new ∷ []) ≡ flat_map noted_in (around ++ b ∷ []) ++ more
    all-more [] = append-nil (noted_in new) ∙ noted ∙ ap (λ es. es ++ more) (sym (append-nil (noted_in b)))
    all-more (x ∷ around) = ap (λ es. noted_in x ++ es) (all-more around) ∙ sym (append_assoc (noted_in x) (flat_map noted_in (around ++ b ∷ [])) more)

  -- an entry more in it is one in each of them
  pub seen-dated : (new : HeldBlock) (e : Dated Key Answer) → new.text ≡ b.text → new.start ≡ b.start → noted_in new ≡ noted_in b ++ e ∷ [] → (around : List HeldBlock)
      → seen_blocks (around ++ new ∷ []) ≡ map (with_dated e) (seen_blocks (around ++ b ∷ []))
  seen-dated new e text start noted [] =
      let log : entries_before b.start (noted_in new ++ []) ≡ entries_before b.start (noted_in b ++ []) ++ entries_before b.start (e ∷ []) =
      ap (entries_before b.start) (append-nil (noted_in new) ∙ noted ∙ ap (λ es. es ++ e ∷ []) (sym (append-nil (noted_in b)))) ∙ before-append b.start (noted_in b ++ []) (e ∷ []) in
      (λ i. record { text = text i; start = start i; log = entries_before (start i) (noted_in new ++ []) } ∷ [])
      ∙ (λ i. record { text = b.text; start = b.start; log = log i } ∷ [])
  seen-dated new e text start noted (x ∷ around) =
      let all : flat_map noted_in ((x ∷ around) ++ new ∷ []) ≡ flat_map noted_in ((x ∷ around) ++ b ∷ []) ++ e ∷ [] = all-more new (e ∷ []) noted (x ∷ around) in
      (λ i. seen x (all i) ∷ seen-dated new e text start noted around i)
      ∙ (λ i. record { text = x.text; start = x.start; log = before-append x.start (flat_map noted_in ((x ∷ around) ++ b ∷ [])) (e ∷ []) i } ∷ map (with_dated e) (seen_blocks (around ++ b ∷ [])))

  -- where nothing is noted in it yet it changes nothing around it
  pub seen-entered : noted_in b ≡ [] → (around : List HeldBlock) → seen_blocks (around ++ b ∷ []) ≡ seen_blocks around ++ record { text = b.text; start = b.start; log = [] } ∷ []
  seen-entered none [] = λ i. seen b (none i ++ []) ∷ []
  seen-entered none (x ∷ around) = λ i. seen x (noted_in x ++ all around i) ∷ seen-entered none around i
    where
      all : (around : List HeldBlock) → flat_map noted_in (around ++ b ∷ []) ≡ flat_map noted_in around
      all [] = append-nil (noted_in b) ∙ none
      all (y ∷ around) = ap (λ es. noted_in y ++ es) (all around)

-- the innermost block is left: what was noted in it goes to the one around it
module _ (outer new inner : HeldBlock) (text : new.text ≡ outer.text) (start : new.start ≡ outer.start) (noted : noted_in new ≡ noted_in outer ++ noted_in inner) where
  all-left : (around : List HeldBlock) → flat_map noted_in ((around ++ outer ∷ []) ++ inner ∷ []) ≡ flat_map noted_in (around ++ new ∷ [])
  all-left [] = ap (λ es. noted_in outer ++ es) (append-nil (noted_in inner)) ∙ sym noted ∙ sym (append-nil (noted_in new))
  all-left (x ∷ around) = ap (λ es. noted_in x ++ es) (all-left around)

  pub seen-left : (around : List HeldBlock) → seen_blocks ((around ++ outer ∷ []) ++ inner ∷ []) ≡ seen_blocks (around ++ new ∷ []) ++ seen_blocks (inner ∷ [])
  seen-left [] =
      let texts = sym text in
      let starts = sym start in
      λ i. record { text = texts i; start = starts i; log = entries_before (starts i) (all-left [] i) } ∷ seen_blocks (inner ∷ [])
  seen-left (x ∷ around) = λ i. seen x (noted_in x ++ all-left around i) ∷ seen-left around i

-- ---- the last of a list, by its place

pub none-of : {X : Type 0} (xs : List X) → length xs ≡ 0 → xs ≡ []
none-of [] none = refl
none-of (x ∷ xs) none = absurd (omega (arith, none))

last-of : {X : Type 0} (xs : List X) (at : ℕ) (x new : X) → suc at ≡ length xs → x ≡ get_or xs at x
    → (around : List X) × (xs ≡ around ++ x ∷ []) × (set xs at new ≡ around ++ new ∷ [])
last-of [] at x new count is = absurd (omega (arith, count))
last-of (y ∷ []) zero x new count is = ([], ap (λ z. z ∷ []) (sym is), refl)
last-of (y ∷ []) (suc at) x new count is = absurd (omega (arith, count))
last-of (y ∷ z ∷ xs) zero x new count is = absurd (omega (arith, count))
last-of (y ∷ z ∷ xs) (suc at) x new count is =
    let rest = last-of (z ∷ xs) at x new (omega (arith, count)) is in (
      y ∷ rest.0,
      ap (λ l. y ∷ l) rest.1,
      ap (λ l. y ∷ l) rest.2,
    )

module _ (blocks : List HeldBlock) where
  module _ (at : ℕ) (b new : HeldBlock) (count : suc at ≡ length blocks) (is : b ≡ get_or blocks at b) (text : new.text ≡ b.text) (start : new.start ≡ b.start) where
    pub dated-last : (e : Dated Key Answer) → noted_in new ≡ noted_in b ++ e ∷ [] → seen_blocks (set blocks at new) ≡ map (with_dated e) (seen_blocks blocks)
    dated-last e noted =
        let found = last-of blocks at b new count is in
        ap seen_blocks found.2
        ∙ seen-dated b new e text start noted found.0
        ∙ ap (λ bs. map (with_dated e) (seen_blocks bs)) (sym found.1)

    pub joined-last : (inner : HeldBlock) → noted_in new ≡ noted_in b ++ noted_in inner → seen_blocks (blocks ++ inner ∷ []) ≡ seen_blocks (set blocks at new) ++ seen_blocks (inner ∷ [])
    joined-last inner noted =
        let found = last-of blocks at b new count is in
        ap (λ bs. seen_blocks (bs ++ inner ∷ [])) found.1
        ∙ seen-left b new inner text start noted found.0
        ∙ ap (λ bs. seen_blocks bs ++ seen_blocks (inner ∷ [])) (sym found.2)

  -- where the innermost was entered
  pub started-last : (at : ℕ) (b : HeldBlock) → suc at ≡ length blocks → b ≡ get_or blocks at b
      → (around : List OpenBlock) × (block : OpenBlock) × (seen_blocks blocks ≡ around ++ block ∷ []) × (block.start ≡ b.start)
  started-last at b count is =
      let found = last-of blocks at b b count is in
      let last = seen-last found.0 in (
        last.0,
        last.1,
        ap seen_blocks found.1 ∙ last.2,
        last.3,
      )
    where
      seen-last : (around : List HeldBlock) → (others : List OpenBlock) × (block : OpenBlock) × (seen_blocks (around ++ b ∷ []) ≡ others ++ block ∷ []) × (block.start ≡ b.start)
      seen-last [] = ([], seen b (noted_in b ++ []), refl, refl)
      seen-last (x ∷ around) =
          let rest = seen-last around in (
            seen x (flat_map noted_in ((x ∷ around) ++ b ∷ [])) ∷ rest.0,
            rest.1,
            ap (λ bs. seen x (flat_map noted_in ((x ∷ around) ++ b ∷ [])) ∷ bs) rest.2,
            rest.3,
          )

-- none is open
pub seen-nothing : (blocks : List HeldBlock) → seen_blocks blocks ≡ [] → blocks ≡ []
seen-nothing [] none = refl
seen-nothing (b ∷ blocks) none = absurd (let z : length (seen_blocks (b ∷ blocks)) ≡ 0 = ap length none in omega (arith, z))

-- a block is entered
pub entered-last : (blocks : List HeldBlock) (block : HeldBlock) (text : List BlockPart) (start : ℕ) → noted_in block ≡ [] → block.text ≡ text → block.start ≡ start
    → seen_blocks (blocks ++ block ∷ []) ≡ seen_blocks blocks ++ record { text = text; start = start; log = [] } ∷ []
entered-last blocks block text start none texts starts =
    seen-entered block none blocks
    ∙ (λ i. seen_blocks blocks ++ record { text = texts i; start = starts i; log = [] } ∷ [])
