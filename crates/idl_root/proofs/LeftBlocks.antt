-- A block that is entered, judged and left.
use Rattle.std.proofs.Common.{◌≡◌, ◌≤◌, ◌∙◌, Bool, false, ℕ, List, [], ◌∷◌, ◌++◌, length, subst, sym, ap}
use Rattle.idl_root_blocks.specs.verdicts.Standing.{IsBlockFront}
use Rattle.idl_env.specs.Facts.{UnitFacts, answers}
use Rattle.idl_memo.specs.Meter.{most_compared}
use Rattle.idl_kept.specs.Texts.{BlockResult, IsLast, Texts, with_blocks, with_whole}
use Rattle.idl_root.proofs.BlockLemmas.{keys-by, keys-inside, last-kept, left-kept}
use Rattle.idl_root.proofs.OpenLemmas.{all-others}
use Rattle.idl_root.specs.Passed.{AllGoOn, ArePassed, GoesOn, HasDrafts, MayBeLeft, WalksOnly, keys_behind}
use Rattle.idl_root.specs.declared.kept.keeping.Keeping.{Keeping}
use Rattle.idl_root_blocks.proofs.Cuts.{cut-blocks, cut-whole}
use Rattle.idl_root_blocks.specs.Asking.{OpenBlock, kept_of}
use Rattle.idl_root_blocks.specs.Blocks.{IsOfBlock, Pieces, cut, parts_of, text_in}
use Rattle.idl_root_blocks.specs.Met.{outermost_keys}
use Rattle.idl_root_blocks.specs.Places.{Stands, block_at, block_result, facts_over, with_entering}
use Rattle.idl_root_blocks.specs.declared.text.BlockPart.{BlockPart as Part}
use Rattle.idl_root_blocks.specs.declared.text.BlockPart.TheVariants.{Enters, Leaves}
use Rattle.idl_store.specs.Stored.{last_draft}

module _ (facts : List UnitFacts) (text : List Part) (whole : IsOfBlock text) (parts : (text : List Part) → IsOfBlock text → IsBlockFront (parts_of text))
    (kept between : Texts) (old first inside later : Keeping) (has : HasDrafts kept)
    (walks : WalksOnly old first)
    (enters : inside.blocks.blocks ≡ first.blocks.blocks ++ record { text = text; start = length (with_entering facts); log = [] } ∷ [])
    (rest : inside ≡ record first { blocks = inside.blocks })
    (passed : ArePassed (with_entering facts) (cut text) kept inside between later)
  where
    abbrev entered : OpenBlock
    entered = record { text = text; start = length (with_entering facts); log = [] }

    abbrev own : Pieces
    own = cut text

    abbrev begin : ℕ
    begin = length (last_draft kept.declarations)

    blocks-are : inside.blocks.blocks ≡ old.blocks.blocks ++ entered ∷ []
    blocks-are = enters ∙ ap (λ (k : Keeping). k.blocks.blocks ++ entered ∷ []) walks

    -- the others, and the block itself
    pub others : (left : List OpenBlock) × (block : OpenBlock) × (later.blocks.blocks ≡ left ++ block ∷ [])
        × AllGoOn (with_entering facts) text old.blocks.blocks left × GoesOn (with_entering facts) text entered block
    others =
        all-others (with_entering facts) text old.blocks.blocks entered later.blocks.blocks
        (subst (λ (t : List Part). AllGoOn (with_entering facts) t (old.blocks.blocks ++ entered ∷ []) later.blocks.blocks) (cut-whole text)
        (subst (λ (bs : List OpenBlock). AllGoOn (with_entering facts) (text_in own) bs later.blocks.blocks) blocks-are passed.blocks))

    abbrev pub left : List OpenBlock
    left = others.0

    abbrev pub block : OpenBlock
    block = others.1

    pub innermost : later.blocks.blocks ≡ left ++ block ∷ []
    innermost = others.2

    module _ (stands : Stands facts text) (law : (before : List UnitFacts) (text : List Part) (old new : OpenBlock) → IsBlockFront (parts_of text) → Stands before text
        → old ≡ record { text = text; start = length (with_entering before); log = [] } → GoesOn (with_entering before) text old new → kept_of new ≡ block_result (text, answers before)) where
      kept-are : kept_of block ≡ block_result (text, answers facts)
      kept-are = law facts text entered block (parts text whole) stands (λ i. entered) others.4

      kept-at : kept_of block ≡ block_result (block_at facts own)
      kept-at = kept-are ∙ ap (λ (t : List Part). block_result (t, answers facts)) (sym (cut-whole text))

      -- it may be left
      pub may-be-left : MayBeLeft between begin facts own left later.blocks.blocks
      may-be-left = record {
        block = block;
        innermost = innermost;
        placed = record {
          cut = cut-blocks text;
          block = subst IsOfBlock (sym (cut-whole text)) whole;
          standing = subst (Stands facts) (sym (cut-whole text)) stands;
        };
        last = subst (λ (t : Texts). IsLast t begin facts own) (sym passed.kept_is) (last-kept kept facts own has);
        kept = kept-at;
      }

      -- and then all is kept of it
      pub whole-left : (new : Texts) (n : ℕ) → n ≡ begin → new ≡ with_blocks between (kept_of block ∷ []) (n ∷ []) → new ≡ with_whole kept facts own
      whole-left new n is grows = grows ∙ (λ i. with_blocks (passed.kept_is i) (kept-at i ∷ []) (is i ∷ [])) ∙ left-kept kept facts own

      -- what it asks
      pub asked-left : length block.log ≡ length (block_result (text, answers facts)).log
      asked-left = ap (λ (r : BlockResult). length r.log) kept-are

      -- which is counted, where it stands in no block
      pub keys-left : (keys : ℕ) → keys ≡ keys_behind left later.keys (length block.log) → old.keys ≤ most_compared
          → keys ≡ keys_behind old.blocks.blocks old.keys (length (block_result (text, answers facts)).log)
      keys-left keys is within =
          let more : ℕ = outermost_keys (with_entering facts) own in
          let same : later.keys ≡ old.keys =
          passed.keys (subst (λ (k : Keeping). k.keys ≤ most_compared) (sym rest) (subst (λ (k : Keeping). k.keys ≤ most_compared) (sym walks) within))
          ∙ ap (λ (bs : List OpenBlock). keys_behind bs inside.keys more) blocks-are
          ∙ keys-inside old.blocks.blocks entered inside.keys more
          ∙ ap (λ (k : Keeping). k.keys) rest
          ∙ ap (λ (k : Keeping). k.keys) walks in
          is
          ∙ (λ i. keys_behind (others.3.all i) (same i) (asked-left i))
          ∙ keys-by old.blocks.blocks others.3.by old.keys (length (block_result (text, answers facts)).log)

    -- the blocks around it go on with all of it
    pub around : ((facts : List UnitFacts) (b : Bool) (blocks : List OpenBlock) → AllGoOn facts (Enters b ∷ []) blocks blocks × AllGoOn facts (Leaves b ∷ []) blocks blocks)
        → ((facts : List UnitFacts) (a b : List Part) (old between new : List OpenBlock) → AllGoOn facts a old between → AllGoOn (facts_over facts a) b between new → AllGoOn facts (a ++ b) old new)
        → AllGoOn facts (Enters false ∷ (text ++ Leaves false ∷ [])) old.blocks.blocks left
    around boundary more =
        more facts (Enters false ∷ []) (text ++ Leaves false ∷ []) old.blocks.blocks old.blocks.blocks left (boundary facts false old.blocks.blocks).0
        (more (with_entering facts) text (Leaves false ∷ []) old.blocks.blocks left left others.3 (boundary (facts_over (with_entering facts) text) false left).1)
