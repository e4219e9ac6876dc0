-- What becomes of the lists of units and blocks, and of their drafts.
use Rattle.std.specs.Prelude.{ℕ}
use Rattle.idl_kept.specs.Texts.{Texts}
use Rattle.idl_store.specs.Stored.{begun, committed, nothing_stored, removed}

-- nothing is kept
abbrev pub no_texts : Texts
no_texts = record {
  declarations = nothing_stored;
  blocks = nothing_stored;
  begins = nothing_stored;
}

-- with a draft more of each, without results, of the lists of a root
abbrev pub begun_texts : Texts → ℕ → Texts
begun_texts texts root = record {
  declarations = begun texts.declarations root;
  blocks = begun texts.blocks root;
  begins = begun texts.begins root;
}

-- with each draft in the place of its list
abbrev pub committed_texts : Texts → Texts
committed_texts texts = record {
  declarations = committed texts.declarations;
  blocks = committed texts.blocks;
  begins = committed texts.begins;
}

-- without the lists of a root: those behind them move up
abbrev pub removed_texts : Texts → ℕ → Texts
removed_texts texts root = record {
  declarations = removed texts.declarations root;
  blocks = removed texts.blocks root;
  begins = removed texts.begins root;
}
