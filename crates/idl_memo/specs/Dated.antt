-- Entries that logs share: each has a date, and a log has those before its own.
use Rattle.std.specs.Prelude.{ℕ, List, Option, Vec, flat_map, map, nat_lt}
use Rattle.std.specs.Global.{Global}
use Rattle.std.specs.List.{filter}
use Rattle.std.specs.declared.rc.Rc.{Rc}
use Rattle.idl_memo.specs.declared.dated.Dated.{Dated}

module _ {K V : Type 0} where
  -- an entry without its date
  abbrev pub entry_of : Dated K V → K × Option V
  entry_of dated = (dated.key, dated.answer)

  -- the entries before a date
  abbrev pub entries_before : ℕ → List (Dated K V) → List (K × Option V)
  entries_before before entries = map entry_of (filter (λ e. nat_lt e.date before) entries)

  -- the entries on pages, one page after another
  abbrev pub dated_on : List (Rc (Vec (Dated K V) Global) Global) → List (Dated K V)
  dated_on pages = flat_map (λ page. page.value.items) pages
