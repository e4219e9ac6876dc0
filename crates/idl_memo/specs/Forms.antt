-- How logs are held, and their parts lent.
use Rattle.std.specs.Prelude.{ℕ, List, Option, flat_map, length}
use Rattle.idl_memo.specs.Parts.{part_entries}
use Rattle.idl_memo.specs.declared.kept_log.Form.{Form}
use Rattle.idl_memo.specs.declared.kept_log.Form.TheVariants.{Plain, Digested, Parted, Dated}
use Rattle.idl_memo.specs.declared.lent_parts.Held.{Held}
use Rattle.idl_memo.specs.declared.lent_parts.Held.TheVariants as held
use Rattle.idl_memo.specs.declared.run.Part.{Part}

-- the entries of a log that is held so
abbrev pub form_entries : {E : Type 0} → Form E (List E) (List E) (List E) → List E
form_entries (Plain entries) = entries.items
form_entries (Digested both) = both.value
form_entries (Parted parts) = parts.value
form_entries (Dated log) = log.value

-- parts that are still to come: their entries, and how many parts they are
pub record PartsLeft (K V : Type 0) : Type 0 where
  pub entries : List (K × Option V)
  pub count : ℕ

-- those that are held so
abbrev pub held_parts : {K V : Type 0} → Held (K × Option V) (Part K V (List (K × Option V)))
    (List (K × Option V)) → PartsLeft K V
held_parts (held.Plain entries) = record { entries = entries.now; count = length entries.now }
held_parts (held.Parted parts) =
    record { entries = flat_map part_entries parts.now; count = length parts.now }
held_parts (held.Dated entries) = record { entries = entries; count = length entries }
