-- The table of changes: for whom each of them counts.
--     wire      a program built from the old listing can't call one built from the new one, or a
--               type has other bytes, another id or another meaning by place
--     client    source that calls or uses what the old listing has doesn't compile against the new
--               one, or means something else
--     servant   source that implements the old interfaces doesn't
--     names     all else that differs: it neither goes over the wire nor stands in source
--     new       nothing differs: it is there besides
use Rattle.std.specs.Prelude.{ℕ, List, true, false, ◌||◌, codes, if◌then◌else◌}
use Rattle.idl_changes.specs.declared.rows.Item.{Item}
use Rattle.idl_changes.specs.declared.rows.Item.TheVariants.{Enumerator, Member, Parameter}
use Rattle.idl_changes.specs.declared.rows.Line.{Line}
use Rattle.idl_changes.specs.declared.rows.Line.TheVariants as line
use Rattle.idl_changes.specs.declared.rows.Weights.{Weights}

-- the sets of weights that there are
abbrev pub nobody : Weights
nobody = record { wire = false; client = false; servant = false; names = false; added = false }

abbrev pub everyone : Weights
everyone = record { wire = true; client = true; servant = true; names = false; added = false }

abbrev pub callers : Weights
callers = record { wire = true; client = true; servant = false; names = false; added = false }

abbrev pub wire_alone : Weights
wire_alone = record { wire = true; client = false; servant = false; names = false; added = false }

abbrev pub source : Weights
source = record { wire = false; client = true; servant = true; names = false; added = false }

abbrev pub servants : Weights
servants = record { wire = false; client = false; servant = true; names = false; added = false }

abbrev pub names_alone : Weights
names_alone = record { wire = false; client = false; servant = false; names = true; added = false }

abbrev pub added_alone : Weights
added_alone = record { wire = false; client = false; servant = false; names = false; added = true }

-- the table
abbrev pub weights_of : Line → Weights
-- interface, struct, union, enum, exception gone; module, constant, alias, native gone
weights_of line.SentGone = everyone
weights_of line.UnsentGone = source
-- operation, attribute: no longer offered; offered now
weights_of line.CalledGone = callers
weights_of line.CalledNew = servants
-- another entry that is new
weights_of line.EntryNew = added_alone
-- another id of what is sent, and of what isn't
weights_of line.SentId = wire_alone
weights_of line.OtherId = names_alone
-- another path of what isn't called; another kind; local put on or taken off
weights_of line.Path = source
weights_of line.Kind = everyone
weights_of line.Local = everyone
-- base gone from what an interface inherits; one more, which brings more to call, or brings nothing
weights_of line.BaseGone = callers
weights_of line.BringingBase = servants
weights_of line.BareBase = added_alone
-- items gone, more, in another order, renamed in place
weights_of (line.ItemGone Member) = everyone
weights_of (line.ItemGone Parameter) = everyone
weights_of (line.ItemGone Enumerator) = everyone
weights_of (line.ItemNew Member) = everyone
weights_of (line.ItemNew Parameter) = everyone
weights_of (line.ItemNew Enumerator) = wire_alone
weights_of (line.ItemOrder Member) = everyone
weights_of (line.ItemOrder Parameter) = everyone
weights_of (line.ItemOrder Enumerator) = wire_alone
weights_of (line.ItemName Member) = source
weights_of (line.ItemName Parameter) = names_alone
weights_of (line.ItemName Enumerator) = source
-- another base of a struct; another direction of a parameter
weights_of line.StructBase = everyone
weights_of line.Direction = everyone
-- a label that selects nothing now, or selected nothing; a member of another name; `default`
weights_of line.CaseGone = everyone
weights_of line.CaseNew = wire_alone
weights_of line.CaseName = source
weights_of line.DefaultGone = everyone
weights_of line.DefaultNew = wire_alone
-- a type that isn't sent the same; one that is, whose plain type has layers, or has none
weights_of line.Type = everyone
weights_of line.LayeredType = source
weights_of line.AliasedType = names_alone
-- a constant: another type, another alias of it, another value
weights_of line.ConstantType = source
weights_of line.ConstantAlias = names_alone
weights_of line.ConstantValue = source
-- oneway put on or taken off; another context
weights_of line.Oneway = wire_alone
weights_of line.Context = everyone
-- one exception more; one gone
weights_of line.ExceptionNew = callers
weights_of line.ExceptionGone = source
-- readonly put on; taken off
weights_of line.ReadonlyOn = callers
weights_of line.ReadonlyOff = servants

-- what is called on a local interface never goes over the wire: what counted there alone counts in
-- source
abbrev pub eased : Weights → Weights
eased weights =
    if weights.wire
    then (if weights.client || weights.servant then record weights { wire = false } else source)
    else weights

-- the word of an item
abbrev pub item_word : Item → List ℕ
item_word Member = codes "member"
item_word Parameter = codes "parameter"
item_word Enumerator = codes "enumerator"
