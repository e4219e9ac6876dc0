-- How a walk is kept, and one site of it; and what a pragma says.
use Rattle.std.specs.Prelude.{ℕ, ◌+◌, ◌≤◌, List, [], ◌∷◌, Result, Ok, Err}
use Rattle.idl_check.specs.tables.Declaring.{Written}
use Rattle.idl_check.specs.ids.About.{Said, about, refused_for}
use Rattle.idl_check.specs.ids.Pragmas.{said}
use Rattle.idl_check.specs.ids.Remarks.{is_bad_id, remarked, unless}
use Rattle.idl_check.specs.Apart.{boxed_or}
use Rattle.idl_check.specs.told.Values.{Values, nothing_kept}
use Rattle.idl_check.specs.walk.Walk.{turns_at, Walk, cut_name, head_of, head_visit, looked_at, noted_in, spoken_of, used}
use Rattle.idl_check.specs.declared.tables.declaring.Written.{Written as LastWritten}
use Rattle.idl_check.specs.walk.Verdict.{pragma_verdict}
use Rattle.idl_check.specs.declared.ids.remark.IdStatement.{IdStatement}
use Rattle.idl_check.specs.declared.ids.remark.IdStatement.TheVariants as statement
use Rattle.idl_check.specs.declared.ids.remark.Remark.{Remark}
use Rattle.idl_check.specs.declared.told.values.Values.{Values as ToldValues}
use Rattle.idl_check.specs.declared.walk.verdict.Verdict.{Verdict}
use Rattle.idl_check.specs.declared.walk.walker.Walker.{Walker}
use Rattle.idl_memo.specs.Query.{Done, and_then}
use Rattle.idl_scope.specs.Lookup.{Lookup, denoted, under}
use Rattle.idl_env.specs.declared.answering.answer.Scope.{Scope}
use Rattle.idl_entity.specs.declared.identity.Fixed.{Fixed}
use Rattle.idl_entity.specs.declared.identity.Fixed.TheVariants as fixed
use Rattle.idl_parts.specs.Item.{Item, items_length}
use Rattle.idl_parts.specs.declared.part.TextPurpose.{TextPurpose}
use Rattle.idl_parts.specs.declared.part.Use.{Use}
use Rattle.idl_tree.specs.declared.name.ScopedName.{ScopedName}
use Rattle.idl_tree.specs.declared.pragma.Pragma.{Pragma}
use Rattle.idl_tree.specs.declared.pragma.Pragma.TheVariants as pragma
use Rattle.idl_unit.specs.declared.fault.Fault.{Fault}

abbrev pub held_values : ToldValues → Values
held_values values = record {
  begin = values.begin;
  operands = (boxed_or nothing_kept values.kept).operands;
  told = (boxed_or nothing_kept values.kept).told;
  bound = values.bound;
  lengths = (boxed_or nothing_kept values.kept).lengths;
  constant = values.constant;
}

abbrev pub held_written : LastWritten → Written
held_written written = record {
  data_type = written.data_type;
  constants = written.constants;
  enumeration = written.enumeration;
  enumerators = written.enumerators;
}

abbrev pub held : Walker → Walk
held w = record {
  at = w.at;
  cursor = w.cursor;
  own = w.own.additions;
  begun = w.begun;
  bases = w.bases;
  written = held_written w.written;
  last = w.last;
  bodies = w.bodies;
  clauses = w.clauses;
  unions = w.unions.items;
  text = w.text;
  found = w.found;
  values = held_values w.values;
  fault = w.fault;
}

-- a site, whose first fault is noted
abbrev pub visited : ℕ → Item → Walk → Lookup Walk
visited turns site w = and_then (looked_at turns site w) (λ v. Done (noted_in v w.fault))

-- the same of a used name that is looked at whole, of one that is cut, and of its first part there
abbrev pub used_noted : ℕ → Use → ScopedName → Walk → Lookup Walk
used_noted turns way name w = and_then (used turns way name w) (λ v. Done (noted_in v w.fault))

abbrev pub cut_noted : ℕ → Use → ScopedName → Walk → Lookup Walk
cut_noted turns way name w = and_then (cut_name turns way name w) (λ v. Done (noted_in v w.fault))

-- and of one of which something is said
abbrev pub spoken_noted : ℕ → TextPurpose → ScopedName → Walk → Lookup Walk
spoken_noted turns purpose name w =
    and_then (spoken_of turns purpose name w) (λ v. Done (noted_in v w.fault))

abbrev pub head_noted : ℕ → ScopedName → Walk → Lookup Walk
head_noted turns name w =
    and_then (under w.own (denoted (turns_at turns w) w.cursor (head_of name)))
    (λ r. Done (noted_in (head_visit name w r) w.fault))

-- the numbers of the tokens of these sites fit into a word
abbrev pub HasRoomFor : Walk → List Item → Type 0
HasRoomFor w sites = w.at + items_length sites ≤ 18446744073709551615

-- a pragma, by what it says
abbrev pub spoken : ℕ → List Scope → Pragma → Lookup Verdict
spoken turns scopes p = and_then (said turns scopes p) (λ s. Done (pragma_verdict s))

-- what is fixed of an id by what is said of it
abbrev pub fixed_by : IdStatement → Fixed
fixed_by (statement.Text characters) = fixed.Id characters.now
fixed_by (statement.Version major minor) = fixed.Version major minor

-- the pragma by which this is fixed of the id of what a name denotes
abbrev pub pragma_by : ScopedName → Fixed → Pragma
pragma_by name (fixed.Id text) = pragma.Id name text
pragma_by name (fixed.Version major minor) = pragma.Version name major minor

-- what it says; it adds nothing where its text may be no id
abbrev pub identified_by : ℕ → List Scope → ScopedName → Fixed → Lookup Said
identified_by turns scopes name change =
    and_then (about 2 turns scopes name change) (λ s. Done (unless (is_bad_id change) s))

-- a remark on what a name denotes that ends at this token, or the name's fault
abbrev pub said_of : ℕ → Result Remark Fault → Said
said_of at (Ok r) = remarked at r
said_of at (Err fault) = refused_for (fault ∷ [])
