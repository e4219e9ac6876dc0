use Rattle.std.proofs.Common.{rules}
use Rattle.idl_changes.proofs.details.compare_parts.Goals as goal
use Rattle.idl_changes.proofs.details.compare_parts.Goals.{in_default-via-in-ObjectReference+in_default, in_default-via-in-LocalInterface+in_default, in_default-via-in-Native+in_default, in_default-via-in-Structure+in_default, in_default-via-in-Exception+in_default, in_default-via-in-Union+in_default, in_default-via-in-Enumeration+in_default, in_default-via-in-Alias+in_default}

pub returns-in_default : goal.returns-in_default
returns-in_default c = elim c.in_default.branch [
  | in_default-via-in-ObjectReference+in_default w ↦ search rules
  | in_default-via-in-LocalInterface+in_default w ↦ search rules
  | in_default-via-in-Native+in_default w ↦ search rules
  | in_default-via-in-Structure+in_default w ↦ search rules
  | in_default-via-in-Exception+in_default w ↦ search rules
  | in_default-via-in-Union+in_default w ↦ search rules
  | in_default-via-in-Enumeration+in_default w ↦ search rules
  | in_default-via-in-Alias+in_default w ↦ search rules
]
