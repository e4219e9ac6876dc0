use Rattle.std.proofs.Common.{◌≡◌, ◌≤◌, ◌+◌, ◌^◌, take}
use Rattle.std.specs.Str.Parse.{digits_value}
use Rattle.idl_editor.proofs.frames.head.number_of.Given as goal

abbrev pub invariant-loop-digit : goal.invariant-loop-digit
invariant-loop-digit l = record {
  value : l.number ≡ digits_value 10 (take l.digit-index l.digits);
  bound : l.number + 1 ≤ 10 ^ l.digit-index;
}
